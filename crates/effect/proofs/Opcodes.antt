-- What a cell asks for, by its opcode: the opcodes of their own one by one, 16 to 53 by their form, 80 to 106 by theirs, and all others.
-- Assumes nothing.
use Prim.Native.Nat.{ℕ, ◌≤◌, ◌<◌}
use mathlib.Core.Path.{◌≡◌, refl}
use mathlib.Core.Bool.{false}
use native.Mathlib.Omega.{arith}
use borrow.Author.Tests.{le-leb, lt-leb, ne_eqb}
use Rattle.half.specs.declared.Extension.TheVariants.{Se, Ex}
use Rattle.cell.specs.declared.Form.TheVariants as form
use Rattle.cell.specs.declared.Instruction.TheVariants.{Registers, Immediate}
use Rattle.cell.specs.Cell.{legal, immediate, form_of, opcode_of, n_of, m_of, l_of, imm_of, decode_of}
use Rattle.effect.specs.Action.{R, Imm, Extended, Lower, Upper, Cpswp, Ldst, Put, Split, Bz, Int, Illegal, calculation, action_of}

-- a cell whose opcode is k, in k's form
pub registers_at : (c k : ℕ) → opcode_of c ≡ k → form_of k ≡ form.Registers → decode_of c ≡ Registers k (n_of c) (m_of c) (l_of c)
unfolding decode_of
registers_at c k e f = rw (e, f, e)

pub immediate_at : (c k : ℕ) → opcode_of c ≡ k → form_of k ≡ form.Immediate → decode_of c ≡ Immediate k (n_of c) (imm_of c)
unfolding decode_of
immediate_at c k e f = rw (e, f, e)

module _ (c : ℕ) where
  pub cpswp : opcode_of c ≡ 0 → action_of (decode_of c) ≡ Cpswp (n_of c) (m_of c) (l_of c)
  unfolding form_of legal immediate action_of
  cpswp e = rw (registers_at c 0 e refl)

  pub ldst : opcode_of c ≡ 1 → action_of (decode_of c) ≡ Ldst (n_of c) (m_of c) (l_of c)
  unfolding form_of legal immediate action_of
  ldst e = rw (registers_at c 1 e refl)

  pub ldli : opcode_of c ≡ 3 → action_of (decode_of c) ≡ Put (n_of c) (Lower (n_of c) (imm_of c))
  unfolding form_of legal immediate action_of
  ldli e = rw (immediate_at c 3 e refl)

  pub ldui : opcode_of c ≡ 4 → action_of (decode_of c) ≡ Put (n_of c) (Upper (n_of c) (imm_of c))
  unfolding form_of legal immediate action_of
  ldui e = rw (immediate_at c 4 e refl)

  pub ldliz : opcode_of c ≡ 5 → action_of (decode_of c) ≡ Put (n_of c) (Imm (imm_of c))
  unfolding form_of legal immediate action_of
  ldliz e = rw (immediate_at c 5 e refl)

  pub ldlise : opcode_of c ≡ 6 → action_of (decode_of c) ≡ Put (n_of c) (Extended Se (imm_of c))
  unfolding form_of legal immediate action_of
  ldlise e = rw (immediate_at c 6 e refl)

  pub ldlif : opcode_of c ≡ 7 → action_of (decode_of c) ≡ Put (n_of c) (Extended Ex (imm_of c))
  unfolding form_of legal immediate action_of
  ldlif e = rw (immediate_at c 7 e refl)

  pub split : opcode_of c ≡ 54 → action_of (decode_of c) ≡ Split Se (n_of c) (m_of c) (l_of c)
  unfolding form_of legal immediate action_of
  split e = rw (registers_at c 54 e refl)

  pub fsplit : opcode_of c ≡ 107 → action_of (decode_of c) ≡ Split Ex (n_of c) (m_of c) (l_of c)
  unfolding form_of legal immediate action_of
  fsplit e = rw (registers_at c 107 e refl)

  pub bz : opcode_of c ≡ 121 → action_of (decode_of c) ≡ Bz (n_of c) (imm_of c)
  unfolding form_of legal immediate action_of
  bz e = rw (immediate_at c 121 e refl)

  pub int : opcode_of c ≡ 122 → action_of (decode_of c) ≡ Int (n_of c) (imm_of c)
  unfolding form_of legal immediate action_of
  int e = rw (immediate_at c 122 e refl)

-- 80 to 106 have no row of their own: 80 to 92 are on two registers, 93 to 106 on a register and ex(imm)
module _ (x : ℕ) (low : 80 ≤ x) where
  two_registers : x < 93 → form_of x ≡ form.Registers
  unfolding form_of legal immediate
  two_registers high =
      rw (
        le-leb 0 x (omega arith),
        lt-leb x 1 (omega arith),
        le-leb 3 x (omega arith),
        lt-leb x 7 (omega arith),
        le-leb 16 x (omega arith),
        le-leb 35 x (omega arith),
        lt-leb x 53 (omega arith),
        lt-leb x 54 (omega arith),
        le-leb 80 x low,
        le-leb x 107 (omega arith),
        lt-leb 93 x high,
        lt-leb 121 x (omega arith),
      )

  an_immediate : 93 ≤ x → x ≤ 106 → form_of x ≡ form.Immediate
  unfolding form_of legal immediate
  an_immediate above high =
      rw (
        le-leb 0 x (omega arith),
        lt-leb x 1 (omega arith),
        le-leb 3 x (omega arith),
        lt-leb x 7 (omega arith),
        le-leb 16 x (omega arith),
        le-leb 35 x (omega arith),
        lt-leb x 53 (omega arith),
        lt-leb x 54 (omega arith),
        le-leb 80 x low,
        le-leb x 107 (omega arith),
        le-leb 93 x above,
        le-leb x 106 high,
      )

module _ (c : ℕ) (low : 80 ≤ opcode_of c) where
  abbrev x : ℕ
  x = opcode_of c

  pub float_registers : opcode_of c < 93 → action_of (decode_of c) ≡ calculation (opcode_of c) (n_of c) (R (m_of c)) (R (l_of c))
  unfolding action_of
  float_registers high =
      rw (
        registers_at c x refl (two_registers x low high),
        ne_eqb x 0 (λ z. omega arith),
        ne_eqb x 1 (λ z. omega arith),
        ne_eqb x 54 (λ z. omega arith),
        ne_eqb x 107 (λ z. omega arith),
        le-leb 80 x low,
        le-leb x 106 (omega arith),
      )

  pub float_immediate : 93 ≤ opcode_of c → opcode_of c ≤ 106 → action_of (decode_of c) ≡ calculation (opcode_of c) (n_of c) (R (n_of c)) (Extended Ex (imm_of c))
  unfolding action_of
  float_immediate above high =
      rw (
        immediate_at c x refl (an_immediate x low above high),
        ne_eqb x 3 (λ z. omega arith),
        ne_eqb x 4 (λ z. omega arith),
        ne_eqb x 5 (λ z. omega arith),
        ne_eqb x 6 (λ z. omega arith),
        ne_eqb x 7 (λ z. omega arith),
        ne_eqb x 121 (λ z. omega arith),
        ne_eqb x 122 (λ z. omega arith),
        le-leb 80 x low,
        le-leb x 106 high,
      )

-- an opcode that is not legal
pub reserved : (c : ℕ) → legal (opcode_of c) ≡ false → action_of (decode_of c) ≡ Illegal
unfolding form_of decode_of action_of
reserved c e = rw e
