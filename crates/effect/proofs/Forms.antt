-- An instruction follows `form_of`: a reserved opcode, and no other, takes the illegal road.
-- Assumes nothing.
use Prim.Native.Nat.{ℕ, ◌^◌, ◌<◌}
use mathlib.Core.Path.{◌≡◌, refl}
use mathlib.Core.Bool.{Bool, true, false, not, ◌||◌}
use native.Mathlib.Omega.{arith}
use Rattle.word.specs.Word.{op_of, asked_of}
use Rattle.cell.specs.declared.Form.{Form}
use Rattle.cell.specs.declared.Form.TheVariants as form
use Rattle.cell.specs.declared.Instruction.{Instruction}
use Rattle.cell.specs.declared.Instruction.TheVariants.{Registers, Immediate, Reserved}
use Rattle.cell.specs.Cell.{legal, immediate, form_of, opcode_of, n_of, m_of, l_of, imm_of, read_in, decode_of}
use Rattle.cell.proofs.Tests.{count, everywhere, never}
use Rattle.effect.specs.Action.{Action, Cpswp, Ldst, Put, Operate, Split, Bz, Int, Calculate, Float, Illegal, action_of}

abbrev pub is_reserved : Form → Bool
is_reserved form.Registers = false
is_reserved form.Immediate = false
is_reserved form.Reserved = true

reserved_is : (f : Form) → is_reserved f ≡ true → f ≡ form.Reserved
reserved_is form.Registers e = never (cc)
reserved_is form.Immediate e = never (cc)
reserved_is form.Reserved e = refl

abbrev is_illegal : Action → Bool
is_illegal (Cpswp n m l) = false
is_illegal (Ldst n m l) = false
is_illegal (Put n v) = false
is_illegal (Operate op n x y) = false
is_illegal (Split e n m l) = false
is_illegal (Bz n imm) = false
is_illegal (Int n imm) = false
is_illegal (Calculate op n x y) = false
is_illegal Float = false
is_illegal Illegal = true

-- the opcode x in a form, with any operands
module _ (n m l imm c : ℕ) where
  abbrev pub read : Form → ℕ → Instruction
  read form.Registers x = Registers x n m l
  read form.Immediate x = Immediate x n imm
  read form.Reserved x = Reserved c

  abbrev follows : ℕ → Bool
  follows x = not (is_illegal (action_of (read (form_of x) x))) || is_reserved (form_of x)

  all_follow : count (λ (x : ℕ). not (follows x)) 256 ≡ 0
  unfolding form_of legal immediate action_of asked_of op_of
  all_follow = refl

module _ (c : ℕ) where
  pub read_as : (f : Form) → read (n_of c) (m_of c) (l_of c) (imm_of c) c f (opcode_of c) ≡ read_in f c
  read_as form.Registers = refl
  read_as form.Immediate = refl
  read_as form.Reserved = refl

  pub reserved_illegal : form_of (opcode_of c) ≡ form.Reserved → action_of (decode_of c) ≡ Illegal
  unfolding decode_of action_of
  reserved_illegal e = rw e

  pub illegal_reserved : c < 2 ^ 32 → action_of (decode_of c) ≡ Illegal → form_of (opcode_of c) ≡ form.Reserved
  unfolding decode_of
  illegal_reserved fits e =
      reserved_is (form_of (opcode_of c))
      (rw (read_as (form_of (opcode_of c)), e) at (everywhere (follows (n_of c) (m_of c) (l_of c) (imm_of c) c) 256 (all_follow (n_of c) (m_of c) (l_of c) (imm_of c) c) (opcode_of c) (omega arith)))
