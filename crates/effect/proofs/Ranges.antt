-- Every effect names registers 0 to 255 and holds 32-bit numbers, given registers, cells, settings and words of the host that do.
-- Assumes nothing.
use Prim.Native.Nat.{ℕ, ◌-◌, ◌/◌, ◌%◌, ◌^◌, ◌<◌}
use mathlib.Core.Bool.{cond, ◌||◌}
use native.Mathlib.Omega.{arith}
use lib.Dec.{ltb, eqb}
use lib.ListN.{get_or}
use Rattle.word.specs.Operation.{Asked, Given, Turned, Other}
use Rattle.word.specs.Word.{asked_of}
use Rattle.word.proofs.Bounds.{value_below}
use Rattle.float.proofs.Bounds as float
use Rattle.half.proofs.Bounds.{extended_below}
use Rattle.cell.specs.declared.Instruction.{Instruction}
use Rattle.cell.specs.declared.Instruction.TheVariants.{Registers, Immediate, Reserved}
use Rattle.cell.proofs.Fields as fields
use Rattle.machine.specs.State.{State, first_special, InRange}
use Rattle.machine.proofs.Tests.{picked}
use Rattle.effect.specs.Parts.{Write, Effect, no_write, still, store, load}
use Rattle.half.specs.declared.Extension.{Extension}
use Rattle.float.specs.declared.FloatOp.{FloatOp}
use Rattle.half.specs.declared.Extension.TheVariants.{Se, Ex}
use Rattle.effect.specs.Action.{Value, R, Imm, Extended, Lower, Upper, Action, Cpswp, Ldst, Put, Split, Bz, Int, Calculate, Float, Illegal, operation, floats, calculation, action_of}
use Rattle.machine.specs.Addresses.{flags_address, mask_address, mode_address, host_address}
use Rattle.effect.specs.Operands.{next_of, operand_of, reg, value_of, behind}
use Rattle.effect.specs.Effect.{illegal_load, illegal_store, effect_of}
use Rattle.effect.proofs.Rows.{calculated}

abbrev pub Word : ℕ → Type 0
Word x = x < 2 ^ 32

abbrev pub Written : Write → Type 0
Written w = (w.number < 256) × Word w.value

pub record Ranged (e : Effect) : Type 0 where
  pub pc : Word e.pc
  pub a : Written e.a
  pub b : Written e.b
  pub store : Word e.store.value

unused : Written no_write
unused = (omega arith, omega arith)

either : (t : _) (x y : ℕ) → Word x → Word y → Word (cond t x y)
either t x y p q = picked Word t x y (λ h. p) (λ h. q)

module _ (s : State) (words : (i : ℕ) → Word (get_or s.regs i 0)) (cell_words : (i : ℕ) → Word (get_or s.cells i 0)) (given : (i : ℕ) → Word (get_or s.host i 0)) (settled : InRange s.settings) where
  reg_below : (i : ℕ) → Word (reg s i)
  unfolding operand_of
  reg_below i = either (eqb i 255) (next_of s.regs) (get_or s.regs i 0) (omega arith) (words i)

  behind_below : (p : ℕ) → Word (behind s.cells s.settings s.host p)
  unfolding behind
  behind_below p =
      either (ltb p first_special) (get_or s.cells p 0) _ (cell_words p)
      (either (eqb p flags_address) s.settings.flags _ (omega (arith, settled.flags))
      (either (eqb p mask_address) s.settings.mask _ (omega (arith, settled.mask))
      (either (eqb p mode_address) s.settings.mode _ (omega (arith, settled.mode)) (given (p - host_address)))))

  stays : Ranged (still s)
  stays = record { pc = omega arith; a = unused; b = unused; store = omega arith }

  stored : (p v : ℕ) → Word v → Ranged (store p v (still s))
  stored p v h =
      picked Ranged (eqb p 0) _ _ (λ t. stays) (λ t.
      picked Ranged (eqb p mask_address) _ _ (λ t. record { pc = stays.pc; a = unused; b = unused; store = omega arith }) (λ t.
      picked Ranged (eqb p mode_address) _ _ (λ t. record { pc = stays.pc; a = unused; b = unused; store = omega arith }) (λ t.
      record { pc = stays.pc; a = unused; b = unused; store = h })))

  loaded : (p n v : ℕ) (e : Effect) → n < 256 → Word v → Ranged e → Ranged (load p n v e)
  loaded p n v e n-fits v-fits r = picked Ranged (eqb p 0) _ _ (λ t. r) (λ t. record { pc = r.pc; a = (n-fits, v-fits); b = r.b; store = r.store })

  -- an action whose effect is in range
  abbrev Fine : Action → Type 0
  Fine a = Ranged (effect_of a s)

  ldst : (n m l : ℕ) → n < 256 → Fine (Ldst n m l)
  unfolding effect_of
  ldst n m l n-fits =
      picked Ranged (illegal_load (reg s l) || illegal_store (reg s m) (reg s n)) _ _
      (λ t. record { pc = stays.pc; a = unused; b = unused; store = omega arith })
      (λ t. loaded (reg s l) n _ _ n-fits (behind_below (reg s l)) (stored (reg s m) (reg s n) (reg_below n)))

  cpswp : (n m l : ℕ) → n < 256 → l < 256 → Fine (Cpswp n m l)
  unfolding effect_of
  cpswp n m l n-fits l-fits = record { pc = stays.pc; a = (n-fits, reg_below m); b = (l-fits, reg_below n); store = omega arith }

  put : (n : ℕ) (v : Value) → n < 256 → Word (value_of s v) → Fine (Put n v)
  unfolding effect_of
  put n v n-fits v-fits = record { pc = stays.pc; a = (n-fits, v-fits); b = unused; store = omega arith }

  split : (x : Extension) (n m l : ℕ) → m < 256 → l < 256 → Fine (Split x n m l)
  unfolding effect_of
  split x n m l m-fits l-fits =
      let h = reg_below n in
      record { pc = stays.pc; a = (m-fits, extended_below x (reg s n % 65536) (omega arith)); b = (l-fits, extended_below x (reg s n / 65536) (omega arith)); store = omega arith }

  bz : (n imm : ℕ) → Fine (Bz n imm)
  unfolding effect_of
  bz n imm = picked Ranged (eqb (reg s n) 0) _ _ (λ t. record { pc = omega arith; a = unused; b = unused; store = omega arith }) (λ t. stays)

  int : (n imm : ℕ) → Fine (Int n imm)
  unfolding effect_of
  int n imm = record { pc = stays.pc; a = unused; b = unused; store = omega arith }

  out : Fine Float
  unfolding effect_of
  out = stays

  calculate : (op : FloatOp) (n : ℕ) (x y : Value) → n < 256 → Fine (Calculate op n x y)
  unfolding effect_of
  calculate op n x y n-fits = record { pc = stays.pc; a = (n-fits, float.value_below op _ _); b = unused; store = omega arith }

  floated : (opcode n : ℕ) (x y : Value) → n < 256 → Fine (calculation opcode n x y)
  floated opcode n x y n-fits = calculated Fine opcode n x y (λ op. calculate op n x y n-fits) (λ op. calculate op n y x n-fits) out

  operated : (a : Asked) (n : ℕ) (x y : Value) → n < 256 → Word (value_of s x) → Word (value_of s y) → Fine (operation a n x y)
  unfolding effect_of
  operated (Given op) n x y n-fits p q = record { pc = stays.pc; a = (n-fits, value_below _ _ _ p q (reg_below n) op s.settings.flags); b = unused; store = omega arith }
  operated (Turned op) n x y n-fits p q = record { pc = stays.pc; a = (n-fits, value_below _ _ _ q p (reg_below n) op s.settings.flags); b = unused; store = omega arith }
  operated Other n x y n-fits p q = record { pc = stays.pc; a = unused; b = unused; store = omega arith }

  reserved : Fine Illegal
  unfolding effect_of
  reserved = record { pc = stays.pc; a = unused; b = unused; store = omega arith }

  pub ranged : (i : Instruction) → fields.InRange i → Ranged (effect_of (action_of i) s)
  unfolding action_of
  ranged (Registers x n m l) f =
      picked Fine (eqb x 0) _ _ (λ t. cpswp n m l f.2 f.4) (λ t.
      picked Fine (eqb x 1) _ _ (λ t. ldst n m l f.2) (λ t.
      picked Fine (eqb x 54) _ _ (λ t. split Se n m l f.3 f.4) (λ t.
      picked Fine (eqb x 107) _ _ (λ t. split Ex n m l f.3 f.4) (λ t.
      picked Fine (floats x) _ _ (λ t. floated x n (R m) (R l) f.2) (λ t.
      operated (asked_of x) n (R m) (R l) f.2 (reg_below m) (reg_below l))))))
  ranged (Immediate x n imm) f =
      let h = reg_below n in
      picked Fine (eqb x 3) _ _ (λ t. put n (Lower n imm) f.2 (omega (arith, f.3))) (λ t.
      picked Fine (eqb x 4) _ _ (λ t. put n (Upper n imm) f.2 (omega (arith, f.3))) (λ t.
      picked Fine (eqb x 5) _ _ (λ t. put n (Imm imm) f.2 (omega (arith, f.3))) (λ t.
      picked Fine (eqb x 6) _ _ (λ t. put n (Extended Se imm) f.2 (extended_below Se imm f.3)) (λ t.
      picked Fine (eqb x 7) _ _ (λ t. put n (Extended Ex imm) f.2 (extended_below Ex imm f.3)) (λ t.
      picked Fine (eqb x 121) _ _ (λ t. bz n imm) (λ t.
      picked Fine (eqb x 122) _ _ (λ t. int n imm) (λ t.
      picked Fine (floats x) _ _ (λ t. floated x n (R n) (Extended Ex imm) f.2) (λ t.
      operated (asked_of x) n (R n) (Extended Se imm) f.2 h (extended_below Se imm f.3)))))))))
  ranged (Reserved c) f = reserved
