-- An action looks neither at depth nor at the journal.
-- Assumes nothing.
use Prim.Native.Nat.{ℕ}
use mathlib.Core.Path.{◌≡◌, refl}
use mathlib.Core.List.{List}
use Rattle.machine.specs.State.{State, state_with}
use Rattle.effect.specs.Action.{Action, Cpswp, Ldst, Put, Operate, Split, Bz, Int, Calculate, Float, Illegal, R, Imm, Extended, Lower, Upper, Value}
use Rattle.effect.specs.Operands.{value_of}
use Rattle.effect.specs.Effect.{effect_of}
use Rattle.effect.specs.Refusal.{refused_by}

module _ (s : State) (depth : ℕ) (journal : List ℕ) where
  abbrev other : State
  other = state_with s.regs s.settings depth s.host s.cells journal

  value_blind : (v : Value) → value_of other v ≡ value_of s v
  value_blind (R i) = refl
  value_blind (Imm x) = refl
  value_blind (Extended e x) = refl
  value_blind (Lower i x) = refl
  value_blind (Upper i x) = refl

  pub effect_blind : (a : Action) → effect_of a other ≡ effect_of a s
  unfolding effect_of
  effect_blind (Cpswp n m l) = refl
  effect_blind (Ldst n m l) = refl
  effect_blind (Put n v) = rw (value_blind v)
  effect_blind (Operate op n x y) = rw (value_blind x, value_blind y)
  effect_blind (Split x n m l) = refl
  effect_blind (Bz n imm) = refl
  effect_blind (Int n imm) = refl
  effect_blind (Calculate op n x y) = rw (value_blind x, value_blind y)
  effect_blind Float = refl
  effect_blind Illegal = refl

  pub refusal_blind : (a : Action) → refused_by a other ≡ refused_by a s
  unfolding refused_by
  refusal_blind (Cpswp n m l) = refl
  refusal_blind (Ldst n m l) = refl
  refusal_blind (Put n v) = refl
  refusal_blind (Operate op n x y) = refl
  refusal_blind (Split x n m l) = refl
  refusal_blind (Bz n imm) = refl
  refusal_blind (Int n imm) = refl
  refusal_blind (Calculate op n x y) = refl
  refusal_blind Float = refl
  refusal_blind Illegal = refl
