-- What an instruction tells: INT alone answers, what the others raise is below the flags' bound, and a refusal is 5, 6 or 13.
-- Assumes nothing.
use Prim.Native.Nat.{ℕ, ◌<◌}
use mathlib.Core.Path.{◌≡◌, refl}
use mathlib.Core.Bool.{Bool, true, false, cond, ◌||◌}
use mathlib.Core.Option.{none, some}
use mathlib.Core.Logic.{◌⊎◌, inl, inr}
use native.Mathlib.Omega.{arith}
use lib.Dec.{eqb}
use lib.ListN.{length}
use Rattle.word.proofs.Bounds.{raised_below}
use Rattle.float.proofs.Bounds as float
use Rattle.cell.specs.Cell.{opcode_of, decode_of}
use Rattle.cell.proofs.Tests.{never}
use Rattle.machine.specs.Addresses.{mask_address, mode_address}
use Rattle.machine.specs.State.{State, flags_bound}
use Rattle.machine.proofs.Tests.{picked}
use Rattle.effect.specs.Action.{Action, Cpswp, Ldst, Put, Operate, Split, Bz, Int, Calculate, Float, Illegal, action_of}
use Rattle.effect.specs.Operands.{reg, value_of, behind}
use Rattle.effect.specs.Parts.{Onward, Effect, still, store, load}
use Rattle.effect.specs.Effect.{illegal_load, illegal_store, effect_of}
use Rattle.effect.specs.Refusal.{faults, wild, refused_by}
use Rattle.effect.proofs.Rows.{by_rows}

-- 122 alone is INT
abbrev interrupts : Action → Bool
interrupts (Cpswp n m l) = false
interrupts (Ldst n m l) = false
interrupts (Put n v) = false
interrupts (Operate op n x y) = false
interrupts (Split x n m l) = false
interrupts (Bz n imm) = false
interrupts (Int n imm) = true
interrupts (Calculate op n x y) = false
interrupts Float = false
interrupts Illegal = false

abbrev Quiet : Action → Type 0
Quiet a = interrupts a ≡ false

quiet : (c : ℕ) → eqb (opcode_of c) 122 ≡ false → Quiet (action_of (decode_of c))
quiet c h = by_rows Quiet c (record {
  cpswp = refl;
  ldst = λ t. refl;
  put = λ n v. refl;
  operate = λ op n v w. refl;
  split = λ e. refl;
  bz = refl;
  int = λ t. never (cc);
  calculate = λ op n v w. refl;
  float = refl;
  illegal = refl;
})

-- neither an answer nor a flag past the bound
pub record Plain (e : Effect) : Type 0 where
  pub answer : e.answer ≡ Onward
  pub raised : e.raised < flags_bound

module _ (s : State) where
  stays : Plain (still s)
  stays = record { answer = refl; raised = omega arith }

  stored : (p v : ℕ) → Plain (store p v (still s))
  stored p v =
      picked Plain (eqb p 0) _ _ (λ t. stays) (λ t.
      picked Plain (eqb p mask_address) _ _ (λ t. record { answer = refl; raised = omega arith }) (λ t.
      picked Plain (eqb p mode_address) _ _ (λ t. record { answer = refl; raised = omega arith }) (λ t. record { answer = refl; raised = omega arith })))

  loaded : (p n v : ℕ) (e : Effect) → Plain e → Plain (load p n v e)
  loaded p n v e k = picked Plain (eqb p 0) _ _ (λ t. k) (λ t. record { answer = k.answer; raised = k.raised })

  plain_by : (a : Action) → Quiet a → Plain (effect_of a s)
  unfolding effect_of
  plain_by (Cpswp n m l) q = record { answer = refl; raised = omega arith }
  plain_by (Ldst n m l) q =
      picked Plain (illegal_load (reg s l) || illegal_store (reg s m) (reg s n)) _ _ (λ t. record { answer = refl; raised = omega arith }) (λ t.
      loaded (reg s l) n (behind s.cells s.settings s.host (reg s l)) (store (reg s m) (reg s n) (still s)) (stored (reg s m) (reg s n)))
  plain_by (Put n v) q = record { answer = refl; raised = omega arith }
  plain_by (Operate op n x y) q = record { answer = refl; raised = omega (arith, raised_below op (value_of s x) (value_of s y) (reg s n) s.settings.flags) }
  plain_by (Split x n m l) q = record { answer = refl; raised = omega arith }
  plain_by (Bz n imm) q = picked Plain (eqb (reg s n) 0) _ _ (λ t. record { answer = refl; raised = omega arith }) (λ t. stays)
  plain_by (Int n imm) q = never (cc)
  plain_by (Calculate op n x y) q = record { answer = refl; raised = omega (arith, float.raised_below op (value_of s x) (value_of s y)) }
  plain_by Float q = stays
  plain_by Illegal q = record { answer = refl; raised = omega arith }

  pub plain : (c : ℕ) → eqb (opcode_of c) 122 ≡ false → Plain (effect_of (action_of (decode_of c)) s)
  plain c h = plain_by _ (quiet c h)

  -- a stop that a test names, and one that it spares
  named_by : (t : Bool) (j k : ℕ) → cond t (some j) none ≡ some k → k ≡ j
  named_by true j k h = cc
  named_by false j k h = never (cc)

  spared_by : (t : Bool) (j k : ℕ) → cond t none (some j) ≡ some k → k ≡ j
  spared_by true j k h = never (cc)
  spared_by false j k h = cc

  pub own_stop : (a : Action) (k : ℕ) → refused_by a s ≡ some k → (k ≡ 5) ⊎ ((k ≡ 6) ⊎ (k ≡ 13))
  unfolding refused_by
  own_stop (Ldst n m l) k h = inl (named_by (faults (length s.cells) (reg s l) || faults (length s.cells) (reg s m)) 5 k h)
  own_stop Float k h = inr (inl (cc))
  own_stop (Calculate op n x y) k h = inr (inl (spared_by (eqb s.settings.mode 3) 6 k h))
  own_stop (Bz n imm) k h = inr (inr (named_by (wild s.regs n imm) 13 k h))
  own_stop (Cpswp n m l) k h = never (cc)
  own_stop (Put n v) k h = never (cc)
  own_stop (Operate op n x y) k h = never (cc)
  own_stop (Split x n m l) k h = never (cc)
  own_stop (Int n imm) k h = never (cc)
  own_stop Illegal k h = never (cc)
