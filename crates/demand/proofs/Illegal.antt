-- Flag 128 stays up: no step of the definition clears it, so that at a run's end it tells of the whole run.
-- Assumes nothing.
use Prim.Native.Nat.{ℕ, zero, suc, ◌-◌, ◌/◌, ◌%◌, ◌^◌, ◌<◌}
use mathlib.Core.Path.{◌≡◌, refl, ap, ◌∙◌}
use mathlib.Core.Bool.{Bool, true, false, ◌||◌}
use mathlib.Core.Option.{Option, none, some}
use native.Mathlib.Omega.{arith}
use lib.Bits.{bit_and, bit_or, or_shr, or_mod, and_shr, and_mod}
use lib.Dec.{eqb}
use Rattle.word.proofs.Bounds.{governed_below}
use Rattle.float.proofs.Bounds as float
use Rattle.machine.specs.declared.Settings.{Settings}
use Rattle.machine.specs.State.{State}
use Rattle.machine.specs.declared.Kind.{Kind}
use Rattle.machine.proofs.Tests.{picked}
use Rattle.effect.specs.Parts.{Effect, still, flags_of, store, load}
use Rattle.effect.specs.Action.{Action, Cpswp, Ldst, Put, Operate, Split, Bz, Int, Calculate, Float, Illegal}
use Rattle.machine.specs.Addresses.{mask_address, mode_address}
use Rattle.effect.specs.Operands.{reg, value_of}
use Rattle.effect.specs.Effect.{illegal_load, illegal_store, effect_of}
use Rattle.journal.specs.Journal.{ended_of, regs_after, settled_of, settings_after}
use Rattle.step.specs.Step.{action_in, refusal_of, effect_in, moved, step_of}
use Rattle.step.specs.Steps.{steps}
use Rattle.demand.specs.Demands.{illegal_in}

-- bit 7 of a number
abbrev bit : ℕ → ℕ
bit x = x / 128 % 2

bit-or : (a b : ℕ) → bit (bit_or a b) ≡ bit_or (bit a) (bit b)
bit-or a b = ap (λ (x : ℕ). x % 2) (or_shr a b 7) ∙ or_mod (a / 128) (b / 128) 1

bit-and : (a b : ℕ) → bit (bit_and a b) ≡ bit_and (bit a) (bit b)
bit-and a b = ap (λ (x : ℕ). x % 2) (and_shr a b 7) ∙ and_mod (a / 128) (b / 128) 1

one_or : (y : ℕ) → y < 2 → bit_or 1 y ≡ 1
one_or zero h = refl
one_or (suc zero) h = refl
one_or (suc (suc y)) h = absurd (omega arith)

or_keeps : (a b : ℕ) → bit a ≡ 1 → bit (bit_or a b) ≡ 1
or_keeps a b h = bit-or a b ∙ rw h (one_or (bit b) (omega arith))

flags_keep : (flags governed raised : ℕ) → governed < 64 → bit flags ≡ 1 → bit (flags_of flags governed raised) ≡ 1
unfolding flags_of
flags_keep flags governed raised g h =
    let k : bit (2 ^ 32 - 1 - governed) ≡ 1 = omega arith in
    or_keeps _ raised (bit-and flags (2 ^ 32 - 1 - governed) ∙ rw (h, k))

module _ (s : State) (up : illegal_in s ≡ 1) where
  abbrev Keeps : Effect → Type 0
  Keeps e = bit e.settings.flags ≡ 1

  stored : (p v : ℕ) → Keeps (store p v (still s))
  stored p v =
      picked Keeps (eqb p 0) _ _ (λ t. up) (λ t.
      picked Keeps (eqb p mask_address) _ _ (λ t. up) (λ t.
      picked Keeps (eqb p mode_address) _ _ (λ t. up) (λ t. up)))

  loaded : (p n v : ℕ) (e : Effect) → Keeps e → Keeps (load p n v e)
  loaded p n v e k = picked Keeps (eqb p 0) _ _ (λ t. k) (λ t. k)

  kept : (a : Action) → Keeps (effect_of a s)
  unfolding effect_of
  kept (Cpswp n m l) = up
  kept (Ldst n m l) =
      picked Keeps (illegal_load (reg s l) || illegal_store (reg s m) (reg s n)) _ _ (λ t. or_keeps _ 128 up) (λ t.
      loaded (reg s l) n _ _ (stored (reg s m) (reg s n)))
  kept (Put n v) = up
  kept (Operate op n x y) = flags_keep _ _ _ (omega (arith, governed_below op (value_of s x) (value_of s y) (reg s n) s.settings.flags)) up
  kept (Split x n m l) = up
  kept (Bz n imm) = picked Keeps (eqb (reg s n) 0) _ _ (λ t. up) (λ t. up)
  kept (Int n imm) = up
  kept (Calculate op n x y) = flags_keep _ _ _ (float.governed_below op _ _) up
  kept Float = up
  kept Illegal = or_keeps _ 128 up

  settled : (t : Bool) (x : Settings) → bit x.flags ≡ 1 → bit (settled_of t x).flags ≡ 1
  settled true x h = or_keeps x.flags 256 h
  settled false x h = h

  after : (o : Option ℕ) → illegal_in (moved o s).state ≡ 1
  unfolding settings_after effect_in
  after (some k) = up
  after none = settled (ended_of (regs_after (effect_in s) s.regs)) _ (kept (action_in s))

  pub illegal_kept : (kind : Kind) → illegal_in (step_of kind s).state ≡ 1
  unfolding step_of
  illegal_kept kind = after (refusal_of kind s)

-- Flag 128 that is up stays up over any number of steps, of either kind.
pub illegal_stays : (kind : Kind) (n : ℕ) (s : State) → illegal_in s ≡ 1 → illegal_in (steps kind n s) ≡ 1
unfolding steps
illegal_stays kind zero s h = h
illegal_stays kind (suc n) s h = illegal_kept (steps kind n s) (illegal_stays kind n s h) kind
