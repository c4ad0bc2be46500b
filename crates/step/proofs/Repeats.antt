-- The step repeated, taken apart at its first step.
-- Assumes nothing.
use Prim.Native.Nat.{ℕ, zero, suc}
use mathlib.Core.Path.{◌≡◌, refl, ap}
use Rattle.machine.specs.State.{State}
use Rattle.machine.specs.declared.Kind.{Kind}
use Rattle.step.specs.Step.{step_of}
use Rattle.step.specs.Steps.{steps}

module _ (kind : Kind) where
  pub steps_none : (s : State) → steps kind 0 s ≡ s
  unfolding steps
  steps_none s = refl

  pub steps_first : (n : ℕ) (s : State) → steps kind (suc n) s ≡ steps kind n (step_of kind s).state
  unfolding steps
  steps_first zero s = refl
  steps_first (suc n) s = ap (λ (x : State). (step_of kind x).state) (steps_first n s)
