-- The outcome by what becomes of the input: refused, or run.
-- Assumes nothing.
use mathlib.Core.Path.{◌≡◌}
use mathlib.Core.List.{List}
use Prim.Native.Nat.{ℕ}
use borrow.Author.Tests.{ne_eqb}
use Rattle.std.specs.Prelude.{Result, Ok, Err, IsErrAnd, IfErr}
use Rattle.machine.specs.declared.Machine.{Machine}
use Rattle.machine.specs.declared.Kind.TheVariants.{Plain}
use Rattle.machine.specs.State.{state_of}
use Rattle.call.specs.declared.Ran.{Ran}
use Rattle.call.specs.Calls.{run_of}
use Rattle.intake.specs.declared.Refused.{Refused}
use Rattle.intake.specs.Intake.{taken_of}
use Rattle.intake.specs.Answers.{taken_with}
use Rattle.outcome.specs.Outcome.{ran_to, outcome_of, budget}
use Rattle.outcome.specs.Answers.{outcome_with}

module _ (input cells journal left : List ℕ) (r : Result Machine Refused) (e : taken_with r left ≡ taken_of input cells) where
  pub outcome_refused : (refused : Refused) (out : Result Ran Refused) → r ≡ Err refused → IfErr r (λ told. told.number ≡ 0 → ⊥) → IsErrAnd out (λ told. told ≡ refused)
      → outcome_with out left journal ≡ outcome_of input cells journal
  unfolding outcome_of
  outcome_refused refused (Ok ran) t n p = absurd p
  outcome_refused refused (Err told) t n p = rw (← e, t, p, ne_eqb refused.number 0 (rw t at n))

  pub outcome_ran : (m : Machine) → r ≡ Ok m → outcome_of input cells journal ≡ ran_to (run_of Plain budget (state_of m left journal))
  unfolding outcome_of
  outcome_ran m t = rw (← e, t)
