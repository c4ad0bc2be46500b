-- What an input is taken for: too long, a job that is refused, or one that loads.
-- Assumes nothing.
use Prim.Native.Nat.{ℕ, ◌<◌, ◌≤◌}
use mathlib.Core.Path.{◌≡◌, sym, ap, ◌∙◌}
use mathlib.Core.List.{List}
use lib.ListN.{length}
use borrow.Author.Tests.{lt-ltb, le-ltb, eqb-false}
use Rattle.std.specs.Prelude.{Result, Ok, Err, IsErrAnd, IfErr}
use Rattle.machine.specs.declared.Machine.{Machine}
use Rattle.machine.specs.State.{fresh_host}
use Rattle.refusal.specs.Refusal.{number_of}
use Rattle.refusal.proofs.Named.{numbered}
use Rattle.job.specs.declared.Refused as job
use Rattle.job.specs.Job.{load_of}
use Rattle.job.specs.Answers.{load_with}
use Rattle.intake.specs.declared.Refused.{Refused}
use Rattle.intake.specs.Intake.{most_input, taken_of}
use Rattle.intake.specs.Answers.{taken_with}

module _ (input cells : List ℕ) where
  pub taken_long : most_input < length input → taken_with (Err (record { number = 50; offset = most_input })) cells ≡ taken_of input cells
  unfolding taken_of
  taken_long h = rw (lt-ltb most_input (length input) h)

  module _ (short : length input ≤ most_input) (loaded : Result Machine job.Refused) (after : List ℕ) (e : load_with loaded after ≡ load_of input fresh_host cells) where
    pub taken_loaded : (m : Machine) → loaded ≡ Ok m → taken_with (Ok m) after ≡ taken_of input cells
    unfolding taken_of
    taken_loaded m t = rw (le-ltb most_input (length input) short, ← e, t)

    pub taken_refused : (found : job.Refused) (out : Result Machine Refused) → loaded ≡ Err found → IsErrAnd out (λ told. told ≡ record { number = number_of found.why; offset = found.offset })
        → taken_with out after ≡ taken_of input cells
    unfolding taken_of
    taken_refused found (Ok m) t p = absurd p
    taken_refused found (Err told) t p = rw (le-ltb most_input (length input) short, ← e, t, p)

-- and it has a number
pub taken_numbered : (found : job.Refused) (out : Result Machine Refused) → IsErrAnd out (λ told. told ≡ record { number = number_of found.why; offset = found.offset })
    → IfErr out (λ told. told.number ≡ 0 → ⊥)
taken_numbered found (Ok m) p = tt
taken_numbered found (Err told) p = λ h. eqb-false (number_of found.why) 0 (numbered found.why) (sym (ap (λ (r : Refused). r.number) p) ∙ h)
