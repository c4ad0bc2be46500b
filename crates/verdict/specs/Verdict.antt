-- What becomes of a job that `check-rule` checks: refused, or loaded and its first L cells checked as a rule that only goes forward.
use Rattle.std.specs.Prelude.{cond, List, ℕ, eqb, length, get_or, Result, Ok, Err, ⊤}
use Rattle.intake.specs.Intake.{taken_of}
use Rattle.job.specs.Job.{Load}
use Rattle.profile.specs.declared.BadRule.{BadRule}
use Rattle.profile.specs.declared.BadRule.TheVariants as rule
use Rattle.profile.specs.Profile.{rule_of}
use Rattle.verdict.specs.declared.Unfit.{Unfit}
use Rattle.verdict.specs.declared.Unfit.TheVariants.{Refused, NoStart, BadLength, BadCell}
use Rattle.verdict.specs.Length.{length_in, starts_at_zero, first_count}

-- L of a rule that only goes forward, or why the job's code is none
abbrev pub Verdict : Type 0
Verdict = Result ℕ Unfit

-- what the check of the first l cells says, with l, with the most that it may be, and with the bad cell
abbrev pub ruled_to : Result ⊤ BadRule → ℕ → List ℕ → Verdict
ruled_to (Ok _) l cells = Ok l
ruled_to (Err rule.Length) l cells = Err (BadLength (length cells))
ruled_to (Err (rule.Cell place flaw)) l cells = Err (BadCell place (get_or cells place 0) flaw)

abbrev pub checked_to : ℕ → List ℕ → Verdict
checked_to l cells = ruled_to (rule_of l cells) l cells

-- L by the argument; with an argument of no bytes, by the first record, which must begin at cell 0
unfoldable pub found_in : List ℕ → List ℕ → List ℕ → Verdict
found_in job argument cells =
    cond (eqb (length argument) 0)
    (cond (starts_at_zero job) (checked_to (first_count job) cells) (Err NoStart))
    (checked_to (length_in (length cells) argument) cells)

-- a job that a load refuses is refused; else its cells are checked
abbrev pub loaded_to : Load → List ℕ → List ℕ → Verdict
loaded_to l job argument =
    cond (eqb l.said.number 0) (found_in job argument l.cells)
    (Err (Refused (record { number = l.said.number; offset = l.said.offset })))

-- an input that is not taken in is refused; else its job's cells are checked
unfoldable pub verdict_of : List ℕ → List ℕ → List ℕ → Verdict
verdict_of input argument cells = loaded_to (taken_of input cells) input argument

-- the cells that are left: as they were, or loaded
unfoldable pub cells_of : List ℕ → List ℕ → List ℕ
cells_of input cells = (taken_of input cells).cells
