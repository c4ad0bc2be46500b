-- What the checks of a load make of it.
-- Assumes nothing.
use Prim.Native.Nat.{ℕ}
use mathlib.Core.Path.{sym, ap, ◌≡◌, ◌∙◌}
use mathlib.Core.Bool.{true, false}
use mathlib.Core.Option.{none}
use mathlib.Core.List.{List}
use lib.ListN.{length}
use Rattle.machine.specs.State.{fresh_machine, bad_cells}
use Rattle.std.specs.Prelude.{Result, Ok, Err, IsErrAnd, ⊤}
use Rattle.machine.specs.declared.Machine.{Machine}
use Rattle.job.specs.declared.Refused.{Refused}
use Rattle.job.specs.Job.{nothing_yet, refusal_from, content_from, unnamed, refusal_in, load_of}
use Rattle.job.specs.Answers.{load_with}
use Rattle.job.specs.Inner.{noticed, content_with}

unfolded : (job cells : List ℕ) → bad_cells (length cells) ≡ false → refusal_in (length cells) job ≡ refusal_from (length job) (length cells) job 0 nothing_yet
unfolding refusal_in
unfolded job cells h = rw h

pub none_refused : (job cells : List ℕ) (answer : Result ⊤ Refused) (x : ⊤) → answer ≡ Ok x → noticed answer ≡ refusal_from (length job) (length cells) job 0 nothing_yet
    → refusal_from (length job) (length cells) job 0 nothing_yet ≡ none
none_refused job cells answer x t e = sym e ∙ ap noticed t

module _ (job host cells : List ℕ) where
  pub load_few : bad_cells (length cells) ≡ true → record { machine = fresh_machine; cells = cells; said = record { number = 12; offset = 0 } } ≡ load_of job host cells
  unfolding refusal_in
  load_few h = rw h

  pub load_refused : (answer : Result ⊤ Refused) (refused : Refused) (r : Result Machine Refused) → bad_cells (length cells) ≡ false → IsErrAnd r (λ e. e ≡ refused) → answer ≡ Err refused
      → noticed answer ≡ refusal_from (length job) (length cells) job 0 nothing_yet → load_with r cells ≡ load_of job host cells
  load_refused answer refused (Ok m) h p t e = absurd p
  load_refused answer refused (Err x) h p t e =
      let s : refusal_from (length job) (length cells) job 0 nothing_yet ≡ noticed (Err refused) = sym e ∙ ap noticed t in
      rw (unfolded job cells h, s, p)

  pub load_done : (m : Machine) (after : List ℕ) → bad_cells (length cells) ≡ false → refusal_from (length job) (length cells) job 0 nothing_yet ≡ none
      → content_with m after ≡ content_from (length job) job (unnamed host (length cells)) → m.depth ≡ 0 → load_with (Ok m) after ≡ load_of job host cells
  load_done m after h e p d = rw (unfolded job cells h, e, ← p, ← d)
