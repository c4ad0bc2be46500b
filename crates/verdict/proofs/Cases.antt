-- The verdict by what becomes of the input: refused, or loaded into a number of cells that a job may have.
-- Assumes nothing.
use mathlib.Core.Path.{◌≡◌, refl, sym, ap, ◌∙◌}
use mathlib.Core.Bool.{Bool, true, false, cond}
use mathlib.Core.List.{List}
use Prim.Native.Nat.{ℕ, ◌≤◌}
use native.Mathlib.Omega.{arith}
use borrow.Author.Tests.{ne_eqb}
use lib.Dec.{ltb}
use lib.ListN.{length}
use Rattle.std.specs.Prelude.{Result, Ok, Err, IsErrAnd, IfErr}
use Rattle.machine.specs.declared.Machine.{Machine}
use Rattle.machine.specs.State.{fresh_host, most_cells, bad_cells}
use Rattle.machine.proofs.Checks.{not_above}
use Rattle.intake.specs.declared.Refused as intake
use Rattle.intake.specs.Intake.{most_input, taken_of}
use Rattle.intake.specs.Answers.{taken_with}
use Rattle.job.specs.Job.{Load, nothing_yet, refused_at, refusal_from, refusal_in, loaded_by, load_of}
use Rattle.verdict.specs.declared.Unfit.TheVariants.{Refused}
use Rattle.verdict.specs.Verdict.{Verdict, found_in, verdict_of, cells_of}

-- a load into too many cells is refused
loads_few : (job host cells : List ℕ) → (load_of job host cells).said.number ≡ 0 → length cells ≤ most_cells
unfolding refusal_in
loads_few job host cells e = go (bad_cells (length cells)) refl e
  where
    go : (t : Bool) → bad_cells (length cells) ≡ t
        → (loaded_by (cond t (refused_at 12 0) (refusal_from (length job) (length cells) job 0 nothing_yet)) job host cells).said.number ≡ 0 → length cells ≤ most_cells
    go true t-is e = absurd (omega arith)
    go false t-is e = not_above (length cells) t-is

taken_few : (input cells : List ℕ) → (taken_of input cells).said.number ≡ 0 → length cells ≤ most_cells
unfolding taken_of
taken_few input cells e = go (ltb most_input (length input)) _ refl e
  where
    go : (t : Bool) (long : Load) → long.said.number ≡ 50 → (cond t long (load_of input fresh_host cells)).said.number ≡ 0 → length cells ≤ most_cells
    go true long n e = absurd (omega arith)
    go false long n e = loads_few input fresh_host cells e

module _ (input argument cells left : List ℕ) (r : Result Machine intake.Refused) (e : taken_with r left ≡ taken_of input cells) where
  cells_by : (r : Result Machine intake.Refused) → (taken_with r left).cells ≡ left
  cells_by (Ok m) = refl
  cells_by (Err refused) = refl

  pub cells_left : left ≡ cells_of input cells
  unfolding cells_of
  cells_left = sym (cells_by r) ∙ ap (λ (l : Load). l.cells) e

  pub verdict_refused : (refused : intake.Refused) (out : Verdict) → r ≡ Err refused → IfErr r (λ told. told.number ≡ 0 → ⊥) → IsErrAnd out (λ unfit. unfit ≡ Refused refused)
      → out ≡ verdict_of input argument cells
  unfolding verdict_of
  verdict_refused refused (Ok l) t n p = absurd p
  verdict_refused refused (Err unfit) t n p = rw (← e, t, p, ne_eqb refused.number 0 (rw t at n))

  pub verdict_loaded : (m : Machine) → r ≡ Ok m → found_in input argument left ≡ verdict_of input argument cells
  unfolding verdict_of
  verdict_loaded m t = rw (← e, t)

  pub few_cells : (m : Machine) → r ≡ Ok m → length cells ≤ most_cells
  few_cells m t = taken_few input cells (rw (← e, t))
