-- `journal::take_back` meets its contract: the uses decide what is put back, a before b.
use mathlib.Core.Path.{◌≡◌, sym, ap, ◌∙◌}
use mathlib.Core.Bool.{false, not}
use native.Mathlib.Omega.{arith}
use lib.ListN.{length}
use Rattle.std.proofs.lemmas.Result.{err_from_is_err_and}
use Rattle.journal.specs.Journal.{out_of_range, damaged_of, cells_before}
use Rattle.journal.proofs.Damage.{out_damaged, use_damaged, no_store_whole, store_damaged, no_store_kept, store_put}
use Rattle.journal.proofs.take_back.Goals as goal
use Rattle.journal.proofs.take_back.Goals.{Else-is_out_of_range, Then-uses-lt2, Joined-uses-gt3, then-uses-gt3+in_ok-restore_cell, else-uses-gt3}

-- an entry that is in range
inside : (c : Else-is_out_of_range) → out_of_range (length c.args.cells.now) c.args.e ≡ false
inside c = sym c.is_out_of_range.ensures ∙ c.if-is_out_of_range.false

pub returns-then-is_out_of_range-clause-whole : goal.returns-then-is_out_of_range-clause-whole
returns-then-is_out_of_range-clause-whole c = sym (ap not (out_damaged _ _ (sym c.is_out_of_range.ensures ∙ c.if-is_out_of_range.true)))

-- uses below 2 have a alone, or nothing
a_alone : (c : Then-uses-lt2) → (damaged_of (length c.args.cells.now) c.args.e ≡ false) × (c.args.cells.now ≡ cells_before c.args.e c.args.cells.now)
a_alone c = (no_store_whole _ _ (sym c.is_out_of_range.ensures ∙ c.if-is_out_of_range.false) (omega arith), sym (no_store_kept c.args.e c.args.cells.now (omega arith)))

pub returns-then-uses-eq1-clause-whole : goal.returns-then-uses-eq1-clause-whole
returns-then-uses-eq1-clause-whole c = sym (ap not (a_alone (goal.at.returns-then-uses-eq1-clause-whole c).Then-uses-lt2).0)

pub returns-then-uses-eq1-clause-cells : goal.returns-then-uses-eq1-clause-cells
returns-then-uses-eq1-clause-cells c = (a_alone (goal.at.returns-then-uses-eq1-clause-cells c).Then-uses-lt2).1

pub returns-else-uses-eq1-clause-whole : goal.returns-else-uses-eq1-clause-whole
returns-else-uses-eq1-clause-whole c = sym (ap not (a_alone (goal.at.returns-else-uses-eq1-clause-whole c).Then-uses-lt2).0)

pub returns-else-uses-eq1-clause-cells : goal.returns-else-uses-eq1-clause-cells
returns-else-uses-eq1-clause-cells c = (a_alone (goal.at.returns-else-uses-eq1-clause-cells c).Then-uses-lt2).1

pub returns-then-uses-gt7-clause-whole : goal.returns-then-uses-gt7-clause-whole
returns-then-uses-gt7-clause-whole c =
    sym (ap not (use_damaged _ _ (inside (goal.at.returns-then-uses-gt7-clause-whole c).Else-is_out_of_range) (omega arith)))

pub returns-in_err-restore_cell-clause-whole : goal.returns-in_err-restore_cell-clause-whole
returns-in_err-restore_cell-clause-whole c =
    let here = inside (goal.at.returns-in_err-restore_cell-clause-whole c).Else-is_out_of_range in
    let p = err_from_is_err_and c.from_residual.result c.from_residual.ensures.1 in
    rw p.1 (sym (ap not (store_damaged _ _ here c.if-uses-gt3.true (omega arith) ∙ ap not (sym c.in_err-restore_cell.ensures.within))))

-- where the stored cell is put back, or there is none
stored : (c : Joined-uses-gt3) → (damaged_of (length c.args.cells.now) c.args.e ≡ false) × (c.if-uses-gt3.cells ≡ cells_before c.args.e c.args.cells.now)
stored c =
    let here : out_of_range (length c.args.cells.now) c.args.e ≡ false = sym c.is_out_of_range.ensures ∙ c.if-is_out_of_range.false in
    elim c.if-uses-gt3.branch [
      | then-uses-gt3+in_ok-restore_cell w ↦ (
        store_damaged _ _ here (omega arith) (omega arith) ∙ ap not (sym w.in_ok-restore_cell.ensures.within),
        w.cells-is ∙ w.in_ok-restore_cell.ensures.cells ∙ sym (store_put _ _ (omega arith) (omega arith)),
      )
      | else-uses-gt3 w ↦ (no_store_whole _ _ here (omega arith), w.cells-is ∙ sym (no_store_kept _ _ (omega arith)))
    ]

pub returns-then-uses-eq1-3-clause-whole : goal.returns-then-uses-eq1-3-clause-whole
returns-then-uses-eq1-3-clause-whole c = sym (ap not (stored (goal.at.returns-then-uses-eq1-3-clause-whole c).Joined-uses-gt3).0)

pub returns-then-uses-eq1-3-clause-cells : goal.returns-then-uses-eq1-3-clause-cells
returns-then-uses-eq1-3-clause-cells c = (stored (goal.at.returns-then-uses-eq1-3-clause-cells c).Joined-uses-gt3).1

pub returns-else-uses-eq1-3-clause-whole : goal.returns-else-uses-eq1-3-clause-whole
returns-else-uses-eq1-3-clause-whole c = sym (ap not (stored (goal.at.returns-else-uses-eq1-3-clause-whole c).Joined-uses-gt3).0)

pub returns-else-uses-eq1-3-clause-cells : goal.returns-else-uses-eq1-3-clause-cells
returns-else-uses-eq1-3-clause-cells c = (stored (goal.at.returns-else-uses-eq1-3-clause-cells c).Joined-uses-gt3).1
