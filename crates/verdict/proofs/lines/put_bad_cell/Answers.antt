-- `verdict::lines::put_bad_cell` meets its contract: the pieces, put one after the other, are the lines.
use Rattle.verdict.specs.Told.{told_of}
use Rattle.text.proofs.Adds.{added_then}
use Rattle.verdict.proofs.Lengths.{bad_cell_short}
use Rattle.verdict.proofs.lines.put_bad_cell.Goals as goal

pub returns : goal.returns
unfolding told_of
returns c = let s = c in record { added = added_then _ _ (added_then _ _ (added_then _ _ c.put_number-a.ensures c.put-b.ensures) c.put_cell-c.ensures) (rw c.flaw_line.ensures at c.put.ensures); short = bad_cell_short s.args.place s.args.cell s.args.flaw s.ranges.place.fits s.ranges.cell.fits }
