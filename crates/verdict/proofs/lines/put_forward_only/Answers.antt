-- `verdict::lines::put_forward_only` meets its contract: the pieces, put one after the other, are the line.
use Rattle.verdict.specs.Told.{told_of}
use Rattle.text.proofs.Adds.{added_then}
use Rattle.verdict.proofs.Lengths.{forward_only_short}
use Rattle.verdict.proofs.lines.put_forward_only.Goals as goal

pub returns : goal.returns
unfolding told_of
returns c = record { added = added_then _ _ c.put_number-a.ensures c.put.ensures; short = forward_only_short c.args.l c.ranges.l.fits }
