-- `verdict::lines::put_bad_length` meets its contract: the pieces, put one after the other, are the line.
use Rattle.verdict.specs.Told.{told_of}
use Rattle.text.proofs.Adds.{added_then}
use Rattle.verdict.proofs.Lengths.{bad_length_short}
use Rattle.verdict.proofs.lines.put_bad_length.Goals as goal

pub returns : goal.returns
unfolding told_of
returns c = record { added = added_then _ _ c.put_number-a.ensures c.put.ensures; short = bad_length_short c.args.most c.ranges.most.fits }
