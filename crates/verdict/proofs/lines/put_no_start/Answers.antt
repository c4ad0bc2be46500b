-- `verdict::lines::put_no_start` meets its contract.
use Rattle.verdict.specs.Told.{told_of}
use Rattle.verdict.proofs.Lengths.{no_start_short}
use Rattle.verdict.proofs.lines.put_no_start.Goals as goal

pub returns : goal.returns
unfolding told_of
returns c = record { added = c.put.ensures; short = no_start_short }
