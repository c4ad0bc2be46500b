-- `verdict::lines::put_cell` meets its contract: what is put is the line, the first bytes of the place where it was made.
use Rattle.text.proofs.Adds.{added_front}
use Rattle.line.specs.Line.{line_of}
use Rattle.line.proofs.Sizes.{line_short}
use Rattle.verdict.proofs.lines.put_cell.Goals as goal

pub returns : goal.returns
returns c = let made = added_front (line_of c.args.cell) (line_short c.args.cell c.ranges.cell.fits) c.put_line-size.ensures in
    rw made.1 at c.put.ensures
