-- `line::print` meets its contract: what goes into the room is the line, the first bytes of the place where it was made.
use mathlib.Core.Path.{refl, sym}
use native.Mathlib.Omega.{arith}
use Rattle.line.proofs.Lines.{put_printed}
use Rattle.line.proofs.print.Goals as goal

pub returns : goal.returns
returns c =
    sym (put_printed c.args.cell c.args.room.now c.ranges.cell.fits refl c.put_line-size.ensures (omega arith) c.copy_from_slice.ensures.after)
