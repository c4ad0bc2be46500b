-- `outcome::lines::put_exit` meets its contract: the pieces, put one after the other, are the line.
use Rattle.text.proofs.Adds.{added_then}
use Rattle.outcome.proofs.Lengths.{exit_short}
use Rattle.outcome.proofs.lines.put_exit.Goals as goal

pub returns-clause-added : goal.returns-clause-added
returns-clause-added c = added_then _ _ (added_then _ _ (added_then _ _ (added_then _ _ c.put_number-a.ensures c.put_number-b.ensures) c.put_number-c.ensures) c.put_number-d.ensures) c.put.ensures

pub returns-clause-short : goal.returns-clause-short
returns-clause-short c = exit_short c.args.stop c.args.count c.args.pc c.args.flags c.ranges.stop.fits c.ranges.count.fits c.ranges.pc.fits c.ranges.flags.fits
