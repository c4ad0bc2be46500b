-- `outcome::lines::put_register` meets its contract: a register that is 0 has no line, and the pieces are that of one that is not.
use Rattle.outcome.proofs.Lengths.{register_short}
use native.Mathlib.Omega.{arith}
use Rattle.text.proofs.Adds.{added_then}
use Rattle.outcome.proofs.Registers.{register_some}
use Rattle.outcome.proofs.lines.put_register.Goals as goal

pub returns-clause-added : goal.returns-clause-added
returns-clause-added c = rw (register_some c.args.i c.args.value c.if-value-eq0.false)
    (added_then _ _ (added_then _ _ c.put_number-a.ensures c.put_number-b.ensures) c.put.ensures)

pub returns-clause-short : goal.returns-clause-short
returns-clause-short c = register_short c.args.i c.args.value (omega (arith, c.requires.1)) c.ranges.value.fits
