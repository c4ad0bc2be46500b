-- `float::compare::equal` meets its contract: with no NaN among the operands, the logic's comparison is the definition's.
use Rattle.float.proofs.Comparisons.{equal_read, equal_nan}
use Rattle.float.proofs.compare.equal.Goals as goal

pub returns-in-Some : goal.returns-in-Some
returns-in-Some c = rw (c.plain.ensures, c.in-Some.ensures.1, c.in-Some.ensures.2, equal_read)

pub returns-in-None : goal.returns-in-None
returns-in-None c = rw (c.plain-in-None.ensures, ← equal_nan c.args.x c.args.y c.in-None.ensures)
