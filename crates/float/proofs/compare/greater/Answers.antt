-- `float::compare::greater` meets its contract: with no NaN among the operands, the logic's comparison is the definition's.
use Rattle.float.proofs.Comparisons.{greater_read, greater_nan}
use Rattle.float.proofs.compare.greater.Goals as goal

pub returns-in-Some : goal.returns-in-Some
returns-in-Some c = rw (c.governing.ensures, c.in-Some.ensures.1, c.in-Some.ensures.2, greater_read, c.in-Some.ensures.0)

pub returns-in-None : goal.returns-in-None
returns-in-None c = rw (c.governing-in-None.ensures, ← greater_nan c.args.x c.args.y c.in-None.ensures, c.in-None.ensures)
