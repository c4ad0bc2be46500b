-- `float::arithmetic::add` meets its contract: with no NaN among the operands, the logic's sum, told in bits, is the definition's.
use Rattle.float.proofs.Operations.{sum_told}
use Rattle.float.proofs.Outcomes.{means_invalid, sum_nan}
use Rattle.float.proofs.arithmetic.add.Goals as goal

pub returns-in-Some : goal.returns-in-Some
returns-in-Some c = rw (c.in-Some.ensures.1, c.in-Some.ensures.2, sum_told) at c.tell.ensures

pub returns-in-None : goal.returns-in-None
returns-in-None c = means_invalid (sum_nan c.args.x c.args.y c.in-None.ensures)
