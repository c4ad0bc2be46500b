-- `carried::operand` meets its contract: the test on the register picks the case.
-- Assumes nothing.
use Rattle.std.proofs.Common.{◌≢◌, ◌%◌, arith, eq-eqb, ne_eqb}
use Rattle.effect.specs.Operands.{operand_of}
use Rattle.carried.proofs.operand.Goals as goal

pub returns-then-k-eq255 : goal.returns-then-k-eq255
unfolding operand_of
returns-then-k-eq255 c = rw (eq-eqb _ _ c.if-k-eq255.true) c.next_of.ensures

pub returns : goal.returns
unfolding operand_of
returns c = let other : c.args.i % 256 ≢ 255 = omega arith in rw (ne_eqb _ _ other)
