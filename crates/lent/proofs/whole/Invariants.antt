-- `lent::whole` meets its contract: each turn takes one byte more, from the last to the first.
use Rattle.lent.proofs.Numbers.{Read}
use Rattle.lent.proofs.whole.Given as goal

abbrev pub invariant-loop-b : goal.invariant-loop-b
invariant-loop-b l = Read l.bytes l.b-iterator.iter.rest.now l.v
