-- `lent::whole` meets its contract: each turn takes one byte more, from the last to the first.
use native.Mathlib.Omega.{arith}
use Rattle.lent.proofs.Numbers.{read_none, read_more, more_fits}
use Rattle.lent.proofs.whole.Goals as goal

pub loop-b-init : goal.loop-b-init
loop-b-init c = read_none (cc)

pub overflow_mul-v : goal.overflow_mul-v
overflow_mul-v c = omega (arith, more_fits _ _ c.loop-b.invariant c.in-Some.ensures.steps c.requires.at_most_four (λ k. (c.type_inv.bytes k).fits))

pub overflow_add-v : goal.overflow_add-v
overflow_add-v c = omega (arith, more_fits _ _ c.loop-b.invariant c.in-Some.ensures.steps c.requires.at_most_four (λ k. (c.type_inv.bytes k).fits))

pub loop-b-preserved : goal.loop-b-preserved
loop-b-preserved c = read_more _ _ c.loop-b.invariant c.in-Some.ensures.steps
