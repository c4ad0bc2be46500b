-- `job::records::passed` meets its contract: in each arm the kind is known.
use native.Mathlib.Omega.{arith}
use Rattle.lent.proofs.Numbers.{below_1}
use Rattle.job.proofs.records.passed.Goals as goal

pub overflow_add-result : goal.overflow_add-result
overflow_add-result c = let b = below_1 0 c.args.payload.now (λ k. (c.type_inv.payload k).fits) in omega (arith, c.number.ensures)
