-- `job::records::run_end` meets its contract: a run's payload holds a base, and base and count are small.
use native.Mathlib.Omega.{arith}
use Rattle.lent.proofs.Numbers.{below_2}
use Rattle.job.proofs.records.run_end.Goals as goal

pub overflow_add-result : goal.overflow_add-result
overflow_add-result c = let b = below_2 0 c.args.payload.now (λ k. (c.type_inv.payload k).fits) in
    omega (arith, c.requires.short, c.number.ensures)
