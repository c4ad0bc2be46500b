-- `job::reading::put_value` meets its contract: a register's number is below 256.
use native.Mathlib.Omega.{arith}
use Rattle.lent.proofs.Numbers.{below_1}
use Rattle.job.proofs.reading.put_value.Goals as goal

pub bounds-regs-number : goal.bounds-regs-number
bounds-regs-number c = let b = below_1 0 c.args.payload.now (λ k. (c.type_inv.payload k).fits) in omega (arith, c.number.ensures)
