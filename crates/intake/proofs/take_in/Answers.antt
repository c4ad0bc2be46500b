-- `take_in` meets its contract: an input that is not too long is a job, and what the load answers is told.
use native.Mathlib.Omega.{arith}
use Rattle.intake.proofs.Taking.{taken_refused, taken_loaded, taken_numbered}
use Rattle.intake.proofs.take_in.Goals as goal

pub returns-in_err-load-clause-taken : goal.returns-in_err-load-clause-taken
returns-in_err-load-clause-taken c = taken_refused c.args.input.now c.args.cells.now (omega arith) _ _ c.load.ensures _ c.from_residual.result c.in_err-load.was c.from_residual.ensures.1

pub returns-in_err-load-clause-numbered : goal.returns-in_err-load-clause-numbered
returns-in_err-load-clause-numbered c = taken_numbered _ c.from_residual.result c.from_residual.ensures.1

pub returns-clause-taken : goal.returns-clause-taken
returns-clause-taken c = taken_loaded c.args.input.now c.args.cells.now (omega arith) _ _ c.load.ensures _ c.in_ok-load.was
