-- `outcome::run_job` meets its contract: the input is refused, or taken in and run.
use Rattle.outcome.proofs.Cases.{outcome_refused, outcome_ran}
use Rattle.outcome.proofs.run_job.Goals as goal

pub returns-in_err-machine : goal.returns-in_err-machine
returns-in_err-machine c = outcome_refused c.args.input.now c.args.cells.now c.args.journal.now _ _ c.take_in.ensures.taken _ c.from_residual.result c.in_err-machine.was c.take_in.ensures.numbered c.from_residual.ensures.1

pub returns : goal.returns
returns c = rw (outcome_ran c.args.input.now c.args.cells.now c.args.journal.now _ _ c.take_in.ensures.taken _ c.in_ok-machine.was, ← c.run.ensures)
