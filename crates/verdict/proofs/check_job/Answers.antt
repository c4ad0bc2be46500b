-- `verdict::check_job` meets its contract: the input is refused, or taken in and checked.
use native.Mathlib.Omega.{arith}
use mathlib.Core.Path.{◌∙◌}
use Rattle.verdict.proofs.Cases.{cells_left, verdict_refused, verdict_loaded, few_cells}
use Rattle.verdict.proofs.check_job.Goals as goal

pub check_loaded-requires : goal.check_loaded-requires
check_loaded-requires c = omega (arith, few_cells c.args.input.now c.args.argument.now c.args.cells.now _ _ c.take_in.ensures.taken _ c.in_ok-take_in.was)

pub returns-in_err-take_in-clause-verdict : goal.returns-in_err-take_in-clause-verdict
returns-in_err-take_in-clause-verdict c = verdict_refused c.args.input.now c.args.argument.now c.args.cells.now _ _ c.take_in.ensures.taken _ c.from_residual.result c.in_err-take_in.was c.take_in.ensures.numbered c.from_residual.ensures.1

pub returns-in_err-take_in-clause-cells : goal.returns-in_err-take_in-clause-cells
returns-in_err-take_in-clause-cells c = cells_left c.args.input.now c.args.argument.now c.args.cells.now _ c.take_in.result c.take_in.ensures.taken

pub returns-clause-verdict : goal.returns-clause-verdict
returns-clause-verdict c = c.check_loaded.ensures ∙ verdict_loaded c.args.input.now c.args.argument.now c.args.cells.now _ _ c.take_in.ensures.taken _ c.in_ok-take_in.was

pub returns-clause-cells : goal.returns-clause-cells
returns-clause-cells c = cells_left c.args.input.now c.args.argument.now c.args.cells.now _ c.take_in.result c.take_in.ensures.taken
