-- `job::load` meets its contract: the check's answer picks the case, and a job without refusal is carried out over cells that are all 0.
use lib.ListN.{length-replicate}
use mathlib.Core.Bool.{not}
use mathlib.Core.Path.{ap}
use Rattle.job.proofs.Loading.{load_few, load_refused, none_refused, load_done}
use Rattle.machine.specs.State.{fresh_machine}
use Rattle.machine.proofs.Checks.{turned}
use Rattle.job.proofs.load.Goals as goal

pub returns-then-not-good_cells : goal.returns-then-not-good_cells
returns-then-not-good_cells c = load_few _ _ _ (turned _ _ _ c.good_cells.ensures (ap not c.if-not-good_cells.true))

pub returns-in_err-examine : goal.returns-in_err-examine
returns-in_err-examine c = load_refused _ _ _ _ _ c.from_residual.result (turned _ _ _ c.good_cells.ensures (ap not c.if-not-good_cells.false)) c.from_residual.ensures.1 c.in_err-examine.was c.examine.ensures

pub carry_out-requires : goal.carry_out-requires
carry_out-requires c = rw (c.clear.ensures, length-replicate) (none_refused c.args.job.now c.args.cells.now _ _ c.in_ok-examine.was c.examine.ensures)

pub returns : goal.returns
unfolding fresh_machine
returns c = load_done _ _ _ _ _ (turned _ _ _ c.good_cells.ensures (ap not c.if-not-good_cells.false))
    (none_refused c.args.job.now c.args.cells.now _ _ c.in_ok-examine.was c.examine.ensures)
    (rw (c.fresh.ensures, c.clear.ensures) at c.carry_out.ensures.content) (rw c.fresh.ensures at c.carry_out.ensures.depth)
