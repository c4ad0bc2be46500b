-- `forward::run_by` meets its contract: the check's answer picks the case, and gives the loop what it requires.
use Rattle.std.proofs.Common.{rules}
use mathlib.Core.Path.{◌∙◌}
use Rattle.machine.specs.State.{state_of, capacity_of}
use Rattle.std.specs.Prelude.{Ok, Err}
use Rattle.call.specs.Calls.{run_from}
use Rattle.call.proofs.Checks.{called_fine, called_bad, run_checked, run_told}
use Rattle.forward.proofs.run_by.Goals as goal

pub run_on-requires : goal.run_on-requires
unfolding capacity_of
run_on-requires c =
    let a = c.args in
    let most = c.capacity-most.ensures in
    let k = c.check_run in
    let p = (run_checked a.kind a.cells.now a.m.settings _ a.m.depth (run_told a.kind k.result (Ok tt) a.cells.now _ _ _ a.journal.now most (search rules) k.ensures)).0 in
    (rw most p.room, most, p.settled, p.few_cells)

pub returns-in-Ok : goal.returns-in-Ok
returns-in-Ok c =
    let a = c.args in
    let k = c.check_run in
    c.run_on.ensures
    ∙ called_fine (run_from a.kind) a.budget (state_of a.m a.cells.now a.journal.now) _ (run_told a.kind k.result (Ok tt) a.cells.now a.m.settings _ a.m.depth a.journal.now c.capacity-most.ensures (search rules) k.ensures)

pub returns-in-Err : goal.returns-in-Err
returns-in-Err c =
    let a = c.args in
    let k = c.check_run in
    called_bad (run_from a.kind) a.budget (state_of a.m a.cells.now a.journal.now) _ _
    (run_told a.kind k.result (Err c.in-Err.stop) a.cells.now a.m.settings _ a.m.depth a.journal.now c.capacity-most.ensures (search rules) k.ensures)
