-- `backward::back` meets its contract: the check's answer picks the case.
use Rattle.std.proofs.Common.{rules}
use mathlib.Core.Path.{◌∙◌}
use Rattle.machine.specs.State.{state_of}
use Rattle.std.specs.Prelude.{Ok, Err}
use Rattle.call.specs.Calls.{back_from}
use Rattle.call.proofs.Checks.{called_fine, called_bad, checked, as_told}
use Rattle.backward.proofs.back.Goals as goal

pub back_on-requires : goal.back_on-requires
back_on-requires c = (checked _ _ _ _ (as_told c.check.result (Ok tt) _ _ _ _ _ c.capacity.ensures (search rules) c.check.ensures)).room

pub returns-in-Ok : goal.returns-in-Ok
returns-in-Ok c = let a = c.args in
    c.back_on.ensures ∙ called_fine back_from a.number (state_of a.m a.cells.now a.journal.now) _ (as_told c.check.result (Ok tt) _ _ _ _ _ c.capacity.ensures (search rules) c.check.ensures)

pub returns-in-Err : goal.returns-in-Err
returns-in-Err c = let a = c.args in
    called_bad back_from a.number (state_of a.m a.cells.now a.journal.now) _ _ (as_told c.check.result (Err c.in-Err.stop) _ _ _ _ _ c.capacity.ensures (search rules) c.check.ensures)
