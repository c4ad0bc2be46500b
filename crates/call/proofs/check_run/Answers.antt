-- `call::check_run` meets its contract: the check's answer and the kind of run pick the case.
use mathlib.Core.Path.{◌∙◌}
use Rattle.std.proofs.lemmas.Result.{err_from_is_err_and}
use Rattle.call.proofs.Checks.{begins_bad, begins_rule}
use Rattle.call.proofs.check_run.Goals as goal

pub returns-in_err-check : goal.returns-in_err-check
returns-in_err-check c =
    let a = c.args in
    let p = err_from_is_err_and c.from_residual.result c.from_residual.ensures.1 in
    rw (p.1, p.2) (begins_bad a.kind a.cells.now a.s a.most a.depth _ c.in_err-check.ensures)

pub returns-in_err-first_bad : goal.returns-in_err-first_bad
returns-in_err-first_bad c =
    let a = c.args in
    let p = err_from_is_err_and c.from_residual-in_err-first_bad.result c.from_residual-in_err-first_bad.ensures.1 in
    rw p.1 (p.2 ∙ rw (← begins_rule a.kind a.cells.now a.s a.most a.depth c.in_ok-check.ensures, c.in-Profile.is, ← c.in_err-first_bad.ensures))

pub returns-in_ok-first_bad : goal.returns-in_ok-first_bad
returns-in_ok-first_bad c =
    let a = c.args in
    rw (← begins_rule a.kind a.cells.now a.s a.most a.depth c.in_ok-check.ensures, c.in-Profile.is, ← c.in_ok-first_bad.ensures)

pub returns-in_default : goal.returns-in_default
returns-in_default c =
    let a = c.args in
    rw (← begins_rule a.kind a.cells.now a.s a.most a.depth c.in_ok-check.ensures, c.in_default.is)
