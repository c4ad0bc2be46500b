-- `call::check` meets its contract: at each return the tests that led there pick the case.
use Rattle.machine.proofs.Checks.{turned}
use Rattle.call.proofs.Checks.{few, unsettled, deep, fine}
use Rattle.call.proofs.check.Goals as goal

pub returns-then-not-good_cells : goal.returns-then-not-good_cells
returns-then-not-good_cells c = rw (few _ _ _ _ (turned _ _ _ c.good_cells.ensures (rw c.if-not-good_cells.true)))

pub returns-then-not-good_settings : goal.returns-then-not-good_settings
returns-then-not-good_settings c = rw (unsettled _ _ _ _ (turned _ _ _ c.good_cells.ensures (rw c.if-not-good_cells.false)) (turned _ _ _ c.good_settings.ensures (rw c.if-not-good_settings.true)))

pub returns-then-most-depth : goal.returns-then-most-depth
returns-then-most-depth c = rw (deep _ _ _ _ (turned _ _ _ c.good_cells.ensures (rw c.if-not-good_cells.false)) (turned _ _ _ c.good_settings.ensures (rw c.if-not-good_settings.false)) c.if-most-depth.true)

pub returns : goal.returns
returns c = rw (fine _ _ _ _ (turned _ _ _ c.good_cells.ensures (rw c.if-not-good_cells.false)) (turned _ _ _ c.good_settings.ensures (rw c.if-not-good_settings.false)) c.if-most-depth.false)
