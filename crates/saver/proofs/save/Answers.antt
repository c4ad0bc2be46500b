-- `saver::save` meets its contract: the tests pick the case, the first writing finds no room and tells the size, the second is the save.
use mathlib.Core.Bool.{not}
use mathlib.Core.Path.{ap}
use Rattle.machine.proofs.Checks.{turned}
use Rattle.saver.proofs.Saving.{save_few, save_unsettled, save_narrow, save_done}
use Rattle.saver.proofs.save.Goals as goal

pub returns-then-not-good_cells : goal.returns-then-not-good_cells
returns-then-not-good_cells c = save_few _ _ _ (turned _ _ _ c.good_cells.ensures (ap not c.if-not-good_cells.true))

pub returns-then-not-good_settings : goal.returns-then-not-good_settings
returns-then-not-good_settings c = save_unsettled _ _ _ (turned _ _ _ c.good_cells.ensures (ap not c.if-not-good_cells.false)) (turned _ _ _ c.good_settings.ensures (ap not c.if-not-good_settings.true))

pub returns-then-room-size : goal.returns-then-room-size
returns-then-room-size c = save_narrow _ _ _ (turned _ _ _ c.good_cells.ensures (ap not c.if-not-good_cells.false)) (turned _ _ _ c.good_settings.ensures (ap not c.if-not-good_settings.false)) _ _ c.put_job-size.ensures c.if-room-size.true

pub returns : goal.returns
returns c = save_done _ _ _ (turned _ _ _ c.good_cells.ensures (ap not c.if-not-good_cells.false)) (turned _ _ _ c.good_settings.ensures (ap not c.if-not-good_settings.false)) _ _ c.put_job-size.ensures _ _ c.if-room-size.false c.put_job.ensures
