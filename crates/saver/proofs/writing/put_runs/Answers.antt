-- `saver::writing::put_runs` meets its contract: a cell that is 0 ends a run, which is stored, and any other goes to it.
use native.Mathlib.Omega.{arith}
use mathlib.Core.Path.{refl}
use lib.ListN.{length}
use Rattle.saver.proofs.Pieces.{whole_left, left_turn, left_fits, left_over, left_same, begun_length, runs_on, runs_turn, runs_end}
use Rattle.saver.proofs.writing.put_runs.Goals.{then-cell-eq0, else-cell-eq0}
use Rattle.saver.proofs.writing.put_runs.Goals as goal

pub loop-i-init : goal.loop-i-init
loop-i-init c = record { base = omega arith; left = whole_left }

pub put_run-next-requires : goal.put_run-next-requires
put_run-next-requires c =
    let i = c.loop-i.invariant in
    let n = begun_length c.args.cells.now c.loop-i.base c.loop-i.i (omega arith) in
    (omega arith, omega arith, left_fits (runs_turn c.args.cells.now c.loop-i.base c.loop-i.i i.base (omega arith) c.if-cell-eq0.true) i.left c.requires.1)

pub loop-i-preserved : goal.loop-i-preserved
loop-i-preserved c =
    let i = c.loop-i.invariant in
    elim c.if-cell-eq0.branch [
      | then-cell-eq0 w ↦ rw (w.room-is, w.next-is, w.base-is)
          (record { base = omega arith; left = left_turn (runs_turn c.args.cells.now c.loop-i.base c.loop-i.i i.base (omega arith) w.if-cell-eq0.true) i.left w.put_run-next.ensures })
      | else-cell-eq0 w ↦ rw (w.room-is, w.next-is, w.base-is)
          (record { base = omega arith; left = left_same (runs_on c.args.cells.now c.loop-i.base c.loop-i.i i.base (omega arith) w.if-cell-eq0.false) i.left })
    ]

pub put_run-requires : goal.put_run-requires
put_run-requires c =
    let i = c.loop-i.invariant in
    let n = begun_length c.args.cells.now c.loop-i.base (length c.args.cells.now) (omega arith) in
    (omega arith, omega arith, left_fits (runs_end c.args.cells.now c.loop-i.base c.loop-i.i (omega arith)) i.left c.requires.1)

pub returns : goal.returns
returns c = left_over refl (left_turn (runs_end c.args.cells.now c.loop-i.base c.loop-i.i (omega arith)) c.loop-i.invariant.left c.put_run.ensures)
