-- `verdict::check_cells` meets its contract: a bad cell is in memory.
use native.Mathlib.Omega.{arith}
use mathlib.Core.Path.{sym}
use Rattle.profile.proofs.Allowed.{bad_inside}
use Rattle.verdict.proofs.check_cells.Goals as goal

pub offset_bounds-cells-place : goal.offset_bounds-cells-place
offset_bounds-cells-place c = let h = bad_inside c.args.l c.args.cells.now _ _ (sym (rw c.in-Err-Cell.field-0-is at c.in-Err-Cell.ensures)) in omega (arith, h)

pub bounds-cells-place : goal.bounds-cells-place
bounds-cells-place c = bad_inside c.args.l c.args.cells.now _ _ (sym (rw c.in-Err-Cell.field-0-is at c.in-Err-Cell.ensures))
