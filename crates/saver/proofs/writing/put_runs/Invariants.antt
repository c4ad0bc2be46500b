-- `saver::writing::put_runs` meets its contract: what is left to store leads where the whole leads, the run that has begun among it.
use Prim.Native.Nat.{◌≤◌}
use mathlib.Core.List.{[]}
use lib.ListN.{drop}
use Rattle.saver.proofs.Pieces.{Left, begun}
use Rattle.saver.specs.Saving.{runs_from}
use Rattle.saver.proofs.writing.put_runs.Given as goal

abbrev pub invariant-loop-i : goal.invariant-loop-i
invariant-loop-i l = record {
  base : l.base ≤ l.i;
  left : Left l.initial.room l.at (runs_from 0 [] l.cells) l.room l.next (runs_from l.base (begun l.cells l.base l.i) (drop l.i l.cells));
}
