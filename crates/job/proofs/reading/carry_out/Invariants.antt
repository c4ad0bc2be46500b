-- `job::reading::carry_out` meets its contract: the loop's invariant is that the records left lead where all of them lead.
use Prim.Native.Nat.{◌-◌}
use mathlib.Core.Path.{◌≡◌}
use lib.ListN.{length}
use Rattle.job.proofs.Walk.{Carrying}
use Rattle.job.specs.Inner.{content_with}
use Rattle.job.proofs.reading.carry_out.Given as goal

abbrev pub invariant-loop-left : goal.invariant-loop-left
invariant-loop-left l = record {
  walk : Carrying (length l.initial.cells) l.job (content_with l.initial.machine l.initial.cells) l.at (content_with l.machine l.cells);
  depth : l.machine.depth ≡ l.initial.machine.depth;
}

abbrev pub decreases-loop-left : goal.decreases-loop-left
decreases-loop-left l = length l.job - l.at
