-- `job::reading::examine` meets its contract: the loop's invariant is that what is left of the walk leads where the whole walk leads.
use Prim.Native.Nat.{◌-◌}
use lib.ListN.{length}
use Rattle.job.proofs.Walk.{Underway}
use Rattle.job.proofs.reading.examine.Given as goal

abbrev pub invariant-loop-size : goal.invariant-loop-size
invariant-loop-size l = Underway l.m l.job l.at l.past

abbrev pub decreases-loop-size : goal.decreases-loop-size
decreases-loop-size l = length l.job - l.at
