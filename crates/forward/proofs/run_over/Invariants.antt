-- `forward::run_over` meets its contract: the invariant holds at first and is kept by each step, and each return is the run's end.
use Rattle.forward.proofs.Loop.{Fixed, Running}
use Rattle.forward.proofs.run_over.Given as goal

abbrev pub invariant-loop-left : goal.invariant-loop-left
invariant-loop-left l = Fixed l.kind l.budget l.total l.depth l.limit l.guard l.initial.cells l.initial.journal × Running l.kind l.budget l.total l.depth l.host l.initial.regs l.settings l.initial.cells l.initial.journal l.cells l.journal l.regs l.s l.at l.left

abbrev pub decreases-loop-left : goal.decreases-loop-left
decreases-loop-left l = l.left
