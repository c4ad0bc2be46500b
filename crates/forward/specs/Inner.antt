-- What only the contracts of private functions cite: what a run comes to, a step from what it told and left, and a run whose flag 256 is still to be
-- set.
use Rattle.std.specs.Prelude.{ℕ, ◌+◌, cond, List, ltb}
use Rattle.machine.specs.State.{State, state_with, pc_of}
use Rattle.machine.specs.Stops.{plainly, said_of}
use Rattle.machine.specs.declared.Kind.{Kind}
use Rattle.packed.specs.Packed.{unpacked_of}
use Rattle.journal.specs.Journal.{ended_of, settled_of}
use Rattle.step.specs.Step.{Course, going, stopped, refused, Moved}
use Rattle.call.specs.Calls.{Out, stop_at, go_on, run_from}
use Rattle.carried.specs.Left.{told_fault}
use Rattle.stopped.specs.Stopped.{stopping, refusal_by, stop_after, ends_by}
use Rattle.forward.specs.declared.after.Upshot.{Upshot}

-- the state that the code holds
abbrev pub held_of : List ℕ → ℕ → ℕ → List ℕ → List ℕ → List ℕ → State
held_of regs s depth host cells journal = state_with regs (unpacked_of s) depth host cells journal

-- what a run comes to, with the registers, cells and journal that it left and the host's words
abbrev pub out_by : Upshot → List ℕ → List ℕ → List ℕ → List ℕ → Out
out_by u regs host cells journal = record { state = state_with regs u.settings u.depth host cells journal; said = said_of u.stop; count = u.count }

-- what becomes of a step that is done
abbrev pub course_by : ℕ → List ℕ → ℕ → ℕ → Course
course_by told regs s cell = cond (stopping told s) (stopped (stop_after told regs cell)) (cond (ended_of regs) (stopped (plainly 1)) going)

-- a step, from what it told and left
unfoldable pub moved_by : ℕ → List ℕ → ℕ → ℕ → ℕ → List ℕ → List ℕ → List ℕ → Moved
moved_by told regs s cell depth host cells journal =
    cond (ltb told told_fault)
    (record { state = state_with regs (settled_of (ended_of regs) (unpacked_of s)) (depth + 1) host cells journal; course = course_by told regs s cell })
    (record { state = held_of regs s depth host cells journal; course = refused (refusal_by told) })

-- a run with k steps done, by the step after them
abbrev pub go_on_by : (ℕ → State → Out) → ℕ → Moved → Out
go_on_by rest k m = go_on rest m.course k m.state

-- the state that is left, with flag 256 if the last of the steps that are done has ended the run
abbrev pub final_of : ℕ → List ℕ → ℕ → ℕ → List ℕ → List ℕ → List ℕ → State
final_of done regs s depth host cells journal = state_with regs (settled_of (ends_by done (pc_of regs)) (unpacked_of s)) depth host cells journal

-- k steps are done: the run has ended with the last of them, or n steps more
unfoldable pub resume_of : Kind → ℕ → ℕ → List ℕ → ℕ → ℕ → List ℕ → List ℕ → List ℕ → Out
resume_of kind n k regs s depth host cells journal =
    cond (ends_by k (pc_of regs)) (stop_at (plainly 1) k (final_of k regs s depth host cells journal)) (run_from kind n k (held_of regs s depth host cells journal))
