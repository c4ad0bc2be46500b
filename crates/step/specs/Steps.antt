-- The step repeated: n steps of the definition, and what becomes of the one after them.
use Rattle.std.specs.Prelude.{ℕ, zero, suc}
use Rattle.machine.specs.State.{State}
use Rattle.machine.specs.declared.Kind.{Kind}
use Rattle.step.specs.Step.{Course, step_of}

-- a refused step leaves the state as it was, and so do all steps after it
unfoldable pub steps : Kind → ℕ → State → State
steps kind zero s = s
steps kind (suc n) s = (step_of kind (steps kind n s)).state

abbrev pub course_after : Kind → ℕ → State → Course
course_after kind n s = (step_of kind (steps kind n s)).course
