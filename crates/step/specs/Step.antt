-- One step: document 01, 'Stops of step, run and back'; of a profile run, document 02, 2026-02.
use Rattle.std.specs.Prelude.{ℕ, min, Bool, false, cond, not, ◌&&◌, List, leb, ltb, eqb, get_or, length}
use Rattle.std.proofs.Math.Option.{Option, none, some, or_else}
use Rattle.std.specs.Int.Bits.{bit_and}
use Rattle.cell.specs.Cell.{decode_of}
use Rattle.effect.specs.Action.{Action, Cpswp, Ldst, Put, Operate, Split, Bz, Int, Calculate, Float, Illegal, action_of}
use Rattle.effect.specs.Operands.{reg}
use Rattle.effect.specs.Refusal.{refused_by}
use Rattle.effect.specs.Parts.{Effect, Answer, Onward, Interrupt}
use Rattle.machine.specs.State.{State, capacity_of, pc_of}
use Rattle.machine.specs.declared.Kind.{Kind}
use Rattle.machine.specs.declared.Kind.TheVariants.{Plain, Profile}
use Rattle.effect.specs.Effect.{effect_of}
use Rattle.journal.specs.Journal.{ended_of, regs_after, apply_of}
use Rattle.machine.specs.Stops.{Said, plainly, interrupted}

-- what the cell at PC asks for
abbrev pub action_in : State → Action
action_in s = action_of (decode_of (get_or s.cells (pc_of s.regs) 0))

-- how many of m cells, from cell 0 on, a run may fetch from: all, or a profile's code
abbrev pub code_of : Kind → ℕ → ℕ
code_of Plain m = m
code_of (Profile l) m = min l m

-- the stop of a PC past them that has not ended
abbrev pub outside : Kind → ℕ
outside Plain = 4
outside (Profile l) = 62

-- the action stores at a pointer into the code, cells 0 to l-1; pointer 0 is none
unfoldable pub stores_into : ℕ → Action → State → Bool
stores_into l (Ldst n m k) s = leb 1 (reg s m) && ltb (reg s m) l
stores_into l (Cpswp n m k) s = false
stores_into l (Put n v) s = false
stores_into l (Operate op n x y) s = false
stores_into l (Split x n m k) s = false
stores_into l (Bz n imm) s = false
stores_into l (Int n imm) s = false
stores_into l (Calculate op n x y) s = false
stores_into l Float s = false
stores_into l Illegal s = false

-- the stop of a store into a profile's code, whatever else the instruction is
abbrev pub guard_of : Kind → Action → State → Option ℕ
guard_of Plain a s = none
guard_of (Profile l) a s = cond (stores_into l a s) (some 61) none

-- The stop that keeps a step from being done, or none: ended, a fetch past the cells or the code, a full journal, then the instruction's own, then a
-- store into the code.
unfoldable pub refusal_of : Kind → State → Option ℕ
refusal_of kind s =
    cond (ended_of s.regs) (some 1)
    (cond (leb (code_of kind (length s.cells)) (pc_of s.regs)) (some (outside kind))
    (cond (leb (capacity_of s.journal) s.depth) (some 7)
    (or_else (refused_by (action_in s) s) (guard_of kind (action_in s) s))))

-- what the instruction at PC does
unfoldable pub effect_in : State → Effect
effect_in s = effect_of (action_in s) s

-- What became of a step: it was done, and another may follow or not; or it was not done.
pub data Course : Type 0 where
  going : Course
  stopped : Said → Course
  refused : Said → Course

-- whether the mask has a flag that the step raised
abbrev pub traps_of : Effect → Bool
traps_of e = not (eqb (bit_and e.raised e.settings.mask) 0)

-- The stop after a step, or none: ended, then INT, then a trap.
abbrev pub answered : Answer → Effect → Course
answered Onward e = cond (traps_of e) (stopped (plainly 2)) going
answered (Interrupt value imm) e = stopped (interrupted value imm)

unfoldable pub course_of : Effect → List ℕ → Course
course_of e regs = cond (ended_of (regs_after e regs)) (stopped (plainly 1)) (answered e.answer e)

-- One step, of either kind of run: the state after it, which is the one before it where it was refused, and what became of it.
pub record Moved : Type 0 where
  pub state : State
  pub course : Course

abbrev pub done_of : Effect → State → Moved
done_of e s = record { state = apply_of e s; course = course_of e s.regs }

abbrev pub moved : Option ℕ → State → Moved
moved (some k) s = record { state = s; course = refused (plainly k) }
moved none s = done_of (effect_in s) s

unfoldable pub step_of : Kind → State → Moved
step_of kind s = moved (refusal_of kind s) s
