-- How a run stopped, in the numbers that the code holds: from what its last step told, the registers and the cell, or, where no step stopped it, from
-- PC, the steps that are done, the budget and the limit.
use Rattle.std.specs.Prelude.{ℕ, Bool, cond, not, ◌&&◌, ◌||◌, List, leb, ltb, eqb, get_or}
use Rattle.std.specs.Int.Bits.{bit_and}
use Rattle.cell.specs.Cell.{n_of, imm_of}
use Rattle.machine.specs.State.{first_special}
use Rattle.machine.specs.Stops.{Said, plainly, interrupted}
use Rattle.machine.specs.declared.Kind.{Kind}
use Rattle.packed.specs.Packed.{unpacked_of}
use Rattle.journal.specs.Journal.{ended_of}
use Rattle.step.specs.Step.{outside}
use Rattle.carried.specs.Left.{told_int, told_fault, told_float}

-- the mask has a flag that was told
abbrev pub trapped : ℕ → ℕ → Bool
trapped told s = not (eqb (bit_and told (unpacked_of s).mask) 0)

-- a step that told this stops the run
abbrev pub stopping : ℕ → ℕ → Bool
stopping told s = leb told_int told || trapped told s

-- the stop of a step that is refused: 5, 6 or 13
abbrev pub refusal_by : ℕ → Said
refusal_by told = plainly (cond (eqb told told_fault) 5 (cond (eqb told told_float) 6 13))

-- the stop after a step that is done and stops: 1, 3, 2
abbrev pub stop_after : ℕ → List ℕ → ℕ → Said
stop_after told regs cell =
    cond (ended_of regs) (plainly 1)
    (cond (eqb told told_int) (interrupted (get_or regs (n_of cell) 0) (imm_of cell)) (plainly 2))

-- the last of the steps that are done has ended the run
abbrev pub ends_by : ℕ → ℕ → Bool
ends_by done pc = ltb 0 done && leb first_special pc

-- the stop's number of a run that no step stopped
abbrev pub number_of : Kind → ℕ → ℕ → ℕ → ℕ → ℕ
number_of kind done budget limit pc =
    cond (ends_by done pc) 1
    (cond (eqb done budget) 0
    (cond (leb first_special pc) 1
    (cond (leb limit pc) (outside kind) 7)))
