-- What the code asks of a store before a step: document 02, 2026-02, as numbers. 61 is for the stores that it finds, and 5 comes before it.
use Rattle.std.specs.Prelude.{ℕ, Bool, not, ◌&&◌, ◌||◌, List, leb, ltb, eqb}
use Rattle.cell.specs.Cell.{opcode_of, m_of, l_of}
use Rattle.machine.specs.declared.Kind.{Kind}
use Rattle.machine.specs.declared.Kind.TheVariants.{Plain, Profile}
use Rattle.effect.specs.Operands.{operand_of}
use Rattle.effect.specs.Refusal.{faults}

-- how many cells a run may not store to
abbrev pub guarded_of : Kind → ℕ
guarded_of Plain = 0
guarded_of (Profile l) = l

-- the cell is an LDST that stores below the guard, and neither of its pointers faults
unfoldable pub stores_below : ℕ → ℕ → List ℕ → ℕ → Bool
stores_below guard size regs cell =
    eqb (opcode_of cell) 1
    && (leb 1 (operand_of regs (m_of cell)) && ltb (operand_of regs (m_of cell)) guard)
    && not (faults size (operand_of regs (l_of cell)) || faults size (operand_of regs (m_of cell)))
