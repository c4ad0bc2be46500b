-- The two values of a float opcode, by its cell: document 02, 2026-06.
use Rattle.std.specs.Prelude.{ℕ, Bool, cond, ltb}
use Rattle.half.specs.declared.Extension.TheVariants.{Ex}
use Rattle.cell.specs.Cell.{opcode_of, n_of, m_of, l_of, imm_of}
use Rattle.effect.specs.Action.{Value, R, Extended, Action, calculation}

-- 80 to 92 have two registers, and those above a register and an immediate
abbrev pub on_registers : ℕ → Bool
on_registers c = ltb (opcode_of c) 93

abbrev pub first_of : ℕ → ℕ
first_of c = cond (on_registers c) (m_of c) (n_of c)

abbrev pub second_of : ℕ → Value
second_of c = cond (on_registers c) (R (l_of c)) (Extended Ex (imm_of c))

-- what a cell asks for, taken as a float opcode
abbrev pub calculation_of : ℕ → Action
calculation_of c = calculation (opcode_of c) (n_of c) (R (first_of c)) (second_of c)
