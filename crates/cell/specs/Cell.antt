-- A cell as an instruction: document 01, 'The cell as an instruction'.
use Rattle.std.specs.Prelude.{ℕ, ◌+◌, ◌*◌, ◌/◌, ◌%◌, Bool, cond, ◌&&◌, ◌||◌, leb}
use Rattle.cell.specs.declared.Form.{Form}
use Rattle.cell.specs.declared.Form.TheVariants as form
use Rattle.cell.specs.declared.Instruction.{Instruction}
use Rattle.cell.specs.declared.Instruction.TheVariants as instruction
use Rattle.cell.specs.declared.Operands.{Operands}
use Rattle.cell.specs.declared.Operands.TheVariants as operands

-- x is one of the numbers a to b
abbrev pub within : ℕ → ℕ → ℕ → Bool
within a b x = leb a x && leb x b

-- the 76 legal opcodes; any other is reserved
unfoldable pub legal : ℕ → Bool
legal x = within 0 1 x || within 3 7 x || within 16 54 x || within 80 107 x || within 121 122 x

-- the 40 that take an immediate
unfoldable pub immediate : ℕ → Bool
immediate x = within 3 7 x || within 35 53 x || within 93 106 x || within 121 122 x

-- how the bits below an opcode are read
unfoldable pub form_of : ℕ → Form
form_of x = cond (legal x) (cond (immediate x) form.Immediate form.Registers) form.Reserved

-- a cell's highest 8 bits
abbrev pub opcode_of : ℕ → ℕ
opcode_of c = c / 16777216

-- below them n, m and l, 8 bits each; imm has the place of m and l
abbrev pub n_of : ℕ → ℕ
n_of c = c / 65536 % 256

abbrev pub m_of : ℕ → ℕ
m_of c = c / 256 % 256

abbrev pub l_of : ℕ → ℕ
l_of c = c % 256

abbrev pub imm_of : ℕ → ℕ
imm_of c = c % 65536

-- a cell read in a form; a reserved one is answered whole
abbrev pub read_in : Form → ℕ → Instruction
read_in form.Registers c = instruction.Registers (opcode_of c) (n_of c) (m_of c) (l_of c)
read_in form.Immediate c = instruction.Immediate (opcode_of c) (n_of c) (imm_of c)
read_in form.Reserved c = instruction.Reserved c

unfoldable pub decode_of : ℕ → Instruction
decode_of c = read_in (form_of (opcode_of c)) c

-- what encoding says: a refusal's number and 0, or 0 and the cell
pub record Reply : Type 0 where
  pub number : ℕ
  pub cell : ℕ

-- an opcode with operands, written in the opcode's form: 21 if it is reserved, 22 if the operands are of the other form
abbrev pub write_as : Form → ℕ → Operands → Reply
write_as form.Registers x (operands.Registers n m l) = record { number = 0; cell = 16777216 * x + 65536 * n + 256 * m + l }
write_as form.Registers x (operands.Immediate n i) = record { number = 22; cell = 0 }
write_as form.Immediate x (operands.Registers n m l) = record { number = 22; cell = 0 }
write_as form.Immediate x (operands.Immediate n i) = record { number = 0; cell = 16777216 * x + 65536 * n + i }
write_as form.Reserved x o = record { number = 21; cell = 0 }

unfoldable pub encode_of : ℕ → Operands → Reply
encode_of x o = write_as (form_of x) x o
