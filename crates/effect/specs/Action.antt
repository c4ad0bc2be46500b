-- What an instruction asks for, by its opcode: document 01, 'One step'; the operations on floats: document 02, 2026-06.
use Rattle.std.specs.Prelude.{ℕ, Bool, cond, List, [], ◌∷◌, eqb}
use Rattle.word.specs.declared.Op.{Op}
use Rattle.half.specs.declared.Extension.{Extension}
use Rattle.half.specs.declared.Extension.TheVariants.{Se, Ex}
use Rattle.float.specs.declared.FloatOp.{FloatOp}
use Rattle.float.specs.declared.FloatOp.TheVariants.{Add, Sub, Mul, Div, Gt, Eq}
use Rattle.word.specs.Operation.{Asked, Given, Turned, Other}
use Rattle.word.specs.Word.{asked_of}
use Rattle.cell.specs.declared.Instruction.{Instruction}
use Rattle.cell.specs.declared.Instruction.TheVariants.{Registers, Immediate, Reserved}
use Rattle.cell.specs.Cell.{within}

-- A value that an instruction reads: a register's, imm itself, imm extended, or a register's with its lower or upper half replaced by imm.
pub data Value : Type 0 where
  R : ℕ → Value
  Imm : ℕ → Value
  Extended : Extension → ℕ → Value
  Lower : ℕ → ℕ → Value
  Upper : ℕ → ℕ → Value

-- What instructions do. The numbers are registers, in the order n, m, l; or n and imm.
pub data Action : Type 0 where
  Cpswp : ℕ → ℕ → ℕ → Action
  Ldst : ℕ → ℕ → ℕ → Action
  -- register n gets a value
  Put : ℕ → Value → Action
  -- register n gets what an operation makes of two values
  Operate : Op → ℕ → Value → Value → Action
  Split : Extension → ℕ → ℕ → ℕ → Action
  Bz : ℕ → ℕ → Action
  Int : ℕ → ℕ → Action
  -- register n gets what an operation makes of two floats
  Calculate : FloatOp → ℕ → Value → Value → Action
  -- the arithmetic that is out
  Float : Action
  Illegal : Action

-- the row of a table that has the opcode, else what is left
abbrev pub among : ℕ → List (ℕ × Action) → Action → Action
among opcode [] other = other
among opcode (row ∷ rows) other = cond (eqb opcode row.0) row.1 (among opcode rows other)

-- 16 to 53: an operation on two values, or on the two turned; of the opcodes that come here the others are reserved
abbrev pub operation : Asked → ℕ → Value → Value → Action
operation (Given op) n x y = Operate op n x y
operation (Turned op) n x y = Operate op n y x
operation Other n x y = Illegal

-- the opcodes of floats
abbrev pub floats : ℕ → Bool
floats opcode = within 80 106 opcode

-- those that run: an operation on two values, which 104 turns; all others are out
abbrev pub calculations : ℕ → Value → Value → List (ℕ × Action)
calculations n x y =
    (80, Calculate Add n x y)
    ∷ (81, Calculate Sub n x y)
    ∷ (82, Calculate Mul n x y)
    ∷ (83, Calculate Div n x y)
    ∷ (89, Calculate Gt n x y)
    ∷ (90, Calculate Eq n x y)
    ∷ (93, Calculate Add n x y)
    ∷ (94, Calculate Sub n x y)
    ∷ (95, Calculate Mul n x y)
    ∷ (96, Calculate Div n x y)
    ∷ (102, Calculate Gt n x y)
    ∷ (103, Calculate Eq n x y)
    ∷ (104, Calculate Gt n y x)
    ∷ []

abbrev pub calculation : ℕ → ℕ → Value → Value → Action
calculation opcode n x y = among opcode (calculations n x y) Float

-- The table of opcodes: those of three registers, then those of a register and an immediate. A reserved cell is illegal.
unfoldable pub action_of : Instruction → Action
action_of (Registers opcode n m l) =
    among opcode
    ((0, Cpswp n m l)
    ∷ (1, Ldst n m l)
    ∷ (54, Split Se n m l)
    ∷ (107, Split Ex n m l)
    ∷ [])
    (cond (floats opcode) (calculation opcode n (R m) (R l))
    (operation (asked_of opcode) n (R m) (R l)))
action_of (Immediate opcode n imm) =
    among opcode
    ((3, Put n (Lower n imm))
    ∷ (4, Put n (Upper n imm))
    ∷ (5, Put n (Imm imm))
    ∷ (6, Put n (Extended Se imm))
    ∷ (7, Put n (Extended Ex imm))
    ∷ (121, Bz n imm)
    ∷ (122, Int n imm)
    ∷ [])
    -- Rn is the first value; the second is ex(imm) for floats, and se(imm) from 35 to 53
    (cond (floats opcode) (calculation opcode n (R n) (Extended Ex imm))
    (operation (asked_of opcode) n (R n) (Extended Se imm)))
action_of (Reserved c) = Illegal
