-- A cell as a line of text: document 01, 'Lines and jobs'.
use Rattle.std.specs.Prelude.{cond, List, ◌++◌, ℕ, leb, length, drop}
use Rattle.cell.specs.declared.Instruction.{Instruction}
use Rattle.cell.specs.declared.Instruction.TheVariants.{Registers, Immediate, Reserved}
use Rattle.cell.specs.Cell.{decode_of}
use Rattle.text.specs.Text.{bytes, named}
use Rattle.mnemonic.specs.Mnemonic.{word_of}

-- an instruction's line, as `ADD R1, R2, R3` and `ADDI R5, #65533`, and that of a reserved cell, as `CELL 33554432`, ended by LF
abbrev pub spelled : Instruction → List ℕ
spelled (Registers x n m l) = word_of x ++ named "R" n ++ named ", R" m ++ named ", R" l ++ bytes "\n"
spelled (Immediate x n i) = word_of x ++ named "R" n ++ named ", #" i ++ bytes "\n"
spelled (Reserved c) = named "CELL " c ++ bytes "\n"

-- the printed line of a cell
unfoldable pub line_of : ℕ → List ℕ
line_of c = spelled (decode_of c)

-- what printing shows: a refusal's number and 0, or 0 and the line's length; and the room
pub record Shown : Type 0 where
  pub number : ℕ
  pub size : ℕ
  pub room : List ℕ

-- a line goes to the front of the room, whose rest stays; or there is too little room, which stays whole: 31
abbrev pub placed : List ℕ → List ℕ → Shown
placed line room =
    cond (leb (length line) (length room))
    (record { number = 0; size = length line; room = line ++ drop (length line) room })
    (record { number = 31; size = 0; room = room })

unfoldable pub print_of : ℕ → List ℕ → Shown
print_of c room = placed (line_of c) room
