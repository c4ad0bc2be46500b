-- The word that begins a line, by opcode: document 01, 'Lines and jobs'.
use Rattle.std.specs.Prelude.{List, [], ◌∷◌, ◌++◌, ℕ, get_or}
use Prim.Native.String.{String}
use Rattle.text.specs.Text.{bytes}

-- The mnemonics in opcode order, eight to a row, as the source's headings have them; a reserved opcode has CELL.
unfoldable pub mnemonics : List String
mnemonics =
    "CPSWP" ∷ "LDST" ∷ "CELL" ∷ "LDLI" ∷ "LDUI" ∷ "LDLIZ" ∷ "LDLISE" ∷ "LDLIF" ∷
    "CELL" ∷ "CELL" ∷ "CELL" ∷ "CELL" ∷ "CELL" ∷ "CELL" ∷ "CELL" ∷ "CELL" ∷
    "ADD" ∷ "ADC" ∷ "SUB" ∷ "SBB" ∷ "MUL" ∷ "UDIV" ∷ "SDIV" ∷ "MOD" ∷
    "AND" ∷ "OR" ∷ "XOR" ∷ "NAND" ∷ "LNAND" ∷ "LSH" ∷ "URSH" ∷ "SRSH" ∷
    "UGT" ∷ "SGT" ∷ "EQ" ∷ "ADDI" ∷ "ADCI" ∷ "SUBI" ∷ "SBBI" ∷ "MULI" ∷
    "UDIVI" ∷ "SDIVI" ∷ "MODI" ∷ "ANDI" ∷ "ORI" ∷ "XORI" ∷ "LSHI" ∷ "URSHI" ∷
    "SRSHI" ∷ "UGTI" ∷ "SGTI" ∷ "EQI" ∷ "ULTI" ∷ "SLTI" ∷ "SPLIT" ∷ "CELL" ∷
    "CELL" ∷ "CELL" ∷ "CELL" ∷ "CELL" ∷ "CELL" ∷ "CELL" ∷ "CELL" ∷ "CELL" ∷
    "CELL" ∷ "CELL" ∷ "CELL" ∷ "CELL" ∷ "CELL" ∷ "CELL" ∷ "CELL" ∷ "CELL" ∷
    "CELL" ∷ "CELL" ∷ "CELL" ∷ "CELL" ∷ "CELL" ∷ "CELL" ∷ "CELL" ∷ "CELL" ∷
    "FADD" ∷ "FSUB" ∷ "FMUL" ∷ "FDIV" ∷ "FMOD" ∷ "FEXP" ∷ "FLOG" ∷ "FSIN" ∷
    "FASIN" ∷ "FGT" ∷ "FEQ" ∷ "I2F" ∷ "F2I" ∷ "FADDI" ∷ "FSUBI" ∷ "FMULI" ∷
    "FDIVI" ∷ "FMODI" ∷ "FEXPI" ∷ "FLOGI" ∷ "FSINI" ∷ "FASINI" ∷ "FGTI" ∷ "FEQI" ∷
    "FLTI" ∷ "II2F" ∷ "IF2I" ∷ "FSPLIT" ∷ "CELL" ∷ "CELL" ∷ "CELL" ∷ "CELL" ∷
    "CELL" ∷ "CELL" ∷ "CELL" ∷ "CELL" ∷ "CELL" ∷ "CELL" ∷ "CELL" ∷ "CELL" ∷
    "CELL" ∷ "BZ" ∷ "INT" ∷ []

-- the mnemonic, and the space after it
unfoldable pub word_of : ℕ → List ℕ
word_of x = bytes (get_or mnemonics x "CELL") ++ bytes " "
