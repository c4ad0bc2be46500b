-- How long a line's parts are: a word has at most 7 bytes, a register at most 3 digits, an immediate 5 and a cell 10; and so a
-- line has at most 24 bytes.
use mathlib.Core.Path.{◌≡◌, ap}
use Prim.Native.Nat.{ℕ, ◌^◌, ◌<◌, ◌≤◌}
use native.Mathlib.Omega.{arith}
use mathlib.Core.List.{List}
use lib.ListN.{length, take, length-append}
use Rattle.cell.specs.declared.Instruction.{Instruction}
use Rattle.cell.specs.declared.Instruction.TheVariants.{Registers, Immediate, Reserved}
use Rattle.cell.specs.Cell.{decode_of}
use Rattle.cell.proofs.Fields.{InRange, decoded_in_range}
use Rattle.text.specs.Text.{decimal, Added}
use Rattle.text.proofs.Adds.{added_front}
use Rattle.text.proofs.Decimal.{decimal_length}
use Rattle.mnemonic.specs.Mnemonic.{word_of}
use Rattle.mnemonic.proofs.Words.{word_short}
use Rattle.line.specs.Line.{spelled, line_of}

abbrev Sized : Instruction → Type 0
Sized (Registers x n m l) =
    (length (word_of x) ≤ 7) × (length (decimal n) ≤ 3) × (length (decimal m) ≤ 3) × (length (decimal l) ≤ 3)
Sized (Immediate x n i) = (length (word_of x) ≤ 7) × (length (decimal n) ≤ 3) × (length (decimal i) ≤ 5)
Sized (Reserved c) = length (decimal c) ≤ 10

in_range_sized : (i : Instruction) → InRange i → Sized i
in_range_sized (Registers x n m l) r =
    (word_short x, decimal_length 2 n (omega arith), decimal_length 2 m (omega arith), decimal_length 2 l (omega arith))
in_range_sized (Immediate x n i) r = (word_short x, decimal_length 2 n (omega arith), decimal_length 4 i (omega arith))
in_range_sized (Reserved c) r = decimal_length 9 c (omega arith)

pub line_spelled : (c : ℕ) {i : Instruction} → decode_of c ≡ i → line_of c ≡ spelled i
unfolding line_of
line_spelled c e = ap spelled e

spelled_short : (i : Instruction) → Sized i → length (spelled i) ≤ 24
spelled_short (Registers x n m l) s = simp length-append (omega arith)
spelled_short (Immediate x n i) s = simp length-append (omega arith)
spelled_short (Reserved c) s = simp length-append (omega arith)

pub line_short : (c : ℕ) → c < 2 ^ 32 → length (line_of c) ≤ 24
unfolding line_of
line_short c h = spelled_short (decode_of c) (in_range_sized (decode_of c) (decoded_in_range c h))

-- the line that is put into room for the longest
pub line_put : {c : ℕ} {l m : List ℕ} {k : ℕ} → c < 2 ^ 32 → length l ≡ 24 → Added l 0 (line_of c) m k → (k ≡ length (line_of c)) × (take k m ≡ line_of c)
line_put {c} h e a = added_front (line_of c) (omega (arith, line_short c h)) a
