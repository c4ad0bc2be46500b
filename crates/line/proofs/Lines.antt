-- What follows from the promise of `print`: room that is long enough holds the line, shorter room is refused, and one answer is left.
use mathlib.Core.Path.{◌≡◌, refl, sym, ap, ◌∙◌}
use mathlib.Core.Bool.{cond}
use mathlib.Core.List.{List, ◌++◌}
use Rattle.std.specs.Prelude.{Result, Ok, Err}
use Prim.Native.Nat.{ℕ, ◌^◌, ◌<◌, ◌≤◌}
use borrow.Author.Tests.{le-leb, lt-leb}
use lib.Dec.{eqb}
use native.Mathlib.Omega.{arith}
use lib.ListN.{length, take, drop}
use Rattle.cell.specs.Cell.{form_of, legal, immediate, decode_of}
use Rattle.text.specs.Text.{bytes, digits, decimal, Added}
use Rattle.mnemonic.specs.Mnemonic.{mnemonics, word_of}
use Rattle.line.specs.declared.NoRoom.{NoRoom}
use Rattle.line.specs.Line.{line_of, Shown, print_of}
use Rattle.line.specs.Answers.{shown_of}
use Rattle.line.proofs.Sizes.{line_put}

-- document 01's lines, and a line of 24 bytes
add_line : line_of 0x10010203 ≡ bytes "ADD R1, R2, R3\n"
unfolding line_of word_of mnemonics decimal digits decode_of form_of legal immediate
add_line = refl

addi_line : line_of 0x2305FFFD ≡ bytes "ADDI R5, #65533\n"
unfolding line_of word_of mnemonics decimal digits decode_of form_of legal immediate
addi_line = refl

cell_line : line_of 33554432 ≡ bytes "CELL 33554432\n"
unfolding line_of word_of mnemonics decimal digits decode_of form_of legal immediate
cell_line = refl

longest_line : length (line_of 0x6BFFFFFF) ≡ 24
unfolding line_of word_of mnemonics decimal digits decode_of form_of legal immediate
longest_line = refl

-- room that is long enough holds the line, and what it held past it
pub printed : (c : ℕ) (room : List ℕ) → length (line_of c) ≤ length room → print_of c room ≡ record { number = 0; size = length (line_of c); room = line_of c ++ drop (length (line_of c)) room }
unfolding print_of
printed c room h = rw (le-leb (length (line_of c)) (length room) h)

-- shorter room is refused, with 31, and keeps what it held
pub unprinted : (c : ℕ) (room : List ℕ) → length room < length (line_of c) → print_of c room ≡ record { number = 31; size = 0; room = room }
unfolding print_of
unprinted c room h = rw (lt-leb (length (line_of c)) (length room) h)

-- the line that was put into room for the longest, and then into the room
pub put_printed : (c : ℕ) (room : List ℕ) {k : ℕ} {l m p : List ℕ} → c < 2 ^ 32 → length l ≡ 24 → Added l 0 (line_of c) m k → k ≤ length room → p ≡ take k m → print_of c room ≡ record { number = 0; size = k; room = p ++ drop k room }
put_printed c room h e a f q =
    let w = line_put h e a in
    rw (q, w.1, w.0) (printed c room (omega (arith, w.0)))

heard_print : Shown → Result ℕ NoRoom
heard_print s = cond (eqb s.number 0) (Ok s.size) (Err (record {}))

heard_shown : (p : Result ℕ NoRoom) (room : List ℕ) → heard_print (shown_of p room) ≡ p
unfolding heard_print
heard_shown (Ok n) room = refl
heard_shown (Err e) room = refl

room_shown : (p : Result ℕ NoRoom) (room : List ℕ) → (shown_of p room).room ≡ room
room_shown (Ok n) room = refl
room_shown (Err e) room = refl

-- printing leaves one answer and one room
pub print_once : (p q : Result ℕ NoRoom) (r s : List ℕ) → shown_of p r ≡ shown_of q s → (p ≡ q) × (r ≡ s)
print_once p q r s e = (
  sym (heard_shown p r) ∙ ap heard_print e ∙ heard_shown q s,
  sym (room_shown p r) ∙ ap (λ (t : Shown). t.room) e ∙ room_shown q s,
)
