-- What follows from the promises of `print` and `read`: a line belongs to one cell, what is printed is read back, what is read is
-- printed again, and the promise of `read` leaves one answer.
use mathlib.Core.Path.{◌≡◌, refl, sym, ap, ◌∙◌}
use mathlib.Core.Bool.{cond}
use mathlib.Core.List.{List}
use Prim.Native.Nat.{ℕ, ◌^◌, ◌<◌, ◌≤◌}
use lib.Dec.{eqb}
use lib.ListN.{length, take, drop}
use lib.Seq.{take-append_seam}
use Rattle.cell.specs.Cell.{Reply}
use Rattle.cell.proofs.RoundTrip.{made}
use Rattle.line.specs.Line.{line_of, Shown, placed, print_of}
use Rattle.line.proofs.Lines.{printed}
use Rattle.std.specs.Prelude.{Result, Ok, Err}
use Rattle.reader.specs.declared.NoLine.{NoLine}
use Rattle.reader.specs.Reader.{Reads}
use Rattle.reader.specs.Answers.{read_reply, Small}
use Rattle.reader.specs.Reading.{read_of}
use Rattle.reader.proofs.Answers.{read_back}

-- two different cells never print the same line
pub line_once : (c d : ℕ) → c < 2 ^ 32 → d < 2 ^ 32 → line_of c ≡ line_of d → c ≡ d
line_once c d h k e = ap (λ (s : Reply). s.cell) (sym (read_back c h) ∙ ap read_of e ∙ read_back d k)

-- reading what was printed gives the cell
pub print_read : (c : ℕ) (room : List ℕ) (said : Reply) → c < 2 ^ 32 → length (line_of c) ≤ length room → Reads (take (print_of c room).size (print_of c room).room) said → said ≡ made c
print_read c room said h f r =
    let line : take (print_of c room).size (print_of c room).room ≡ line_of c =
    ap (λ (p : Shown). take p.size p.room) (printed c room f) ∙ take-append_seam (line_of c) (drop (length (line_of c)) room) in
    (r.cell c h).1 line

-- printing what was read gives the line
pub read_print : (c : ℕ) (text room : List ℕ) → c < 2 ^ 32 → Reads text (made c) → print_of c room ≡ placed text room
unfolding print_of
read_print c text room h r = ap (λ (line : List ℕ). placed line room) (sym ((r.cell c h).0 refl))

-- what is said of a text is said by one answer
heard_line : Reply → Result ℕ NoLine
heard_line s = cond (eqb s.number 0) (Ok s.cell) (Err (record {}))

heard_said : (r : Result ℕ NoLine) → heard_line (read_reply r) ≡ r
unfolding heard_line
heard_said (Ok c) = refl
heard_said (Err e) = refl

pub said_once : (p q : Result ℕ NoLine) → read_reply p ≡ read_reply q → p ≡ q
said_once p q e = sym (heard_said p) ∙ ap heard_line e ∙ heard_said q

reads_same : (text : List ℕ) (p q : Result ℕ NoLine) → Small p → Reads text (read_reply p) → Reads text (read_reply q) → read_reply p ≡ read_reply q
reads_same text (Ok c) q h r s = sym ((s.cell c h).1 ((r.cell c h).0 refl))
reads_same text (Err e) q h r s = sym (s.refused.1 (r.refused.0 refl))

-- reading leaves one answer
pub read_once : (text : List ℕ) (p q : Result ℕ NoLine) → Small p → Reads text (read_reply p) → Reads text (read_reply q) → p ≡ q
read_once text p q h r s = said_once p q (reads_same text p q h r s)
