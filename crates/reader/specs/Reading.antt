-- How a text is taken apart from the front. The private functions of reading answer as these definitions do; what `read` promises
-- is stated by the printed line alone, in Reader.antt.
use Rattle.std.specs.Prelude.{Bool, cond, ◌&&◌, List, [], ◌∷◌, ℕ, zero, suc, ◌+◌, ◌-◌, ◌*◌, leb, ltb, eqb, length, drop, get_or, Option, Some, None}
use Rattle.std.specs.Borrow.{Bor}
use Rattle.cell.specs.declared.Form.{Form}
use Rattle.cell.specs.declared.Form.TheVariants as form
use Rattle.cell.specs.declared.Operands.TheVariants as operands
use Rattle.cell.specs.Cell.{Reply, form_of, encode_of, opcode_of, within}
use Rattle.text.specs.Text.{bytes}
use Rattle.mnemonic.specs.Mnemonic.{word_of}
use Rattle.mnemonic.specs.Inner.{begins}

-- what is taken off the front of a text: a value and the rest, or nothing
pub data Taken : Type 0 where
  taken : ℕ → List ℕ → Taken
  missing : Taken

-- a field's answer
abbrev pub taken_from : Option (ℕ × Bor (List ℕ)) → Taken
taken_from (Some p) = taken p.0 p.1.now
taken_from None = missing

-- b is one of the digits 0 to 9
abbrev pub digit : ℕ → Bool
digit b = within 48 57 b

-- a number that begins with v goes on with the byte b: no digit follows a leading zero, nor a number above the limit
abbrev pub grows : ℕ → ℕ → ℕ → Bool
grows limit v b = digit b && ltb 0 v && leb v limit

-- v and the rest, if v is within the limit
abbrev pub at_most : ℕ → ℕ → List ℕ → Taken
at_most limit v s = cond (leb v limit) (taken v s) missing

-- the number that begins with v
unfoldable pub run_onward : ℕ → ℕ → List ℕ → Taken
run_onward limit v [] = at_most limit v []
run_onward limit v (b ∷ s) = cond (grows limit v b) (run_onward limit (10 * v + (b - 48)) s) (at_most limit v (b ∷ s))

-- a number of at most the limit
unfoldable pub numeral_of : ℕ → List ℕ → Taken
numeral_of limit [] = missing
numeral_of limit (b ∷ s) = cond (digit b) (run_onward limit (b - 48) s) missing

-- a sign, and a number
unfoldable pub field_of : List ℕ → ℕ → List ℕ → Taken
field_of sign limit s = cond (begins sign s) (numeral_of limit (drop (length sign) s)) missing

-- the first of n opcodes from x on whose word the text begins with
unfoldable pub word_from : ℕ → ℕ → List ℕ → Taken
word_from zero x s = missing
word_from (suc n) x s = cond (begins (word_of x) s) (taken x (drop (length (word_of x)) s)) (word_from n (suc x) s)

-- nothing is left but LF
abbrev pub ended : List ℕ → Bool
ended s = eqb (length s) 1 && eqb (get_or s 0 0) 10

abbrev pub refused : Reply
refused = record { number = 30; cell = 0 }

-- what was encoded is the answer, if it is a cell and the text ends there
abbrev pub finished : Reply → List ℕ → Reply
finished said s = cond (eqb said.number 0 && ended s) said refused

-- what was taken off goes on into the next field; where it is missing the text is refused
abbrev pub on_taken : Taken → (ℕ → List ℕ → Reply) → Reply
on_taken (taken v s) f = f v s
on_taken missing f = refused

unfoldable pub registers_of : ℕ → List ℕ → Reply
registers_of x s =
    on_taken (field_of (bytes "R") 255 s) (λ n s₁.
    on_taken (field_of (bytes ", R") 255 s₁) (λ m s₂.
    on_taken (field_of (bytes ", R") 255 s₂) (λ l s₃. finished (encode_of x (operands.Registers n m l)) s₃)))

unfoldable pub immediate_of : ℕ → List ℕ → Reply
immediate_of x s =
    on_taken (field_of (bytes "R") 255 s) (λ n s₁.
    on_taken (field_of (bytes ", #") 65535 s₁) (λ i s₂. finished (encode_of x (operands.Immediate n i)) s₂))

-- a cell stands as its number only if it is reserved
abbrev pub reserved_of : Form → ℕ → Reply
reserved_of form.Registers c = refused
reserved_of form.Immediate c = refused
reserved_of form.Reserved c = record { number = 0; cell = c }

unfoldable pub cell_of : List ℕ → Reply
cell_of s = on_taken (numeral_of 4294967295 s) (λ c s₁. finished (reserved_of (form_of (opcode_of c)) c) s₁)

abbrev pub rest_of : Form → ℕ → List ℕ → Reply
rest_of form.Registers x s = registers_of x s
rest_of form.Immediate x s = immediate_of x s
rest_of form.Reserved x s = cell_of s

unfoldable pub read_of : List ℕ → Reply
read_of s = on_taken (word_from 123 0 s) (λ x s₁. rest_of (form_of x) x s₁)
