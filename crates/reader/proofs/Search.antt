-- Finding the word that a text begins with, one opcode after the other. That words are told apart, and that CELL stands for each
-- reserved opcode, are tests computed over the whole table.
use mathlib.Core.Path.{◌≡◌, refl, sym, ap, ◌∙◌}
use mathlib.Core.Bool.{Bool, true, false, cond, not, ◌&&◌, ◌||◌}
use mathlib.Core.List.{List, [], ◌∷◌, ◌++◌, append-nil}
use Prim.Native.Nat.{ℕ, zero, suc, ◌+◌, ◌-◌, ◌<◌, ◌≤◌}
use native.Mathlib.Omega.{arith}
use native.Mathlib.Numerals.{add-one}
use borrow.Author.Tests.{eqb-true, ltb-true, ltb-false, not-false}
use lib.Dec.{eqb, ltb}
use lib.ListN.{length, take, drop, drop_of_length-le}
use lib.Seq.{drop-append_seam}
use Rattle.cell.specs.declared.Form.{Form}
use Rattle.cell.specs.declared.Form.TheVariants as form
use Rattle.cell.specs.Cell.{form_of, legal, immediate}
use Rattle.cell.proofs.Opcodes.{reserved_above}
use Rattle.cell.proofs.Tests.{never, count, none_passes, everywhere, both_left, both_right}
use Rattle.std.specs.Cmp.Lexicographic.{pointwise}
use Rattle.text.specs.Text.{bytes, Added}
use Rattle.text.proofs.Adds.{added_front}
use Rattle.mnemonic.proofs.Words.{word_short}
use Rattle.reader.proofs.Pieces.{stripped_begins}
use Rattle.mnemonic.specs.Mnemonic.{mnemonics, word_of}
use Rattle.mnemonic.specs.Inner.{begins}
use Rattle.mnemonic.proofs.Pieces.{begins_split, begins_append}
use Rattle.reader.specs.Reading.{Taken, taken, missing, word_from}

word_one : (n x : ℕ) (s : List ℕ) → word_from (suc n) x s ≡ cond (begins (word_of x) s) (taken x (drop (length (word_of x)) s)) (word_from n (suc x) s)
unfolding word_from
word_one n x s = refl

module _ (x : ℕ) (s : List ℕ) (h : x < 123) where
  left : 123 - x ≡ suc (123 - (x + 1))
  left = omega arith

  pub word_here : begins (word_of x) s ≡ true → word_from (123 - x) x s ≡ taken x (drop (length (word_of x)) s)
  word_here e = rw (left, word_one, e)

  pub word_next : begins (word_of x) s ≡ false → word_from (123 - x) x s ≡ word_from (123 - (x + 1)) (x + 1) s
  word_next e = rw (left, word_one, e) (ap (λ (y : ℕ). word_from (123 - (x + 1)) y s) (omega arith))

  -- the word that was put into eight bytes is found at the front of the text, or not
  module _ {l m : List ℕ} {k : ℕ} (eight : length l ≡ 8) (put : Added l 0 (word_of x) m k) where
    word_put : take k m ≡ word_of x
    word_put = (added_front (word_of x) (omega (arith, word_short x)) put).1

    word_stripped : pointwise eqb (take (length (take k m)) s) (take k m) ≡ begins (word_of x) s
    word_stripped = ap (λ (p : List ℕ). pointwise eqb (take (length p) s) p) word_put ∙ stripped_begins (word_of x) s

    pub word_found : pointwise eqb (take (length (take k m)) s) (take k m) ≡ true → word_from (123 - x) x s ≡ taken x (drop (length (take k m)) s)
    word_found e = word_here (sym word_stripped ∙ e) ∙ ap (λ (p : List ℕ). taken x (drop (length p) s)) (sym word_put)

    pub word_passed : pointwise eqb (take (length (take k m)) s) (take k m) ≡ false → word_from (123 - x) x s ≡ word_from (123 - (x + 1)) (x + 1) s
    word_passed e = word_next (sym word_stripped ∙ e)

pub word_none : (x : ℕ) (s : List ℕ) → 123 ≤ x → word_from (123 - x) x s ≡ missing
unfolding word_from
word_none x s h = let n : 123 - x ≡ 0 = omega arith in rw n

-- a step of the code
pub ruleset steps = (word_found, word_passed, word_none)

-- a word that is found begins the text
word_tested : (x : ℕ) (s : List ℕ) {y : ℕ} {t : List ℕ} (b : Bool) → begins (word_of x) s ≡ b → (o : Taken) → (o ≡ taken y t → (s ≡ word_of y ++ t) × (y < 123)) → x < 123 → cond b (taken x (drop (length (word_of x)) s)) o ≡ taken y t → (s ≡ word_of y ++ t) × (y < 123)
word_tested x s {y} {t} true e o next h r =
    let q : x ≡ y = cc in
    let p : drop (length (word_of x)) s ≡ t = cc in
    (begins_split (word_of x) s e ∙ ap (λ (u : List ℕ). word_of x ++ u) p ∙ ap (λ (z : ℕ). word_of z ++ t) q, omega arith)
word_tested x s false e o next h r = next r

pub word_true : (n x : ℕ) (s : List ℕ) {y : ℕ} {t : List ℕ} → n + x ≤ 123 → word_from n x s ≡ taken y t → (s ≡ word_of y ++ t) × (y < 123)
unfolding word_from
word_true zero x s h r = never (cc)
word_true (suc n) x s h r =
    word_tested x s (begins (word_of x) s) refl (word_from n (suc x) s) (word_true n (suc x) s (omega arith)) (omega arith) r

-- two pieces differ at a place that both have
abbrev apart : List ℕ → List ℕ → Bool
apart [] s = false
apart (a ∷ p) [] = false
apart (a ∷ p) (b ∷ s) = not (eqb a b) || apart p s

either : (c d f : Bool) → (d ≡ true → f ≡ false) → not c || d ≡ true → c && f ≡ false
either true d f g e = g e
either false d f g e = refl

apart_begins : (p s t : List ℕ) → apart p s ≡ true → begins p (s ++ t) ≡ false
apart_begins [] s t e = never (cc)
apart_begins (a ∷ p) [] t e = never (cc)
apart_begins (a ∷ p) (b ∷ s) t e = either (eqb a b) (apart p s) (begins p (s ++ t)) (apart_begins p s t) e

-- the word of an opcode is apart from those before it
abbrev first : ℕ → Bool
first x = eqb (count (λ (y : ℕ). not (apart (word_of y) (word_of x))) x) 0

abbrev pub reserved : Form → Bool
reserved form.Registers = false
reserved form.Immediate = false
reserved form.Reserved = true

all_first : count (λ (x : ℕ). not (reserved (form_of x) || first x)) 123 ≡ 0
unfolding word_of mnemonics form_of legal immediate
all_first = refl

-- the first row that is CELL stands for all of them
cell_first : first 2 ≡ true
unfolding word_of mnemonics
cell_first = refl

pub cell_word : word_of 2 ≡ bytes "CELL "
unfolding word_of mnemonics
cell_word = refl

-- opcodes whose words do not begin the text are passed
passed : (x : ℕ) (s : List ℕ) → x ≤ 123 → ((y : ℕ) → y < x → begins (word_of y) s ≡ false) → word_from (123 - x) x s ≡ word_from 123 0 s
passed zero s h n = refl
passed (suc x) s h n =
    rw (← add-one x) (sym (word_next x s (omega arith) (n x (omega arith))))
    ∙ passed x s (omega arith) (λ y l. n y (omega arith))

module _ (x : ℕ) (t : List ℕ) (h : x < 123) where
  others : first x ≡ true → (y : ℕ) → y < x → begins (word_of y) (word_of x ++ t) ≡ false
  others f y l =
      apart_begins (word_of y) (word_of x) t
      (not-false (apart (word_of y) (word_of x))
      (none_passes (λ (z : ℕ). not (apart (word_of z) (word_of x))) x (eqb-true (count (λ (z : ℕ). not (apart (word_of z) (word_of x))) x) 0 f) y l))

  found : first x ≡ true → word_from 123 0 (word_of x ++ t) ≡ taken x t
  found f =
      sym (passed x (word_of x ++ t) (omega arith) (others f))
      ∙ word_here x (word_of x ++ t) h (begins_append (word_of x) t)
      ∙ ap (λ (u : List ℕ). taken x u) (drop-append_seam (word_of x) t)

  listed_back : reserved (form_of x) ≡ false → word_from 123 0 (word_of x ++ t) ≡ taken x t
  listed_back r = found (rw r at (everywhere (λ (y : ℕ). reserved (form_of y) || first y) 123 all_first x h))

-- an opcode that is not reserved has a row in the table
listed : (x : ℕ) (b : Bool) → ltb x 123 ≡ b → x < 256 → reserved (form_of x) ≡ false → x < 123
listed x true e h f = ltb-true x 123 e
listed x false e h f =
    let r : reserved (form_of x) ≡ true = ap reserved (reserved_above x h (ltb-false x 123 e)) in
    never (cc)

-- and its word is found
pub word_back : (x : ℕ) (t : List ℕ) → x < 256 → reserved (form_of x) ≡ false → word_from 123 0 (word_of x ++ t) ≡ taken x t
word_back x t h r = listed_back x t (listed x (ltb x 123) refl h r) r

-- and so is CELL
pub cell_back : (t : List ℕ) → word_from 123 0 (word_of 2 ++ t) ≡ taken 2 t
cell_back t = found 2 t (omega arith) cell_first

-- the word of every reserved opcode is CELL
alike : ℕ → Bool
alike x = begins (word_of 2) (word_of x) && eqb (length (word_of x)) 5

all_alike : count (λ (x : ℕ). not (not (reserved (form_of x)) || alike x)) 123 ≡ 0
unfolding alike word_of mnemonics form_of legal immediate
all_alike = refl

pub cell_words : (x : ℕ) → x < 123 → form_of x ≡ form.Reserved → word_of x ≡ word_of 2
unfolding alike
cell_words x h r =
    let a : begins (word_of 2) (word_of x) && eqb (length (word_of x)) 5 ≡ true = rw r at (everywhere (λ (y : ℕ). not (reserved (form_of y)) || alike y) 123 all_alike x h) in
    let n : length (word_of x) ≡ 5 = eqb-true (length (word_of x)) 5 (both_right (begins (word_of 2) (word_of x)) (eqb (length (word_of x)) 5) a) in
    let l : length (word_of 2) ≡ 5 = rw cell_word in
    let d : drop (length (word_of 2)) (word_of x) ≡ [] = drop_of_length-le (word_of x) {i = length (word_of 2)} (omega arith) in
    begins_split (word_of 2) (word_of x) (both_left (begins (word_of 2) (word_of x)) (eqb (length (word_of x)) 5) a)
    ∙ ap (λ (u : List ℕ). word_of 2 ++ u) d
    ∙ append-nil (word_of 2)
