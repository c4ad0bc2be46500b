-- The table of words: at an opcode stands its mnemonic and a space, and past it every opcode has CELL; none is longer than seven bytes.
use mathlib.Core.Path.{◌≡◌, refl, sym, ap}
use mathlib.Core.Bool.{Bool, not}
use mathlib.Core.List.{List, map, ◌++◌}
use mathlib.Core.Logic.{⊎_elim}
use Prim.Native.Nat.{ℕ, ◌<◌, ◌≤◌}
use Prim.Native.String.{String}
use native.Mathlib.Omega.{arith}
use borrow.Author.Tests.{leb-true}
use lib.Dec.{leb}
use lib.ListN.{length, get_or, get_or-map, get_or-eq_default}
use Rattle.std.proofs.Common.{Bor}
use Rattle.std.proofs.lemmas.List.{get_or-map as get_or-map_below}
use Rattle.cell.proofs.Tests.{count, everywhere}
use Rattle.text.specs.Text.{bytes}
use Rattle.text.proofs.Adds.{below}
use Rattle.mnemonic.specs.Mnemonic.{mnemonics, word_of}

-- a mnemonic, and the space after it
abbrev spelt : String → List ℕ
spelt w = bytes w ++ bytes " "

unfoldable pub words : List (List ℕ)
unfolding mnemonics
words = map spelt mnemonics

-- what a table of slices has at a place, and what the table of these words has
pub now_at : (table : List (Bor (List ℕ))) (x : ℕ) (d : Bor (List ℕ)) → (get_or table x d).now ≡ get_or (map (λ b. b.now) table) x d.now
now_at table x d = sym (get_or-map (λ (b : Bor (List ℕ)). b.now) table x d)

pub word_at : (x : ℕ) (d : List ℕ) → x < 123 → get_or words x d ≡ word_of x
unfolding words word_of mnemonics
word_at x d h = get_or-map_below spelt mnemonics x "CELL" d h

pub word_past : (x : ℕ) → 123 ≤ x → word_of x ≡ bytes "CELL "
unfolding word_of mnemonics
word_past x h = ap spelt (get_or-eq_default mnemonics "CELL" h)

abbrev short : ℕ → Bool
short x = leb (length (word_of x)) 7

all_short : count (λ (x : ℕ). not (short x)) 123 ≡ 0
unfolding mnemonics word_of
all_short = refl

pub word_short : (x : ℕ) → length (word_of x) ≤ 7
word_short x =
    ⊎_elim (λ (h : x < 123). leb-true (length (word_of x)) 7 (everywhere short 123 all_short x h))
    (λ (h : 123 ≤ x). rw (word_past x h) (omega arith)) (below x 123)
