-- Word 7 of an entry: it gives the three answers back that made it, and its size tells which parts there are.
-- Assumes nothing.
use Prim.Native.Nat.{ℕ, ◌+◌, ◌/◌, ◌%◌, ◌≤◌, ◌<◌}
use mathlib.Core.Path.{◌≡◌, refl}
use mathlib.Core.Bool.{Bool, true, false}
use lib.Dec.{eqb}
use native.Mathlib.Omega.{arith}
use borrow.Author.Tests.{eq-eqb, ne_eqb}
use Rattle.journal.specs.Words.{if_used}

abbrev pub word_of : Bool → Bool → Bool → ℕ
word_of a b c = if_used a 1 + if_used b 2 + if_used c 4

-- the word gives the answers back; it is at most 7
pub record Word (a b c : Bool) : Type 0 where
  pub a_back : eqb (word_of a b c % 2) 1 ≡ a
  pub b_back : eqb (word_of a b c / 2 % 2) 1 ≡ b
  pub store_back : eqb (word_of a b c / 4 % 2) 1 ≡ c
  pub most : word_of a b c ≤ 7

pub word : (a b c : Bool) → Word a b c
word true true true = record { a_back = refl; b_back = refl; store_back = refl; most = omega arith }
word true true false = record { a_back = refl; b_back = refl; store_back = refl; most = omega arith }
word true false true = record { a_back = refl; b_back = refl; store_back = refl; most = omega arith }
word true false false = record { a_back = refl; b_back = refl; store_back = refl; most = omega arith }
word false true true = record { a_back = refl; b_back = refl; store_back = refl; most = omega arith }
word false true false = record { a_back = refl; b_back = refl; store_back = refl; most = omega arith }
word false false true = record { a_back = refl; b_back = refl; store_back = refl; most = omega arith }
word false false false = record { a_back = refl; b_back = refl; store_back = refl; most = omega arith }

-- below 2 there is no b, below 4 no stored cell, and from 4 to 7 there is one
module _ (uses : ℕ) where
  pub b_unused : uses < 2 → eqb (uses / 2 % 2) 1 ≡ false
  b_unused h = ne_eqb (uses / 2 % 2) 1 (λ q. omega arith)

  pub store_unused : uses ≤ 3 → eqb (uses / 4 % 2) 1 ≡ false
  store_unused h = ne_eqb (uses / 4 % 2) 1 (λ q. omega arith)

  pub store_used : 3 < uses → uses ≤ 7 → eqb (uses / 4 % 2) 1 ≡ true
  store_used h k = eq-eqb (uses / 4 % 2) 1 (omega arith)
