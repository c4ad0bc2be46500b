-- L by an argument's digits, one digit at a time.
-- Assumes nothing.
use Prim.Native.Nat.{ℕ, ◌+◌, ◌≤◌, ◌<◌}
use mathlib.Core.Path.{◌≡◌, refl}
use mathlib.Core.Bool.{Bool, true, false, cond, ◌&&◌}
use Rattle.std.specs.Prelude.{Option, Some, None}
use mathlib.Core.List.{List}
use native.Mathlib.Numerals.{add-one}
use lib.Dec.{leb, ltb}
use lib.ListN.{length, get_or, drop, drop_of_length-le}
use lib.Seq.{drop-cons}
use borrow.Author.Tests.{ltb-true, leb-true}
use Rattle.cell.specs.Cell.{within}
use Rattle.cell.proofs.Tests.{both_left, both_right}
use Rattle.verdict.specs.Length.{grown, goes_on, number_from}

-- a digit that goes on
pub record Digit (most v b : ℕ) : Type 0 where
  pub least : 48 ≤ b
  pub most_digit : b ≤ 57
  pub some : 0 < grown v b
  pub fits : grown v b ≤ most

pub went_on : (most v b : ℕ) → goes_on most v b ≡ true → Digit most v b
went_on most v b e =
    let front = both_left (within 48 57 b && ltb 0 (grown v b)) (leb (grown v b) most) e in
    let digit = both_left (within 48 57 b) (ltb 0 (grown v b)) front in
    record {
      least = leb-true 48 b (both_left (leb 48 b) (leb b 57) digit);
      most_digit = leb-true b 57 (both_right (leb 48 b) (leb b 57) digit);
      some = ltb-true 0 (grown v b) (both_right (within 48 57 b) (ltb 0 (grown v b)) front);
      fits = leb-true (grown v b) most (both_right (within 48 57 b && ltb 0 (grown v b)) (leb (grown v b) most) e);
    }

module _ (most v i : ℕ) (argument : List ℕ) where
  pub next : i < length argument → number_from most v (drop i argument)
      ≡ cond (goes_on most v (get_or argument i 0)) (number_from most (grown v (get_or argument i 0)) (drop (i + 1) argument)) 0
  unfolding number_from
  next h = rw (add-one i, drop-cons argument i 0 h)

  pub at_end : length argument ≤ i → number_from most v (drop i argument) ≡ v
  unfolding number_from
  at_end h = rw (drop_of_length-le argument h)

  -- a byte that goes on makes a number, and no other does
  pub read_on : (n : ℕ) → i < length argument → Some n ≡ cond (goes_on most v (get_or argument i 0)) (Some (grown v (get_or argument i 0))) None
      → (n ≤ most) × (number_from most n (drop (i + 1) argument) ≡ number_from most v (drop i argument))
  read_on n h e = go (goes_on most v (get_or argument i 0)) refl e
    where
      go : (t : Bool) → goes_on most v (get_or argument i 0) ≡ t → Some n ≡ cond t (Some (grown v (get_or argument i 0))) None
          → (n ≤ most) × (number_from most n (drop (i + 1) argument) ≡ number_from most v (drop i argument))
      go true t e = let same : n ≡ grown v (get_or argument i 0) = cc in let d = went_on most v (get_or argument i 0) t in (rw same d.fits, rw (same, next h, t))
      go false t e = cc

  pub read_no_more : i < length argument → None ≡ cond (goes_on most v (get_or argument i 0)) (Some (grown v (get_or argument i 0))) None → 0 ≡ number_from most v (drop i argument)
  read_no_more h e = go (goes_on most v (get_or argument i 0)) refl e
    where
      go : (t : Bool) → goes_on most v (get_or argument i 0) ≡ t → ◌≡◌ {A = Option ℕ} None (cond t (Some (grown v (get_or argument i 0))) None) → 0 ≡ number_from most v (drop i argument)
      go true t e = cc
      go false t e = rw (next h, t)
