-- The check of a rule's cells, one cell at a time.
-- Assumes nothing.
use Prim.Native.Nat.{ℕ, suc, ◌+◌, ◌-◌, ◌≤◌, ◌<◌}
use mathlib.Core.Path.{◌≡◌, refl}
use mathlib.Core.Bool.{Bool, true, false, ◌||◌}
use mathlib.Core.List.{List}
use mathlib.Core.Logic.{◌⊎◌, inl, inr}
use native.Mathlib.Omega.{arith}
use lib.Dec.{ltb, eqb}
use lib.ListN.{get_or, length, take}
use borrow.Author.Tests.{ltb-false, eqb-false, ne_eqb, lt-ltb, le-ltb}
use Rattle.cell.proofs.Tests.{never}
use Rattle.std.specs.Prelude.{Ok, Err}
use Rattle.std.proofs.lemmas.List.{get_or-take, length-take}
use Rattle.profile.specs.declared.BadRule.TheVariants.{Length}
use Rattle.profile.specs.Profile.{judged_of, or_bad, first_bad, bad_length, rule_of}

-- of two tests neither holds
pub neither : (a b : Bool) → a || b ≡ false → (a ≡ false) × (b ≡ false)
neither true b e = never (cc)
neither false b e = (refl, e)

-- an L that is not bad
pub good_length : (l m : ℕ) → bad_length l m ≡ false → (1 ≤ l) × (l ≤ m)
good_length l m e =
    let both = neither (eqb l 0) (ltb m l) e in
    let some : l ≡ 0 → ⊥ = eqb-false l 0 both.0 in (omega arith, ltb-false m l both.1)

-- an L that is bad, and one that is not
pub bad : (l : ℕ) (cells : List ℕ) → (l ≡ 0) ⊎ ((l ≡ 0 → ⊥) × (length cells < l)) → Err Length ≡ rule_of l cells
unfolding rule_of
bad l cells (inl e) = rw e
bad l cells (inr h) = rw (ne_eqb l 0 h.0, lt-ltb (length cells) l h.1)

pub from_start : (l : ℕ) (cells : List ℕ) → (l ≡ 0 → ⊥) → l ≤ length cells → first_bad (l - 0) 0 cells ≡ rule_of l cells
unfolding rule_of
from_start l cells some fits = let all : l - 0 ≡ l = omega arith in rw (all, ne_eqb l 0 some, le-ltb (length cells) l fits)

-- with a cell left, it is judged first
pub next : (l place : ℕ) (cells : List ℕ) → place < length (take l cells)
    → first_bad (l - place) place cells ≡ or_bad (judged_of (get_or (take l cells) place 0)) place (first_bad (l - (place + 1)) (place + 1) cells)
unfolding first_bad
next l place cells h =
    let below : place < l = omega (arith, length-take l cells) in
    let more : l - place ≡ suc (l - (place + 1)) = omega arith in
    rw (more, get_or-take l cells place 0 below)

pub at_end : (l place : ℕ) (cells : List ℕ) → l ≤ length cells → length (take l cells) ≤ place → first_bad (l - place) place cells ≡ Ok tt
unfolding first_bad
at_end l place cells fits h = let none : l - place ≡ 0 = omega (arith, length-take l cells) in rw none
