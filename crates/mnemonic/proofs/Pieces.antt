-- What it means that a text begins with a piece.
use mathlib.Core.Path.{◌≡◌, refl, ap}
use mathlib.Core.Bool.{true}
use mathlib.Core.List.{List, [], ◌∷◌, ◌++◌}
use Prim.Native.Nat.{ℕ}
use borrow.Author.Tests.{eqb-true, eq-eqb}
use lib.Dec.{eqb}
use lib.ListN.{length, drop}
use Rattle.cell.proofs.Tests.{never, both_left, both_right}
use Rattle.mnemonic.specs.Inner.{begins}

-- a text that begins with a piece is the piece and the rest
pub begins_split : (p s : List ℕ) → begins p s ≡ true → s ≡ p ++ drop (length p) s
begins_split [] s e = refl
begins_split (a ∷ p) [] e = never (cc)
begins_split (a ∷ p) (b ∷ s) e =
    let q : a ≡ b = eqb-true a b (both_left (eqb a b) (begins p s) e) in
    rw (← q) (ap (λ (t : List ℕ). a ∷ t) (begins_split p s (both_right (eqb a b) (begins p s) e)))

pub begins_append : (p s : List ℕ) → begins p (p ++ s) ≡ true
begins_append [] s = refl
begins_append (a ∷ p) s = rw (eq-eqb a a refl) (begins_append p s)
