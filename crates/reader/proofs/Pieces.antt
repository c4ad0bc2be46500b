-- A text begins with a piece exactly if as many of its bytes as the piece has are the piece, byte by byte.
use mathlib.Core.Path.{◌≡◌, refl}
use mathlib.Core.List.{List, [], ◌∷◌}
use Prim.Native.Nat.{ℕ}
use lib.Dec.{eqb}
use lib.ListN.{length, take}
use Rattle.std.specs.Cmp.Lexicographic.{pointwise}
use Rattle.std.proofs.lemmas.Bool.Decides.{nat_tests}
use native.Mathlib.Omega.{arith}
use Rattle.mnemonic.specs.Inner.{begins}

turned : (a b : ℕ) → eqb a b ≡ eqb b a
turned a b = grind (arith, nat_tests)

pub stripped_begins : (p s : List ℕ) → pointwise eqb (take (length p) s) p ≡ begins p s
stripped_begins [] s = refl
stripped_begins (a ∷ p) [] = refl
stripped_begins (a ∷ p) (b ∷ s) = rw (turned b a, stripped_begins p s)
