-- How a text begins. No public contract cites this definition: private functions of `reader` answer as it does, and the laws of the words are
-- stated with it.
use Rattle.std.specs.Prelude.{Bool, true, false, ◌&&◌, List, [], ◌∷◌, ℕ, eqb}

-- a text begins with a piece
abbrev pub begins : List ℕ → List ℕ → Bool
begins [] s = true
begins (a ∷ p) [] = false
begins (a ∷ p) (b ∷ s) = eqb a b && begins p s
