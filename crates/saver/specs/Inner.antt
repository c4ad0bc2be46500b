-- What only the contracts of private functions cite, each a short way to name what the definitions make: nothing here is promised.
use Rattle.std.specs.Prelude.{◌≡◌, ℕ, ◌+◌, ◌^◌, ◌<◌, List, length}
use Rattle.std.proofs.lemmas.List.Edits.{sets}

-- A piece is stored from a place on, as far as the room goes, and ends where the next begins.
pub record Stored (before : List ℕ) (at : ℕ) (piece : List ℕ) (after : List ℕ) (next : ℕ) : Type 0 where
  pub end : next ≡ at + length piece
  pub text : after ≡ sets before at piece

-- a place past the piece is a number of the code
abbrev pub Fits : ℕ → List ℕ → Type 0
Fits at piece = at + length piece < 2 ^ 64
