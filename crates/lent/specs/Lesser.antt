-- How many there are of a number asked for. The other two parts follow from the first, and are what a caller's `&x[..n]` asks for.
use Rattle.std.specs.Prelude.{ℕ, ◌≤◌, min, ◌≡◌, List, length, take}

abbrev pub Lesser : {X : Type 0} → ℕ → List X → ℕ → Type 0
Lesser a xs r = (r ≡ min a (length xs)) × (r ≤ length xs) × (r ≡ length (take r xs))
