-- What it is to be rounded to nearest, ties to even, said of all patterns at once: document 02, 2026-06.
use Rattle.std.specs.Prelude.{ℕ, ◌+◌, ◌-◌, ◌*◌, ◌/◌, ◌%◌, ◌^◌, ◌≤◌, ◌≡◌, ◌≢◌}
use Rattle.binary.specs.Value.{binary32, units}
use Rattle.rounding.specs.Rounding.{inf}

-- The units of the pattern p, up to infinity's. That counts as 2 ^ 128, the next value, had the format one more exponent.
abbrev pub units_of : ℕ → ℕ
units_of p = units binary32 (p / 2 ^ 23) (p % 2 ^ 23)

-- how far x and y are apart
abbrev pub gap : ℕ → ℕ → ℕ
gap x y = (x - y) + (y - x)

-- m is the pattern nearest to a / b units: no other's value is nearer, and where another's is as near, m is even
pub record Rounds (a b m : ℕ) : Type 0 where
  pub within : m ≤ inf
  pub nearest : (p : ℕ) → p ≤ inf → gap (units_of m * b) a ≤ gap (units_of p * b) a
  pub even : (p : ℕ) → p ≤ inf → gap (units_of m * b) a ≡ gap (units_of p * b) a → units_of p ≢ units_of m → m % 2 ≡ 0
