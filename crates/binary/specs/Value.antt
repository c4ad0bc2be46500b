-- What 16 and 32 bits stand for as floats of IEEE 754: document 02, 2026-01 and 2026-06.
-- A unit is 2 ^ -149, the least positive binary32: every finite value of either format is a whole number of units.
use Rattle.std.specs.Prelude.{ℕ, zero, suc, ◌+◌, ◌-◌, ◌*◌, ◌/◌, ◌%◌, ◌^◌, Bool, cond, eqb, leb}

-- a sign is true for minus
pub data Value : Type 0 where
  nan : Value
  infinity : Bool → Value
  finite : Bool → ℕ → Value

-- a format: how many bits its exponent and its fraction have, and what n of its least positive values are in units
pub record Format : Type 0 where
  pub exponent : ℕ
  pub fraction : ℕ
  pub in_units : ℕ → ℕ

abbrev pub binary16 : Format
binary16 = record { exponent = 5; fraction = 10; in_units = λ n. n * 2 ^ 125 }

abbrev pub binary32 : Format
binary32 = record { exponent = 8; fraction = 23; in_units = λ n. n }

-- the units of the exponent e and the fraction t: an exponent of 0 has no leading digit, and counts as 1
unfoldable pub units : Format → ℕ → ℕ → ℕ
units f zero t = f.in_units t
units f (suc e) t = f.in_units ((2 ^ f.fraction + t) * 2 ^ e)

-- an exponent of ones is infinity, or NaN where the fraction is not 0
unfoldable pub of_fields : Format → Bool → ℕ → ℕ → Value
unfolding units
of_fields f s e t = cond (eqb e (2 ^ f.exponent - 1)) (cond (eqb t 0) (infinity s) nan) (finite s (units f e t))

-- a pattern's fields, from the highest bit down: sign, exponent, fraction
unfoldable pub value : Format → ℕ → Value
unfolding of_fields
value f b =
    let sign = 2 ^ (f.exponent + f.fraction) in
    of_fields f (leb sign b) (b % sign / 2 ^ f.fraction) (b % 2 ^ f.fraction)
