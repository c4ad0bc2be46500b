-- Floats that are whole numbers, whose sums are exact: document 02, 2026-06.
use Rattle.std.specs.Prelude.{ℕ, ◌*◌, ◌^◌, ◌≤◌, Bool, ◌≡◌, ℤ, nat_abs, ◌+ℤ◌}
use Rattle.binary.specs.Value.{finite, binary32, value}
use Rattle.float.specs.Compare.{int}
use Rattle.float.specs.Float.{calculated_of}
use Rattle.float.specs.declared.FloatOp.TheVariants.{Add}

-- the pattern x is the whole number n: 1 is 2 ^ 149 units
pub record Whole (x : ℕ) (n : ℤ) : Type 0 where
  pub sign : Bool
  pub magnitude : ℕ
  pub is : value binary32 x ≡ finite sign (magnitude * 2 ^ 149)
  pub number : int sign magnitude ≡ n

-- what is written as the sum of x and y is the whole number n, and no flag is raised
pub record Exact (x y : ℕ) (n : ℤ) : Type 0 where
  pub whole : Whole (calculated_of Add x y).value n
  pub quiet : (calculated_of Add x y).raised ≡ 0

-- for whole numbers of magnitude at most 8,388,608
abbrev pub WholeSums : Type 0
WholeSums = (x y : ℕ) (a b : ℤ) → nat_abs a ≤ 8388608 → nat_abs b ≤ 8388608 → Whole x a → Whole y b → Exact x y (a +ℤ b)
