-- What the float operations write: document 02, 2026-06.
use Rattle.std.specs.Prelude.{ℕ, ◌+◌, ◌||◌}
use Rattle.binary.specs.Value.{binary32, value}
use Rattle.word.specs.Word.{overflow, divide_by_zero, truth, when, plain_of}
use Rattle.word.specs.declared.Written.{Written}
use Rattle.float.specs.Arithmetic.{Answer, sum, difference, product, quotient, bits_of, float_invalid, flags_of}
use Rattle.float.specs.Compare.{is_nan, greater, equal}
use Rattle.float.specs.declared.FloatOp.{FloatOp}
use Rattle.float.specs.declared.FloatOp.TheVariants.{Add, Sub, Mul, Div, Gt, Eq}

-- 80 to 83: an outcome of the operands x and y
abbrev pub outcome_of : ℕ → ℕ → Answer → Written
outcome_of x y o = record { value = bits_of o; governed = float_invalid + divide_by_zero + overflow; raised = flags_of x y o }

-- 89: flag 32 says that an operand is NaN
abbrev pub greater_of : ℕ → ℕ → Written
greater_of x y = record {
  value = truth (greater (value binary32 x) (value binary32 y));
  governed = float_invalid;
  raised = when (is_nan (value binary32 x) || is_nan (value binary32 y)) float_invalid;
}

-- 90: no flag
abbrev pub equal_of : ℕ → ℕ → Written
equal_of x y = plain_of (truth (equal (value binary32 x) (value binary32 y)))

-- What an operation writes, from its operands x and y: a line for each of 80 to 83, 89 and 90.
unfoldable pub calculated_of : FloatOp → ℕ → ℕ → Written
calculated_of Add x y = outcome_of x y (sum x y)
calculated_of Sub x y = outcome_of x y (difference x y)
calculated_of Mul x y = outcome_of x y (product x y)
calculated_of Div x y = outcome_of x y (quotient x y)
calculated_of Gt x y = greater_of x y
calculated_of Eq x y = equal_of x y
