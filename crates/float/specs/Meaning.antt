-- What the code's floats say in the definition's words, for its inner promises. No other definition cites the logic's floats.
use Rattle.std.specs.Prelude.{ℕ, Bool, true, false, not, ◌||◌, ◌≡◌, T, eqb, Float, Option, None, Some}
use Rattle.std.specs.Float.Ieee as Ieee
use Rattle.binary.specs.Value.{Value, nan, infinity, finite, binary32, value}
use Rattle.float.specs.Arithmetic.{Answer, float, by_zero, invalid}
use Rattle.float.specs.Compare.{is_nan}
use Rattle.float.specs.declared.result.Outcome.{Outcome}
use Rattle.float.specs.declared.result.Outcome.TheVariants as Outcome

-- a NaN is an invalid operation's
unfoldable pub told : Float → Answer
told Ieee.nan = invalid
told (Ieee.inf s) = float (Ieee.to_bits Ieee.binary32 (Ieee.inf s))
told (Ieee.fin s m e) = float (Ieee.to_bits Ieee.binary32 (Ieee.fin s m e))

unfoldable pub meaning : Outcome → Answer
meaning (Outcome.Value x) = float (Ieee.to_bits Ieee.binary32 x)
meaning (Outcome.ByZero x) = by_zero (Ieee.to_bits Ieee.binary32 x)
meaning Outcome.Invalid = invalid

-- no float of an outcome is a NaN
unfoldable pub Real : Outcome → Type 0
Real (Outcome.Value x) = T (not (Ieee.is_nan x))
Real (Outcome.ByZero x) = T (not (Ieee.is_nan x))
Real Outcome.Invalid = Unit

-- an outcome that means the answer r
pub record Means (o : Outcome) (r : Answer) : Type 0 where
  pub real : Real o
  pub is : meaning o ≡ r

unfoldable pub is_zero : Value → Bool
is_zero nan = false
is_zero (infinity s) = false
is_zero (finite s a) = eqb a 0

-- two patterns as floats, where neither is a NaN
abbrev pub Operands : ℕ → ℕ → Option (Float × Float) → Type 0
Operands x y None = (is_nan (value binary32 x) || is_nan (value binary32 y)) ≡ true
Operands x y (Some p) =
    ((is_nan (value binary32 x) || is_nan (value binary32 y)) ≡ false) × (p.0 ≡ Ieee.of_bits Ieee.binary32 x) × (p.1 ≡ Ieee.of_bits Ieee.binary32 y)
