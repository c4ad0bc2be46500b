-- The sum, difference, product and quotient of two binary32, each rounded once: document 02, 2026-06.
use Prim.Native.Nat.{ℕ, ◌+◌, ◌-◌, ◌*◌, ◌^◌, compare, Ordering}
use Rattle.std.specs.Prelude.{Bool, true, false, not, ◌&&◌, cond, eqb}
use Rattle.std.specs.Bool.{beq}
use Rattle.binary.specs.Value.{Value, nan, infinity, finite, binary32, value}
use Rattle.rounding.specs.Rounding.{inf, magnitude}
use Rattle.word.specs.Word.{overflow, divide_by_zero, when}

-- an operation's outcome: a float value, a float value from a division by zero, or an invalid operation
pub data Answer : Type 0 where
  float : ℕ → Answer
  by_zero : ℕ → Answer
  invalid : Answer

-- a sign in its place
abbrev pub signed : Bool → ℕ → ℕ
signed s m = cond s (2 ^ 31) 0 + m

-- ±a / b units
unfoldable pub rounded : Bool → ℕ → ℕ → Answer
unfolding magnitude
rounded s a b = float (signed s (magnitude a b))

abbrev pub infinite : Bool → Answer
infinite s = float (signed s inf)

-- ±a ± b units with unlike signs, by how a compares with b: a difference of 0 is +0
abbrev pub differ : Ordering → Bool → ℕ → Bool → ℕ → Answer
differ Ordering.lt s a t b = rounded t (b - a) 1
differ Ordering.eq s a t b = rounded false 0 1
differ Ordering.gt s a t b = rounded s (a - b) 1

unfoldable pub plus : Value → Value → Answer
unfolding rounded
plus nan y = invalid
plus (infinity s) nan = invalid
plus (infinity s) (infinity t) = cond (beq s t) (infinite s) invalid
plus (infinity s) (finite t b) = infinite s
plus (finite s a) nan = invalid
plus (finite s a) (infinity t) = infinite t
plus (finite s a) (finite t b) = cond (beq s t) (rounded s (a + b) 1) (differ (compare a b) s a t b)

abbrev pub negated : Value → Value
negated nan = nan
negated (infinity s) = infinity (not s)
negated (finite s a) = finite (not s) a

-- the sign of a product or a quotient
abbrev pub unlike : Bool → Bool → Bool
unlike s t = not (beq s t)

-- a units times b units are a * b / 2 ^ 149 units
unfoldable pub times : Value → Value → Answer
unfolding rounded
times nan y = invalid
times (infinity s) nan = invalid
times (infinity s) (infinity t) = infinite (unlike s t)
times (infinity s) (finite t b) = cond (eqb b 0) invalid (infinite (unlike s t))
times (finite s a) nan = invalid
times (finite s a) (infinity t) = cond (eqb a 0) invalid (infinite (unlike s t))
times (finite s a) (finite t b) = rounded (unlike s t) (a * b) (2 ^ 149)

-- a units by b units are a * 2 ^ 149 / b units
unfoldable pub over : Value → Value → Answer
unfolding rounded
over nan y = invalid
over (infinity s) nan = invalid
over (infinity s) (infinity t) = invalid
over (infinity s) (finite t b) = infinite (unlike s t)
over (finite s a) nan = invalid
over (finite s a) (infinity t) = float (signed (unlike s t) 0)
over (finite s a) (finite t b) =
    cond (eqb b 0) (cond (eqb a 0) invalid (by_zero (signed (unlike s t) inf))) (rounded (unlike s t) (a * 2 ^ 149) b)

-- the four operations, on patterns
unfoldable pub sum : ℕ → ℕ → Answer
unfolding plus
sum x y = plus (value binary32 x) (value binary32 y)

unfoldable pub difference : ℕ → ℕ → Answer
unfolding plus
difference x y = plus (value binary32 x) (negated (value binary32 y))

unfoldable pub product : ℕ → ℕ → Answer
unfolding times
product x y = times (value binary32 x) (value binary32 y)

unfoldable pub quotient : ℕ → ℕ → Answer
unfolding over
quotient x y = over (value binary32 x) (value binary32 y)

-- the pattern that is written: every NaN is the same one
unfoldable pub bits_of : Answer → ℕ
bits_of (float b) = b
bits_of (by_zero b) = b
bits_of invalid = 0x7FC00000

unfoldable pub is_finite : Value → Bool
is_finite nan = false
is_finite (infinity s) = false
is_finite (finite s a) = true

-- flag 32, beside those of `word`
abbrev pub float_invalid : ℕ
float_invalid = 32

-- The flag that an outcome raises, if any: 32 for a NaN, 16 for a finite value that is not 0 divided by 0, and 4 where finite operands, with no
-- division by 0, have an infinite result.
unfoldable pub flags_of : ℕ → ℕ → Answer → ℕ
unfolding is_finite
flags_of x y (float b) = when (is_finite (value binary32 x) && is_finite (value binary32 y) && not (is_finite (value binary32 b))) overflow
flags_of x y (by_zero b) = divide_by_zero
flags_of x y invalid = float_invalid
