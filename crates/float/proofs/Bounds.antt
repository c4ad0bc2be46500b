-- What callers need of a float operation, in place of its text: its value is a 32-bit number, the flags that it raises are among those
-- that it governs, and both are below 64.
-- Assumes nothing.
use Prim.Native.Nat.{ℕ, ◌+◌, ◌-◌, ◌*◌, ◌^◌, ◌≤◌, ◌<◌, compare, Ordering}
use mathlib.Core.Bool.{Bool, true, false, not, ◌&&◌, ◌||◌, beq, cond}
use mathlib.Core.Path.{◌≡◌, refl}
use native.Mathlib.Omega.{arith}
use lib.Bits.{bit_and, and_le_r}
use lib.Dec.{eqb}
use lib.Pow.{pow_pos}
use borrow.Author.Tests.{eqb-false}
use Rattle.binary.specs.Value.{Value, nan, infinity, finite, binary32, value}
use Rattle.rounding.specs.Rounding.{inf}
use Rattle.rounding.proofs.ToNearest.{rounds}
use Rattle.word.specs.Word.{truth, when}
use Rattle.float.specs.Arithmetic.{Answer, float, by_zero, invalid, signed, rounded, infinite, differ, plus, negated, unlike, times, over, sum, difference, product, quotient, bits_of, is_finite, flags_of}
use Rattle.float.specs.Compare.{is_nan, greater, equal}
use Rattle.float.specs.Float.{calculated_of}
use Rattle.float.specs.declared.FloatOp.{FloatOp}
use Rattle.float.specs.declared.FloatOp.TheVariants.{Add, Sub, Mul, Div, Gt, Eq}

-- ---- flags

flags_within : (x y : ℕ) (o : Answer) → bit_and (flags_of x y o) 52 ≡ flags_of x y o
unfolding flags_of
flags_within x y (float b) = go (is_finite (value binary32 x) && is_finite (value binary32 y) && not (is_finite (value binary32 b)))
  where
    go : (t : Bool) → bit_and (when t 4) 52 ≡ when t 4
    go true = refl
    go false = refl
flags_within x y (by_zero b) = refl
flags_within x y invalid = refl

nan_within : (t : Bool) → bit_and (when t 32) 32 ≡ when t 32
nan_within true = refl
nan_within false = refl

pub raised_within : (op : FloatOp) (x y : ℕ) → bit_and (calculated_of op x y).raised (calculated_of op x y).governed ≡ (calculated_of op x y).raised
unfolding calculated_of
raised_within Add x y = flags_within x y (sum x y)
raised_within Sub x y = flags_within x y (difference x y)
raised_within Mul x y = flags_within x y (product x y)
raised_within Div x y = flags_within x y (quotient x y)
raised_within Gt x y = nan_within (is_nan (value binary32 x) || is_nan (value binary32 y))
raised_within Eq x y = refl

-- none of them is flag 128 or 256, which no instruction clears
pub governed_below : (op : FloatOp) (x y : ℕ) → (calculated_of op x y).governed < 64
unfolding calculated_of
governed_below Add x y = omega arith
governed_below Sub x y = omega arith
governed_below Mul x y = omega arith
governed_below Div x y = omega arith
governed_below Gt x y = omega arith
governed_below Eq x y = omega arith

pub raised_below : (op : FloatOp) (x y : ℕ) → (calculated_of op x y).raised < 64
raised_below op x y = rw (← raised_within op x y) (omega (arith, and_le_r (calculated_of op x y).raised (calculated_of op x y).governed, governed_below op x y))

-- ---- the value

signed_below : (s : Bool) (m : ℕ) → m ≤ inf → signed s m < 2 ^ 32
signed_below true m h = omega arith
signed_below false m h = omega arith

rounded_below : (s : Bool) (a b : ℕ) → 0 < b → bits_of (rounded s a b) < 2 ^ 32
unfolding bits_of rounded
rounded_below s a b B = signed_below s _ (rounds a b B).within

infinite_below : (s : Bool) → bits_of (infinite s) < 2 ^ 32
unfolding bits_of
infinite_below s = signed_below s inf (omega arith)

invalid_below : bits_of invalid < 2 ^ 32
unfolding bits_of
invalid_below = omega arith

either_below : (t : Bool) (o r : Answer) → bits_of o < 2 ^ 32 → bits_of r < 2 ^ 32 → bits_of (cond t o r) < 2 ^ 32
either_below true o r h k = h
either_below false o r h k = k

differ_below : (o : Ordering) (s : Bool) (a : ℕ) (t : Bool) (b : ℕ) → bits_of (differ o s a t b) < 2 ^ 32
differ_below Ordering.lt s a t b = rounded_below t (b - a) 1 (omega arith)
differ_below Ordering.eq s a t b = rounded_below false 0 1 (omega arith)
differ_below Ordering.gt s a t b = rounded_below s (a - b) 1 (omega arith)

plus_below : (v w : Value) → bits_of (plus v w) < 2 ^ 32
unfolding plus
plus_below nan w = invalid_below
plus_below (infinity s) nan = invalid_below
plus_below (infinity s) (infinity t) = either_below (beq s t) _ _ (infinite_below s) invalid_below
plus_below (infinity s) (finite t b) = infinite_below s
plus_below (finite s a) nan = invalid_below
plus_below (finite s a) (infinity t) = infinite_below t
plus_below (finite s a) (finite t b) = either_below (beq s t) _ _ (rounded_below s (a + b) 1 (omega arith)) (differ_below (compare a b) s a t b)

times_below : (v w : Value) → bits_of (times v w) < 2 ^ 32
unfolding times
times_below nan w = invalid_below
times_below (infinity s) nan = invalid_below
times_below (infinity s) (infinity t) = infinite_below (unlike s t)
times_below (infinity s) (finite t b) = either_below (eqb b 0) _ _ invalid_below (infinite_below (unlike s t))
times_below (finite s a) nan = invalid_below
times_below (finite s a) (infinity t) = either_below (eqb a 0) _ _ invalid_below (infinite_below (unlike s t))
times_below (finite s a) (finite t b) = rounded_below (unlike s t) (a * b) (2 ^ 149) (pow_pos 149)

over_below : (v w : Value) → bits_of (over v w) < 2 ^ 32
unfolding over bits_of
over_below nan w = invalid_below
over_below (infinity s) nan = invalid_below
over_below (infinity s) (infinity t) = invalid_below
over_below (infinity s) (finite t b) = infinite_below (unlike s t)
over_below (finite s a) nan = invalid_below
over_below (finite s a) (infinity t) = signed_below (unlike s t) 0 (omega arith)
over_below (finite s a) (finite t b) = tested (eqb b 0) refl
  where
    tested : (z : Bool) → eqb b 0 ≡ z → bits_of (cond z (cond (eqb a 0) invalid (by_zero (signed (unlike s t) inf))) (rounded (unlike s t) (a * 2 ^ 149) b)) < 2 ^ 32
    tested true h = either_below (eqb a 0) _ _ invalid_below (signed_below (unlike s t) inf (omega arith))
    tested false h = rounded_below (unlike s t) (a * 2 ^ 149) b (omega (arith, eqb-false b 0 h))

truth_below : (t : Bool) → truth t < 2 ^ 32
truth_below true = omega arith
truth_below false = omega arith

pub value_below : (op : FloatOp) (x y : ℕ) → (calculated_of op x y).value < 2 ^ 32
unfolding calculated_of sum difference product quotient
value_below Add x y = plus_below (value binary32 x) (value binary32 y)
value_below Sub x y = plus_below (value binary32 x) (negated (value binary32 y))
value_below Mul x y = times_below (value binary32 x) (value binary32 y)
value_below Div x y = over_below (value binary32 x) (value binary32 y)
value_below Gt x y = truth_below (greater (value binary32 x) (value binary32 y))
value_below Eq x y = truth_below (equal (value binary32 x) (value binary32 y))
