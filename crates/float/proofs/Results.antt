-- Each operation rounds the exact result of finite operands once: `rounded_once`.
-- Assumes nothing.
use Prim.Native.Nat.{ℕ, ◌+◌, ◌-◌, ◌*◌, ◌^◌, ◌<◌, compare, Ordering}
use mathlib.Core.Bool.{Bool, true, false, not, beq, cond}
use mathlib.Core.Logic.{◌≢◌}
use mathlib.Core.Path.{◌≡◌, refl}
use native.Mathlib.Omega.{arith}
use lib.IntN.{◌+ℤ◌}
use lib.Pow.{pow_pos}
use borrow.Author.Tests.{ne_eqb}
use Rattle.binary.specs.Value.{finite}
use Rattle.rounding.specs.Rounding.{magnitude}
use Rattle.rounding.proofs.Compared.{Cmp, cmp}
use Rattle.rounding.proofs.ToNearest.{rounds}
use Rattle.float.specs.Arithmetic.{rounded, differ, plus, unlike, times, over, sum, difference, product, quotient, bits_of}
use Rattle.float.specs.Compare.{int}
use Rattle.float.specs.Float.{calculated_of}
use Rattle.float.specs.Results.{Nearest, NearestTo, RoundedOnce}
use Rattle.float.proofs.Signs.{int_same, int_less, int_more, int_none, int_not}

nearest : (s : Bool) (a b : ℕ) → 0 < b → Nearest (bits_of (rounded s a b)) s a b
unfolding bits_of rounded
nearest s a b B = record { magnitude = magnitude a b; is = refl; rounds = rounds a b B }

differ_nearest : (s t : Bool) (a b : ℕ) → beq s t ≡ false → (o : Ordering) → Cmp o a b → NearestTo (bits_of (differ o s a t b)) (int s a +ℤ int t b)
differ_nearest s t a b h Ordering.lt l = record { sign = t; units = b - a; number = int_less s t a b h (omega arith); nearest = nearest t (b - a) 1 (omega arith) }
differ_nearest s t a b h Ordering.eq l = record { sign = false; units = 0; number = rw (← l) (int_none s t a h); nearest = nearest false 0 1 (omega arith) }
differ_nearest s t a b h Ordering.gt l = record { sign = s; units = a - b; number = int_more s t a b h (omega arith); nearest = nearest s (a - b) 1 (omega arith) }

plus_nearest : (s t : Bool) (a b : ℕ) → NearestTo (bits_of (plus (finite s a) (finite t b))) (int s a +ℤ int t b)
unfolding plus
plus_nearest s t a b = tested (beq s t) refl
  where
    tested : (c : Bool) → beq s t ≡ c → NearestTo (bits_of (cond c (rounded s (a + b) 1) (differ (compare a b) s a t b))) (int s a +ℤ int t b)
    tested true h = record { sign = s; units = a + b; number = int_same s t a b h; nearest = nearest s (a + b) 1 (omega arith) }
    tested false h = differ_nearest s t a b h (compare a b) (cmp a b)

times_nearest : (s t : Bool) (a b : ℕ) → Nearest (bits_of (times (finite s a) (finite t b))) (unlike s t) (a * b) (2 ^ 149)
unfolding times
times_nearest s t a b = nearest (unlike s t) (a * b) (2 ^ 149) (pow_pos 149)

over_nearest : (s t : Bool) (a b : ℕ) → b ≢ 0 → Nearest (bits_of (over (finite s a) (finite t b))) (unlike s t) (a * 2 ^ 149) b
unfolding over
over_nearest s t a b h = rw (ne_eqb b 0 h) (nearest (unlike s t) (a * 2 ^ 149) b (omega arith))

pub rounded_once : RoundedOnce
unfolding calculated_of sum difference product quotient
rounded_once x y s t a b X Y = record {
  sum = rw (X, Y) (plus_nearest s t a b);
  difference = rw (X, Y, ← int_not t b) (plus_nearest s (not t) a b);
  product = rw (X, Y) (times_nearest s t a b);
  quotient = λ h. rw (X, Y) (over_nearest s t a b h);
}
