-- The sum of two floats that are whole numbers of magnitude at most 8,388,608 is exact: `whole_sums`.
-- Assumes nothing.
use Prim.Native.Nat.{ℕ, ◌+◌, ◌-◌, ◌*◌, ◌^◌, ◌≤◌, ◌<◌, compare, Ordering}
use mathlib.Core.Bool.{Bool, true, false, beq, cond}
use mathlib.Core.Path.{◌≡◌, refl, sym, ap, ◌∙◌}
use native.Mathlib.Nat.{zero-lt-suc, mul-one, one-mul, mul_comm, mul_right_comm, add-mul, mul-sub, lt_of_mul-lt-mul_right, eq_of_mul-eq-mul_right}
use native.Mathlib.Omega.{arith}
use lib.Ieee as Ieee
use lib.Ieee.{Float, up, down}
use lib.Ieee.Back.{round_whole}
use lib.Ieee.Bits.{of_bits-to_bits}
use lib.Ieee.Exact.{HasValue}
use lib.Ieee.Fits.{down_pos, round-fits}
use lib.Ieee.Scale.{round_same}
use lib.IntN.{nat_abs, ◌+ℤ◌}
use lib.Pow.{pow_pos}
use Rattle.binary.specs.Value.{Value, finite, binary32, value}
use Rattle.rounding.proofs.Compared.{Cmp, cmp}
use Rattle.float.specs.Arithmetic.{Answer, float, rounded, differ, plus, sum, bits_of, flags_of, is_finite}
use Rattle.float.specs.Compare.{int}
use Rattle.float.specs.Float.{calculated_of}
use Rattle.float.specs.Meaning.{told}
use Rattle.float.specs.Whole.{WholeSums}
use Rattle.float.proofs.Outcomes.{flags_float}
use Rattle.float.proofs.Read.{Same, same_nan, same_infinity, same_finite, read}
use Rattle.float.proofs.Signs.{int_same, int_less, int_more, int_none, nat_abs-int}
use Rattle.float.proofs.Told.{rounded_is}

-- ---- a whole number up to 2 ^ 24 is not changed by rounding

-- what is read as a float of the logic whose value is ±n
only : {v : Value} {x : Float} (u : Bool) (n : ℕ) → Same v x → HasValue x u n 1 → v ≡ finite u (n * 2 ^ 149)
only u n same_nan h = absurd h
only u n (same_infinity s) h = absurd h
only u n (same_finite s a m e p) h =
    let units : a ≡ n * 2 ^ 149 =
    eq_of_mul-eq-mul_right (down e) (down_pos e) a (n * 2 ^ 149)
    (sym p ∙ ap (λ (z : ℕ). z * 2 ^ 149) (sym (mul-one (m * up e)) ∙ h.1) ∙ mul_right_comm n (down e) (2 ^ 149)) in
    rw (h.0, units)

told_finite : (x : Float) (u : Bool) (n : ℕ) → HasValue x u n 1 → told x ≡ float (Ieee.to_bits Ieee.binary32 x)
unfolding told
told_finite Ieee.nan u n h = absurd h
told_finite (Ieee.inf t) u n h = absurd h
told_finite (Ieee.fin t m e) u n h = refl

-- the outcome is a float that is ±n
abbrev IsWhole : Answer → Bool → ℕ → Type 0
IsWhole r u n = (z : ℕ) × (r ≡ float z) × (value binary32 z ≡ finite u (n * 2 ^ 149))

whole_rounded : (u : Bool) (n : ℕ) → n ≤ 2 ^ 24 → IsWhole (rounded u (n * 2 ^ 149) 1) u n
whole_rounded u n h =
    let x = Ieee.round Ieee.binary32 u n 1 in
    let v : HasValue x u n 1 = round_whole Ieee.binary32 u n h in
    let z = Ieee.to_bits Ieee.binary32 x in (
      z,
      sym (rounded_is u (n * 2 ^ 149) 1 (zero-lt-suc 0))
          ∙ ap told (round_same Ieee.binary32 u (n * 2 ^ 149) (1 * 2 ^ 149) n 1 (pow_pos 149) (zero-lt-suc 0) (mul-one (n * 2 ^ 149) ∙ ap (λ (k : ℕ). n * k) (sym (one-mul (2 ^ 149)))))
          ∙ told_finite x u n v,
      only u n (rw (of_bits-to_bits Ieee.binary32 x (round-fits Ieee.binary32 u n 1)) at (read z)) v,
    )

-- ---- the sum

-- the outcome is a float that is the whole number ±a ± b
abbrev Sums : Answer → Bool → ℕ → Bool → ℕ → Type 0
Sums r s a t b = (u : Bool) × (c : ℕ) × IsWhole r u c × (int u c ≡ int s a +ℤ int t b)

sub_mul : (a b P : ℕ) → (a - b) * P ≡ a * P - b * P
sub_mul a b P = rw (mul_comm (a - b) P, mul-sub P a b, mul_comm P a, mul_comm P b)

module _ (s t : Bool) (a b : ℕ) (A : a ≤ 8388608) (B : b ≤ 8388608) where
  differ_whole : beq s t ≡ false → (o : Ordering) → Cmp o (a * 2 ^ 149) (b * 2 ^ 149) → Sums (differ o s (a * 2 ^ 149) t (b * 2 ^ 149)) s a t b
  differ_whole h Ordering.lt l =
      let less : a < b = lt_of_mul-lt-mul_right (2 ^ 149) l in
      (t, b - a, rw (← sub_mul b a (2 ^ 149)) (whole_rounded t (b - a) (omega arith)), int_less s t a b h (omega arith))
  differ_whole h Ordering.eq l =
      let same : a ≡ b = eq_of_mul-eq-mul_right (2 ^ 149) (pow_pos 149) a b l in
      (false, 0, whole_rounded false 0 (omega arith), rw (← same) (int_none s t a h))
  differ_whole h Ordering.gt l =
      let more : b < a = lt_of_mul-lt-mul_right (2 ^ 149) l in
      (s, a - b, rw (← sub_mul a b (2 ^ 149)) (whole_rounded s (a - b) (omega arith)), int_more s t a b h (omega arith))

  sums : (c : Bool) → beq s t ≡ c
      → Sums (cond c (rounded s (a * 2 ^ 149 + b * 2 ^ 149) 1) (differ (compare (a * 2 ^ 149) (b * 2 ^ 149)) s (a * 2 ^ 149) t (b * 2 ^ 149))) s a t b
  sums true h = (s, a + b, rw (← add-mul a b (2 ^ 149)) (whole_rounded s (a + b) (omega arith)), int_same s t a b h)
  sums false h = differ_whole h (compare (a * 2 ^ 149) (b * 2 ^ 149)) (cmp (a * 2 ^ 149) (b * 2 ^ 149))

  plus_whole : Sums (plus (finite s (a * 2 ^ 149)) (finite t (b * 2 ^ 149))) s a t b
  unfolding plus
  plus_whole = sums (beq s t) refl

-- ---- what is written

is_finite_lem : {v : Value} {s : Bool} {n : ℕ} → v ≡ finite s n → is_finite v ≡ true
unfolding is_finite
is_finite_lem h = ap is_finite h

pub whole_sums : WholeSums
unfolding calculated_of bits_of
whole_sums x y a b A B X Y = record {
  whole = record { sign = k.0; magnitude = k.1; is = rw is k.2.2; number = k.3 ∙ cc };
  quiet = ap (flags_of x y) is ∙ sym (flags_float x y z (is_finite_lem X.is) (is_finite_lem Y.is) (is_finite_lem k.2.2));
}
  where
    k : Sums (sum x y) X.sign X.magnitude Y.sign Y.magnitude
    k = unfold sum in
        rw (X.is, Y.is) (plus_whole X.sign Y.sign X.magnitude Y.magnitude
        (omega (arith, nat_abs-int X.sign X.magnitude, ap nat_abs X.number)) (omega (arith, nat_abs-int Y.sign Y.magnitude, ap nat_abs Y.number)))

    z : ℕ
    z = k.2.0

    is : sum x y ≡ float z
    is = k.2.1
