-- The definition's sum, difference, product and quotient are those of the logic's account of IEEE 754, told in bits.
-- Assumes nothing.
use Prim.Native.Nat.{ℕ, ◌+◌, ◌-◌, ◌*◌, ◌^◌, ◌<◌, compare, Ordering}
use mathlib.Core.Bool.{Bool, true, false, not, ◌&&◌, beq, cond, and-true, and-false}
use mathlib.Core.Path.{◌≡◌, refl, sym, ap, ◌∙◌}
use native.Mathlib.Nat.{zero-lt-suc, zero-mul, mul_comm, mul_assoc, mul_left_comm, mul-pos}
use native.Mathlib.Omega.{arith}
use lib.Dec.{ltb, eqb}
use lib.Ieee as Ieee
use lib.Ieee.{Float, up, down}
use lib.Ieee.Fits.{up_pos, down_pos}
use lib.Ieee.Scale.{round_same}
use lib.IntN.{ℤ, pos}
use lib.Pow.{pow_pos}
use borrow.Author.Tests.{lt-ltb, le-ltb, eqb-false}
use Rattle.binary.specs.Value.{Value, binary32, value}
use Rattle.rounding.specs.Rounding.{inf}
use Rattle.rounding.proofs.Compared.{Cmp, cmp}
use Rattle.float.specs.Arithmetic.{Answer, float, by_zero, invalid, signed, rounded, infinite, differ, plus, negated, unlike, times, over, sum, difference, product, quotient, is_finite}
use Rattle.float.specs.Meaning.{told, is_zero}
use Rattle.float.proofs.Read.{Same, same_nan, same_infinity, same_finite, read}
use Rattle.float.proofs.Scaled.{order, same_number, add_same, sub_same, eqb_same, cross}
use Rattle.float.proofs.Told.{told_inf, rounded_is}

told_nan : told Ieee.nan ≡ invalid
unfolding told
told_nan = refl

-- x / c is a / b units
told_round : (s : Bool) (x c a b : ℕ) → 0 < c → 0 < b → x * (b * 2 ^ 149) ≡ a * c → told (Ieee.round Ieee.binary32 s x c) ≡ rounded s a b
told_round s x c a b C B h = ap told (round_same Ieee.binary32 s x c a (b * 2 ^ 149) C (mul-pos B (pow_pos 149)) h) ∙ rounded_is s a b B

-- ---- sums

-- the logic's ±A / C ± B / C with unlike signs
abbrev apart : Bool → ℕ → Bool → ℕ → ℕ → Float
apart s A t B C = cond (ltb A B) (Ieee.round Ieee.binary32 t (B - A) C) (Ieee.round Ieee.binary32 (s && ltb B A) (A - B) C)

-- A / C is a units, and B / C is b units
module _ (s t : Bool) (A B C a b : ℕ) (C-pos : 0 < C) (p : A * 2 ^ 149 ≡ a * C) (q : B * 2 ^ 149 ≡ b * C) where
  differ_is : told (apart s A t B C) ≡ differ (compare a b) s a t b
  differ_is = go (compare a b) (cmp a b)
    where
      P_pos : 0 < 2 ^ 149
      P_pos = pow_pos 149

      less : (B - A) * 2 ^ 149 ≡ (b - a) * C
      less = sub_same A B C a b (2 ^ 149) C-pos P_pos p q

      more : (A - B) * 2 ^ 149 ≡ (a - b) * C
      more = sub_same B A C b a (2 ^ 149) C-pos P_pos q p

      go : (o : Ordering) → Cmp o a b → told (apart s A t B C) ≡ differ o s a t b
      go Ordering.lt h = rw (lt-ltb A B (order A B C a b (2 ^ 149) C-pos P_pos p q h)) (told_round t (B - A) C (b - a) 1 C-pos (zero-lt-suc 0) less)
      go Ordering.eq h =
          let e : A ≡ B = same_number A B C a b (2 ^ 149) C-pos P_pos p q h in
          let none : a - b ≡ 0 = omega arith in
          rw (le-ltb A B (omega arith), le-ltb B A (omega arith), and-false s) (told_round false (A - B) C 0 1 C-pos (zero-lt-suc 0) (more ∙ ap (λ (x : ℕ). x * C) none))
      go Ordering.gt h =
          let l : B < A = order B A C b a (2 ^ 149) C-pos P_pos q p h in
          rw (le-ltb A B (omega arith), lt-ltb B A l, and-true s) (told_round s (A - B) C (a - b) 1 C-pos (zero-lt-suc 0) more)

  sum_is : told (Ieee.sum Ieee.binary32 s A t B C) ≡ cond (beq s t) (rounded s (a + b) 1) (differ (compare a b) s a t b)
  unfolding Ieee.sum
  sum_is = go (beq s t)
    where
      go : (c : Bool) → told (cond c (Ieee.round Ieee.binary32 s (A + B) C) (apart s A t B C)) ≡ cond c (rounded s (a + b) 1) (differ (compare a b) s a t b)
      go true = told_round s (A + B) C (a + b) 1 C-pos (zero-lt-suc 0) (add_same A B C a b (2 ^ 149) C-pos (pow_pos 149) p q)
      go false = differ_is

plus_is : {v w : Value} {x y : Float} → Same v x → Same w y → told (Ieee.add Ieee.binary32 x y) ≡ plus v w
unfolding Ieee.add plus
plus_is same_nan q = told_nan
plus_is (same_infinity s) same_nan = told_nan
plus_is (same_infinity s) (same_infinity t) = go (beq s t)
  where
    go : (c : Bool) → told (cond c (Ieee.inf s) Ieee.nan) ≡ cond c (infinite s) invalid
    go true = told_inf s
    go false = told_nan
plus_is (same_infinity s) (same_finite t b n d q) = told_inf s
plus_is (same_finite s a m e p) same_nan = told_nan
plus_is (same_finite s a m e p) (same_infinity t) = told_inf t
plus_is (same_finite s a m e p) (same_finite t b n d q) =
    sum_is s t (m * up e * down d) (n * up d * down e) (down e * down d) a b (mul-pos (down_pos e) (down_pos d))
    (cross (m * up e) (2 ^ 149) a (down e) (down d) p)
    (cross (n * up d) (2 ^ 149) b (down d) (down e) q ∙ ap (λ (z : ℕ). b * z) (mul_comm (down d) (down e)))

pub sum_told : (x y : ℕ) → told (Ieee.add Ieee.binary32 (Ieee.of_bits Ieee.binary32 x) (Ieee.of_bits Ieee.binary32 y)) ≡ sum x y
unfolding sum
sum_told x y = plus_is (read x) (read y)

-- ---- differences

neg_same : {v : Value} {x : Float} → Same v x → Same (negated v) (Ieee.neg x)
unfolding Ieee.neg
neg_same same_nan = same_nan
neg_same (same_infinity s) = same_infinity (not s)
neg_same (same_finite s a m e p) = same_finite (not s) a m e p

pub difference_told : (x y : ℕ) → told (Ieee.sub Ieee.binary32 (Ieee.of_bits Ieee.binary32 x) (Ieee.of_bits Ieee.binary32 y)) ≡ difference x y
unfolding difference Ieee.sub
difference_told x y = plus_is (read x) (neg_same (read y))

-- ---- products

-- m * 2 ^ e is 0 where the number of units is
zero_same : (m : ℕ) (e : ℤ) (a : ℕ) → m * up e * 2 ^ 149 ≡ a * down e → eqb m 0 ≡ eqb a 0
zero_same m e a h =
    eqb_same m 0 (down e) a 0 (up e * 2 ^ 149) (down_pos e) (mul-pos (up_pos e) (pow_pos 149))
    (sym (mul_assoc m (up e) (2 ^ 149)) ∙ h) (zero-mul (up e * 2 ^ 149) ∙ sym (zero-mul (down e)))

nan_or_inf : (c : Bool) (s : Bool) → told (cond c Ieee.nan (Ieee.inf s)) ≡ cond c invalid (infinite s)
nan_or_inf true s = told_nan
nan_or_inf false s = told_inf s

products : (x y P a b de dd : ℕ) → x * P ≡ a * de → y * P ≡ b * dd → x * y * (P * P) ≡ a * b * (de * dd)
products x y P a b de dd p q =
    mul_assoc x y (P * P) ∙ ap (λ (z : ℕ). x * z) (mul_left_comm y P P) ∙ sym (mul_assoc x P (y * P)) ∙ ap (λ (z : ℕ). z * (y * P)) p ∙ ap (λ (z : ℕ). a * de * z) q
    ∙ mul_assoc a de (b * dd) ∙ ap (λ (z : ℕ). a * z) (mul_left_comm de b dd) ∙ sym (mul_assoc a b (de * dd))

times_is : {v w : Value} {x y : Float} → Same v x → Same w y → told (Ieee.mul Ieee.binary32 x y) ≡ times v w
unfolding Ieee.mul times
times_is same_nan q = told_nan
times_is (same_infinity s) same_nan = told_nan
times_is (same_infinity s) (same_infinity t) = told_inf (unlike s t)
times_is (same_infinity s) (same_finite t b n d q) = rw (zero_same n d b q) (nan_or_inf (eqb b 0) (unlike s t))
times_is (same_finite s a m e p) same_nan = told_nan
times_is (same_finite s a m e p) (same_infinity t) = rw (zero_same m e a p) (nan_or_inf (eqb a 0) (unlike s t))
times_is (same_finite s a m e p) (same_finite t b n d q) =
    told_round (unlike s t) (m * up e * (n * up d)) (down e * down d) (a * b) (2 ^ 149) (mul-pos (down_pos e) (down_pos d)) (pow_pos 149)
    (products (m * up e) (n * up d) (2 ^ 149) a b (down e) (down d) p q)

pub product_told : (x y : ℕ) → told (Ieee.mul Ieee.binary32 (Ieee.of_bits Ieee.binary32 x) (Ieee.of_bits Ieee.binary32 y)) ≡ product x y
unfolding product
product_told x y = times_is (read x) (read y)

-- ---- quotients

-- a float marked as one from a division by zero, if that is asked for
abbrev pub marked : Bool → Answer → Answer
marked true (float b) = by_zero b
marked true (by_zero b) = by_zero b
marked true invalid = invalid
marked false r = r

marked_no : (c : Bool) (r : Answer) → marked (c && false) r ≡ r
marked_no true r = refl
marked_no false r = refl

told_zero : (s : Bool) → told (Ieee.fin s 0 (pos 0)) ≡ float (signed s 0)
unfolding told Ieee.to_bits
told_zero true = refl
told_zero false = refl

quotients : (x y P a b de dd : ℕ) → x * P ≡ a * de → y * P ≡ b * dd → x * dd * (b * P) ≡ a * P * (y * de)
quotients x y P a b de dd p q =
    mul_assoc x dd (b * P) ∙ ap (λ (z : ℕ). x * z) (sym (mul_assoc dd b P) ∙ ap (λ (z : ℕ). z * P) (mul_comm dd b ∙ sym q) ∙ mul_comm (y * P) P) ∙ sym (mul_assoc x P (y * P))
    ∙ ap (λ (z : ℕ). z * (y * P)) p ∙ mul_assoc a de (y * P) ∙ ap (λ (z : ℕ). a * z) (sym (mul_assoc de y P) ∙ ap (λ (z : ℕ). z * P) (mul_comm de y) ∙ mul_comm (y * de) P) ∙ sym (mul_assoc a P (y * de))

some : (n : ℕ) → eqb n 0 ≡ false → 0 < n
some n h = omega (arith, eqb-false n 0 h)

-- by the two tests
module _ (s t : Bool) (a b : ℕ) (x : Float) (is : eqb b 0 ≡ false → told x ≡ rounded (unlike s t) (a * 2 ^ 149) b) where
  by_tests : (c d : Bool) → eqb b 0 ≡ d
      → marked (d && true) (told (cond d (cond c Ieee.nan (Ieee.inf (unlike s t))) x)) ≡ cond d (cond c invalid (by_zero (signed (unlike s t) inf))) (rounded (unlike s t) (a * 2 ^ 149) b)
  by_tests true true h = ap (marked true) told_nan
  by_tests false true h = ap (marked true) (told_inf (unlike s t))
  by_tests c false h = is h

over_is : {v w : Value} {x y : Float} → Same v x → Same w y → marked (is_zero w && is_finite v) (told (Ieee.div Ieee.binary32 x y)) ≡ over v w
unfolding Ieee.div over is_finite is_zero
over_is {w = w} same_nan q = marked_no (is_zero w) (told Ieee.nan) ∙ told_nan
over_is (same_infinity s) same_nan = told_nan
over_is (same_infinity s) (same_infinity t) = told_nan
over_is (same_infinity s) (same_finite t b n d q) = marked_no (eqb b 0) (told (Ieee.inf (unlike s t))) ∙ told_inf (unlike s t)
over_is (same_finite s a m e p) same_nan = told_nan
over_is (same_finite s a m e p) (same_infinity t) = told_zero (unlike s t)
over_is (same_finite s a m e p) (same_finite t b n d q) =
    let x = m * up e * down d in
    let y = n * up d * down e in
    let divisor : eqb b 0 ≡ false → 0 < y = λ h. mul-pos (mul-pos (some n (zero_same n d b q ∙ h)) (up_pos d)) (down_pos e) in
    let nearest : eqb b 0 ≡ false → told (Ieee.round Ieee.binary32 (unlike s t) x y) ≡ rounded (unlike s t) (a * 2 ^ 149) b =
    λ h. told_round (unlike s t) x y (a * 2 ^ 149) b (divisor h) (some b h) (quotients (m * up e) (n * up d) (2 ^ 149) a b (down e) (down d) p q) in
    rw (zero_same n d b q, zero_same m e a p) (by_tests s t a b (Ieee.round Ieee.binary32 (unlike s t) x y) nearest (eqb a 0) (eqb b 0) refl)

pub quotient_told : (x y : ℕ)
    → marked (is_zero (value binary32 y) && is_finite (value binary32 x)) (told (Ieee.div Ieee.binary32 (Ieee.of_bits Ieee.binary32 x) (Ieee.of_bits Ieee.binary32 y))) ≡ quotient x y
unfolding quotient
quotient_told x y = over_is (read x) (read y)
