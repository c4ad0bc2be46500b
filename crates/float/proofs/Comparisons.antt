-- The definition's comparisons are those of the logic's account of IEEE 754, and none holds with a NaN.
-- Assumes nothing.
use Prim.Native.Nat.{ℕ, zero, suc, ◌+◌, ◌*◌, ◌^◌, ◌<◌, compare, Ordering}
use mathlib.Core.Bool.{Bool, true, false, not, ◌&&◌, ◌||◌, and-true, and-false, and_comm}
use mathlib.Core.Path.{◌≡◌, refl, sym, ap, ◌∙◌}
use native.Mathlib.Nat.{zero-add, zero-mul, add_comm, mul_comm, mul-pos}
use native.Mathlib.Omega.{arith}
use lib.Dec.{ltb, eqb, leb-suc-zero, leb-suc-suc, eqb-suc-zero}
use lib.Ieee as Ieee
use lib.Ieee.{Float, up, down}
use lib.Ieee.Fits.{down_pos}
use lib.Pow.{pow_pos}
use lib.Signed.{lt_z}
use borrow.Author.Tests.{lt-ltb, le-ltb, eq-eqb, ne_eqb}
use Rattle.binary.specs.Value.{Value, nan, infinity, finite, binary32, value}
use Rattle.rounding.proofs.Compared.{Cmp, cmp}
use Rattle.float.specs.Compare.{int, is_nan, greater, equal}
use Rattle.float.proofs.Outcomes.{nan_in}
use Rattle.float.proofs.Read.{Same, same_nan, same_infinity, same_finite, read}
use Rattle.float.proofs.Scaled.{add_same, ltb_same, eqb_same, cross}

-- ---- signs and magnitudes, as whole numbers

below_int : (s : Bool) (a : ℕ) (t : Bool) (b : ℕ) → Ieee.below s a t b ≡ lt_z (int s a) (int t b)
below_int false a false b = refl
below_int false a true zero = sym (leb-suc-zero a)
below_int false a true (suc b) = refl
below_int true zero false b = ap (ltb 0) (zero-add b)
below_int true (suc a) false b = lt-ltb 0 (suc a + b) (omega arith)
below_int true zero true zero = refl
below_int true zero true (suc b) = leb-suc-zero (suc b)
below_int true (suc a) true zero = lt-ltb 0 (suc a) (omega arith)
below_int true (suc a) true (suc b) = leb-suc-suc (suc b) a

neither_less : (a b : ℕ) → eqb a b ≡ (not (ltb a b) && not (ltb b a))
neither_less a b = go (compare a b) (cmp a b)
  where
    go : (o : Ordering) → Cmp o a b → eqb a b ≡ (not (ltb a b) && not (ltb b a))
    go Ordering.lt h = rw (ne_eqb a b (λ e. omega arith), lt-ltb a b h)
    go Ordering.eq h = rw (eq-eqb a b h, le-ltb a b (omega arith), le-ltb b a (omega arith))
    go Ordering.gt h = rw (ne_eqb a b (λ e. omega arith), le-ltb a b (omega arith), lt-ltb b a h)

both_zero : (a b : ℕ) → (eqb a b && eqb a 0) ≡ not (ltb 0 (a + b))
both_zero zero zero = refl
both_zero zero (suc b) = rw (ne_eqb 0 (suc b) (λ e. omega arith), lt-ltb 0 (0 + suc b) (omega arith))
both_zero (suc a) b = rw (eqb-suc-zero a, lt-ltb 0 (suc a + b) (omega arith)) (and-false (eqb (suc a) b))

level_int : (s : Bool) (a : ℕ) (t : Bool) (b : ℕ) → Ieee.level s a t b ≡ (not (lt_z (int s a) (int t b)) && not (lt_z (int t b) (int s a)))
level_int s a t b = rw (← below_int s a t b, ← below_int t b s a) (go s t)
  where
    go : (s t : Bool) → Ieee.level s a t b ≡ (not (Ieee.below s a t b) && not (Ieee.below t b s a))
    go false false = and-true (eqb a b) ∙ neither_less a b
    go false true = both_zero a b ∙ ap (λ (n : ℕ). not (ltb 0 n)) (add_comm a b)
    go true false = both_zero a b ∙ sym (and-true (not (ltb 0 (a + b))))
    go true true = and-true (eqb a b) ∙ neither_less a b ∙ and_comm (not (ltb a b)) (not (ltb b a))

-- ---- finite values

-- A / C is a units, and B / C is b units
module _ (A B C a b : ℕ) (C-pos : 0 < C) (p : A * 2 ^ 149 ≡ a * C) (q : B * 2 ^ 149 ≡ b * C) where
  below_same : (s t : Bool) → Ieee.below s A t B ≡ Ieee.below s a t b
  below_same false false = ltb_same A B C a b (2 ^ 149) C-pos (pow_pos 149) p q
  below_same false true = refl
  below_same true false = ltb_same 0 (A + B) C 0 (a + b) (2 ^ 149) C-pos (pow_pos 149) (zero-mul (2 ^ 149) ∙ sym (zero-mul C)) (add_same A B C a b (2 ^ 149) C-pos (pow_pos 149) p q)
  below_same true true = ltb_same B A C b a (2 ^ 149) C-pos (pow_pos 149) q p

  level_same : (s t : Bool) → Ieee.level s A t B ≡ Ieee.level s a t b
  level_same s t =
      rw (
        eqb_same A B C a b (2 ^ 149) C-pos (pow_pos 149) p q,
        eqb_same A 0 C a 0 (2 ^ 149) C-pos (pow_pos 149) p (zero-mul (2 ^ 149) ∙ sym (zero-mul C)),
      )

-- ---- all values

greater_is : {v w : Value} {x y : Float} → Same v x → Same w y → Ieee.lt y x ≡ greater v w
unfolding Ieee.lt greater
greater_is same_nan same_nan = refl
greater_is same_nan (same_infinity t) = refl
greater_is same_nan (same_finite t b n d q) = refl
greater_is (same_infinity s) same_nan = refl
greater_is (same_infinity s) (same_infinity t) = and_comm t (not s)
greater_is (same_infinity s) (same_finite t b n d q) = refl
greater_is (same_finite s a m e p) same_nan = refl
greater_is (same_finite s a m e p) (same_infinity t) = refl
greater_is (same_finite s a m e p) (same_finite t b n d q) =
    below_same (n * up d * down e) (m * up e * down d) (down d * down e) b a (mul-pos (down_pos d) (down_pos e))
    (cross (n * up d) (2 ^ 149) b (down d) (down e) q)
    (cross (m * up e) (2 ^ 149) a (down e) (down d) p ∙ ap (λ (z : ℕ). a * z) (mul_comm (down e) (down d))) t s
    ∙ below_int t b s a

equal_is : {v w : Value} {x y : Float} → Same v x → Same w y → Ieee.eq x y ≡ equal v w
unfolding Ieee.eq equal
equal_is same_nan q = refl
equal_is (same_infinity s) same_nan = refl
equal_is (same_infinity s) (same_infinity t) = refl
equal_is (same_infinity s) (same_finite t b n d q) = refl
equal_is (same_finite s a m e p) same_nan = refl
equal_is (same_finite s a m e p) (same_infinity t) = refl
equal_is (same_finite s a m e p) (same_finite t b n d q) =
    level_same (m * up e * down d) (n * up d * down e) (down e * down d) a b (mul-pos (down_pos e) (down_pos d))
    (cross (m * up e) (2 ^ 149) a (down e) (down d) p)
    (cross (n * up d) (2 ^ 149) b (down d) (down e) q ∙ ap (λ (z : ℕ). b * z) (mul_comm (down d) (down e))) s t
    ∙ level_int s a t b

-- ---- on patterns

pub greater_read : (x y : ℕ) → Ieee.lt (Ieee.of_bits Ieee.binary32 y) (Ieee.of_bits Ieee.binary32 x) ≡ greater (value binary32 x) (value binary32 y)
greater_read x y = greater_is (read x) (read y)

pub equal_read : (x y : ℕ) → Ieee.eq (Ieee.of_bits Ieee.binary32 x) (Ieee.of_bits Ieee.binary32 y) ≡ equal (value binary32 x) (value binary32 y)
equal_read x y = equal_is (read x) (read y)

greater_nan_right : (v : Value) → greater v nan ≡ false
unfolding greater
greater_nan_right nan = refl
greater_nan_right (infinity s) = refl
greater_nan_right (finite s a) = refl

equal_nan_right : (v : Value) → equal v nan ≡ false
unfolding equal
equal_nan_right nan = refl
equal_nan_right (infinity s) = refl
equal_nan_right (finite s a) = refl

pub greater_nan : (x y : ℕ) → (is_nan (value binary32 x) || is_nan (value binary32 y)) ≡ true → false ≡ greater (value binary32 x) (value binary32 y)
unfolding greater
greater_nan x y = nan_in false greater (λ w. refl) greater_nan_right (value binary32 x) (value binary32 y)

pub equal_nan : (x y : ℕ) → (is_nan (value binary32 x) || is_nan (value binary32 y)) ≡ true → false ≡ equal (value binary32 x) (value binary32 y)
unfolding equal
equal_nan x y = nan_in false equal (λ w. refl) equal_nan_right (value binary32 x) (value binary32 y)
