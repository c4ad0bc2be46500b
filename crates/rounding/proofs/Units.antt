-- How many units a pattern has.
-- Assumes nothing.
use Prim.Native.Nat.{ℕ, zero, suc, ◌+◌, ◌-◌, ◌*◌, ◌/◌, ◌%◌, ◌^◌, ◌≤◌, ◌<◌}
use mathlib.Core.Bool.{Bool, true, false, cond}
use mathlib.Core.Logic.{◌⊎◌, inl, inr}
use mathlib.Core.Path.{◌≡◌, refl, sym, ap, ◌∙◌}
use native.Mathlib.Nat.{le_of_eq, le_of_lt, eq-or-lt_of_le, eq-zero-or-pos, zero-lt-suc, mul-one, mul_assoc, mul-le-mul_left, mul-lt-mul_of_pos_right, pow-suc}
use native.Mathlib.Omega.{arith}
use lib.Arith.{digits_div, digits_mod}
use lib.Dec.{ltb}
use lib.Pow.{pow-add, pow_pos, pow_mono}
use borrow.Author.Tests.{ltb-true, ltb-false}
use Rattle.binary.specs.Value.{finite, binary32, units, value}
use Rattle.binary.proofs.Fields.{fields_read, fields_finite}
use Rattle.rounding.specs.Nearest.{units_of}
use Rattle.rounding.specs.Rounding.{inf}

-- ---- they are a multiple of 2 ^ k, or fewer than 2 ^ 23 of them

abbrev pub Split : ℕ → ℕ → Type 0
Split n k = ((r : ℕ) × (n ≡ r * 2 ^ k)) ⊎ ((0 < k) × (n < 2 ^ 23 * 2 ^ k))

double : (k : ℕ) → 2 ^ 24 * 2 ^ k ≡ 2 ^ 23 * 2 ^ suc k
double k = omega (arith, pow-suc 2 k)

-- 2 ^ e units of 24 digits are fewer than 2 ^ 24 times 2 ^ e
full : (e t : ℕ) → t < 2 ^ 23 → (2 ^ 23 + t) * 2 ^ e < 2 ^ 24 * 2 ^ e
full e t h = mul-lt-mul_of_pos_right (omega arith) (pow_pos e)

split_fields : (k e t : ℕ) → t < 2 ^ 23 → Split (units binary32 e t) k
unfolding units
split_fields zero zero t h = inl (t, sym (mul-one t))
split_fields (suc k) zero t h = inr (zero-lt-suc k, omega (arith, mul-le-mul_left (2 ^ 23) (pow_pos (suc k))))
split_fields zero (suc e) t h = inl ((2 ^ 23 + t) * 2 ^ e, sym (mul-one ((2 ^ 23 + t) * 2 ^ e)))
split_fields (suc k) (suc e) t h = tested (ltb k e) refl
  where
    tested : (c : Bool) → ltb k e ≡ c → Split ((2 ^ 23 + t) * 2 ^ e) (suc k)
    tested true q =
        let places : e - suc k + suc k ≡ e = omega (arith, ltb-true k e q) in
        inl ((2 ^ 23 + t) * 2 ^ (e - suc k), sym (rw (mul_assoc (2 ^ 23 + t) (2 ^ (e - suc k)) (2 ^ suc k), ← pow-add 2 (e - suc k) (suc k), places)))
    tested false q = inr (zero-lt-suc k, omega (arith, full e t h, mul-le-mul_left (2 ^ 24) (pow_mono (ltb-false k e q)), double k))

pub split : (k p : ℕ) → Split (units_of p) k
split k p = split_fields k (p / 2 ^ 23) (p % 2 ^ 23) (omega arith)

-- ---- those of the pattern k * 2 ^ 23 + q

at_fields : (p e t : ℕ) → p ≡ e * 2 ^ 23 + t → t < 2 ^ 23 → units_of p ≡ units binary32 e t
at_fields p e t h l = rw (h, digits_div e l, digits_mod e l)

units_full : (k q : ℕ) → 2 ^ 23 ≤ q → q < 2 ^ 24 → units_of (k * 2 ^ 23 + q) ≡ q * 2 ^ k
unfolding units
units_full k q lo hi = at_fields (k * 2 ^ 23 + q) (suc k) (q - 2 ^ 23) (omega arith) (omega arith) ∙ ap (λ (z : ℕ). z * 2 ^ k) (omega arith)

units_carry : (k : ℕ) → units_of (k * 2 ^ 23 + 2 ^ 24) ≡ 2 ^ 24 * 2 ^ k
units_carry k = ap units_of (omega arith) ∙ units_full (suc k) (2 ^ 23) (omega arith) (omega arith) ∙ sym (double k)

units_few : (q : ℕ) → q < 2 ^ 24 → units_of (0 * 2 ^ 23 + q) ≡ q * 2 ^ 0
unfolding units
units_few q h = tested (ltb q (2 ^ 23)) refl
  where
    tested : (c : Bool) → ltb q (2 ^ 23) ≡ c → units_of (0 * 2 ^ 23 + q) ≡ q * 2 ^ 0
    tested true l = at_fields (0 * 2 ^ 23 + q) 0 q refl (ltb-true q (2 ^ 23) l) ∙ sym (mul-one q)
    tested false l = units_full 0 q (ltb-false q (2 ^ 23) l) h

pub units_is : (k q : ℕ) → q ≤ 2 ^ 24 → (0 < k → 2 ^ 23 ≤ q) → units_of (k * 2 ^ 23 + q) ≡ q * 2 ^ k
units_is k q h l = go (eq-or-lt_of_le h) (eq-zero-or-pos k)
  where
    go : (q ≡ 2 ^ 24) ⊎ (q < 2 ^ 24) → (k ≡ 0) ⊎ (0 < k) → units_of (k * 2 ^ 23 + q) ≡ q * 2 ^ k
    go (inl e) z = rw e (units_carry k)
    go (inr y) (inl z) = rw z (units_few q y)
    go (inr y) (inr z) = units_full k q (l z) y

-- ---- a greater pattern has more

next_fraction : (e t : ℕ) → units binary32 e t < units binary32 e (suc t)
unfolding units
next_fraction zero t = omega arith
next_fraction (suc e) t = mul-lt-mul_of_pos_right (omega arith) (pow_pos e)

next_exponent : (e t : ℕ) → suc t ≡ 2 ^ 23 → units binary32 e t < units binary32 (suc e) 0
unfolding units
next_exponent zero t h = omega arith
next_exponent (suc e) t h = omega (arith, full e t (omega arith), double e)

pub step : (p : ℕ) → units_of p < units_of (suc p)
step p =
    let e = p / 2 ^ 23 in
    let t = p % 2 ^ 23 in
    let within : suc t ≤ 2 ^ 23 = omega arith in
    elim (eq-or-lt_of_le within) [
      | inl h ↦ omega (arith, next_exponent e t h, at_fields (suc p) (suc e) 0 (omega arith) (omega arith))
      | inr h ↦ omega (arith, next_fraction e t, at_fields (suc p) e (suc t) (omega arith) h)
    ]

pub rises : (p r : ℕ) → p < r → units_of p < units_of r
rises p zero h = absurd (omega arith)
rises p (suc r) h = elim (eq-or-lt_of_le h) [
  | inl e ↦ rw (← e) (step p)
  | inr l ↦ omega (arith, rises p r (omega arith), step r)
]

pub top : units_of inf ≡ 2 ^ 277
unfolding units
top = refl

pub units_top : (p : ℕ) → p ≤ inf → units_of p ≤ units_of inf
units_top p h = elim (eq-or-lt_of_le h) [
  | inl e ↦ le_of_eq (ap units_of e)
  | inr l ↦ le_of_lt (rises p inf l)
]

-- ---- below infinity's they are those that the pattern is read as having, with either sign

pub read_back : (s : Bool) (p : ℕ) → p < inf → value binary32 (cond s (2 ^ 31) 0 + p) ≡ finite s (units_of p)
read_back true p h = ap (value binary32) (omega arith) ∙ fields_read binary32 1 (p / 2 ^ 23) (p % 2 ^ 23) (omega arith) (omega arith) ∙ fields_finite binary32 true (p / 2 ^ 23) (p % 2 ^ 23) (omega arith)
read_back false p h = ap (value binary32) (omega arith) ∙ fields_read binary32 0 (p / 2 ^ 23) (p % 2 ^ 23) (omega arith) (omega arith) ∙ fields_finite binary32 false (p / 2 ^ 23) (p % 2 ^ 23) (omega arith)
