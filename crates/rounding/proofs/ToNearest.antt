-- The definition rounds to nearest, ties to even (`rounds`): of all patterns up to infinity's none is nearer than `magnitude`'s. And it is
-- the only one that does (`unique`).
-- Assumes nothing.
use Prim.Native.Nat.{ℕ, suc, ◌+◌, ◌-◌, ◌*◌, ◌/◌, ◌%◌, ◌^◌, ◌≤◌, ◌<◌, compare, Ordering}
use mathlib.Core.Bool.{Bool, true, false, cond}
use mathlib.Core.Logic.{◌≢◌, inl, inr}
use mathlib.Core.Path.{◌≡◌, refl, sym, ap, ◌∙◌}
use native.Mathlib.Nat.{le_trans, le_of_eq, le_antisymm, le_of_lt, lt_of_le_of_lt, lt_irrefl, le_refl, eq-zero-or-pos, mul_comm, mul_assoc, mul-le-mul_right, mul-le-mul_left, mul-lt-mul_of_pos_right, mul-pos, le-div_iff_mul-le}
use native.Mathlib.Omega.{arith}
use lib.Dec.{ltb, lit≤}
use lib.Ieee.{size}
use lib.Ieee.Digits.{size_reaches}
use lib.Pow.{pow-add, pow_pos, pow_mono}
use borrow.Author.Tests.{ltb-true, ltb-false}
use Rattle.rounding.specs.Nearest.{units_of, gap, Rounds}
use Rattle.rounding.specs.Rounding.{nearest, doublings, inf, magnitude}
use Rattle.rounding.proofs.Compared.{Cmp, cmp}
use Rattle.rounding.proofs.Digits.{doublings_size, nearest_is, kept_le, kept_ge, pow_lt_back}
use Rattle.rounding.proofs.Multiples.{near}
use Rattle.rounding.proofs.Units.{Split, split, units_is, step, rises, top, units_top}

swap : (r b P : ℕ) → r * P * b ≡ r * (b * P)
swap r b P = rw mul_assoc (ap (λ (z : ℕ). r * z) (mul_comm P b))

far : (a Q R S : ℕ) → gap Q a ≤ gap R a → S < R → R ≤ a → gap Q a < gap S a
far a Q R S g l h = omega arith

-- ---- a pattern whose units are the nearest multiple of 2 ^ k, where the multiples of 2 ^ k that have 24 digits reach a / b

module _ (a b k m : ℕ) (B : 0 < b) (is : units_of m ≡ nearest a (b * 2 ^ k) * 2 ^ k) (reach : 0 < k → 2 ^ 23 * (b * 2 ^ k) ≤ a) where
  mine : units_of m * b ≡ nearest a (b * 2 ^ k) * (b * 2 ^ k)
  mine = ap (λ (z : ℕ). z * b) is ∙ swap (nearest a (b * 2 ^ k)) b (2 ^ k)

  beats : (n : ℕ) → Split n k → (gap (units_of m * b) a ≤ gap (n * b) a) × (gap (units_of m * b) a ≡ gap (n * b) a → n ≢ units_of m → nearest a (b * 2 ^ k) % 2 ≡ 0)
  beats n (inl (r, e)) =
      let other : n * b ≡ r * (b * 2 ^ k) = ap (λ (z : ℕ). z * b) e ∙ swap r b (2 ^ k) in
      let h = near a (b * 2 ^ k) r (mul-pos B (pow_pos k)) in
      rw (mine, other) (h.0, λ g d. h.1 g (λ f. d (e ∙ ap (λ (z : ℕ). z * 2 ^ k) f ∙ sym is)))
  beats n (inr (K, l)) =
      let low : n * b < 2 ^ 23 * (b * 2 ^ k) = omega (arith, mul-lt-mul_of_pos_right l B, swap (2 ^ 23) b (2 ^ k)) in
      let h : gap (units_of m * b) a < gap (n * b) a = rw mine (far a _ (2 ^ 23 * (b * 2 ^ k)) (n * b) (near a (b * 2 ^ k) (2 ^ 23) (mul-pos B (pow_pos k))).0 low (reach K)) in
      (le_of_lt h, λ g d. absurd (lt_irrefl _ (rw g at h)))

  rounds_at : m ≤ inf → (nearest a (b * 2 ^ k) % 2 ≡ 0 → m % 2 ≡ 0) → Rounds a b m
  rounds_at w e = record {
    within = w;
    nearest = λ p h. (beats (units_of p) (split k p)).0;
    even = λ p h g d. e ((beats (units_of p) (split k p)).1 g d);
  }

-- ---- what `doublings` leaves

record Kept (a b k : ℕ) : Type 0 where
  most : nearest a (b * 2 ^ k) ≤ 2 ^ 24
  least : 0 < k → 2 ^ 23 ≤ nearest a (b * 2 ^ k)
  reach : 0 < k → 2 ^ 23 * (b * 2 ^ k) ≤ a

kept : (a b : ℕ) → 0 < b → Kept a b (doublings a a b)
kept a b B =
    let k = size (a / b) - 24 in
    let n = nearest_is a (b * 2 ^ k) in
    rw (doublings_size a b B) (record {
      most = rw n (kept_le a b);
      least = λ K. rw n (kept_ge a b K);
      reach = λ K. rw (← swap (2 ^ 23) b (2 ^ k), ← pow-add 2 23 k) ((le-div_iff_mul-le B).0 (size_reaches (a / b) (23 + k) (omega arith)));
    })

few : (k q : ℕ) → (0 < k → 2 ^ 23 ≤ q) → q * 2 ^ k < 2 ^ 277 → k ≤ 253
few k q f h = elim (eq-zero-or-pos k) [
  | inl z ↦ omega arith
  | inr K ↦ omega (arith, pow_lt_back (23 + k) 277 (lt_of_le_of_lt (le_trans (le_of_eq (pow-add 2 23 k)) (mul-le-mul_right (2 ^ k) (f K))) h))
]

-- 2 ^ 277 units and more
beyond_top : (a b : ℕ) → units_of inf * b ≤ a → Rounds a b inf
beyond_top a b h = record {
  within = le_refl inf;
  nearest = λ p l. omega (arith, mul-le-mul_right b (units_top p l));
  even = λ p l g d. refl;
}

-- `magnitude` rounds to nearest, ties to even
pub rounds : (a b : ℕ) → 0 < b → Rounds a b (magnitude a b)
unfolding magnitude
rounds a b B = tested (ltb (q * 2 ^ k) (2 ^ 277)) refl (ltb k 254) refl
  where
    k : ℕ
    k = doublings a a b

    q : ℕ
    q = nearest a (b * 2 ^ k)

    f : Kept a b k
    f = kept a b B

    tested : (c : Bool) → ltb (q * 2 ^ k) (2 ^ 277) ≡ c → (d : Bool) → ltb k 254 ≡ d → Rounds a b (cond c (k * 2 ^ 23 + q) inf)
    tested true y d u =
        let l : k ≤ 253 = few k q f.least (ltb-true (q * 2 ^ k) (2 ^ 277) y) in
        rounds_at a b k (k * 2 ^ 23 + q) B (units_is k q f.most f.least) f.reach (omega (arith, f.most, l)) (λ e. omega arith)
    tested false y true u =
        let l : k ≤ 253 = omega (arith, ltb-true k 254 u) in
        let most : q * 2 ^ k ≤ 2 ^ 277 = le_trans (mul-le-mul_right (2 ^ k) f.most) (le_trans (mul-le-mul_left (2 ^ 24) (pow_mono l)) (lit≤ tt)) in
        rounds_at a b k inf B (top ∙ le_antisymm (ltb-false (q * 2 ^ k) (2 ^ 277) y) most) f.reach (le_refl inf) (λ e. refl)
    tested false y false u =
        let l : 254 ≤ k = ltb-false k 254 u in
        let most : 2 ^ 277 ≤ 2 ^ 23 * 2 ^ k = le_trans (le_of_eq (pow-add 2 23 254)) (mul-le-mul_left (2 ^ 23) (pow_mono l)) in
        beyond_top a b (rw top (le_trans (mul-le-mul_right b most) (rw (swap (2 ^ 23) b (2 ^ k)) (f.reach (omega arith)))))

-- ---- only one pattern is nearest in this sense

not_below : (a b m n : ℕ) → 0 < b → Rounds a b m → Rounds a b n → m < n → ⊥
not_below a b m n B M N h =
    let same : gap (units_of m * b) a ≡ gap (units_of n * b) a = le_antisymm (M.nearest n N.within) (N.nearest m M.within) in
    let fewer : units_of m < units_of n = rises m n h in
    let left : m % 2 ≡ 0 = M.even n N.within same (λ e. omega arith) in
    let right : n % 2 ≡ 0 = N.even m M.within (sym same) (λ e. omega arith) in
    let apart : suc m < n = omega arith in
    omega (arith, mul-lt-mul_of_pos_right (step m) B, mul-lt-mul_of_pos_right (rises (suc m) n apart) B, M.nearest (suc m) (omega (arith, N.within)))

pub unique : (a b m n : ℕ) → 0 < b → Rounds a b m → Rounds a b n → m ≡ n
unique a b m n B M N = go (compare m n) (cmp m n)
  where
    go : (o : Ordering) → Cmp o m n → m ≡ n
    go Ordering.lt h = absurd (not_below a b m n B M N h)
    go Ordering.eq h = h
    go Ordering.gt h = absurd (not_below a b n m B N M h)
