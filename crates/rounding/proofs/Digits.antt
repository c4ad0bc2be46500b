-- How many digits rounding drops, and how many it keeps.
-- Assumes nothing.
use Prim.Native.Nat.{ℕ, zero, suc, ◌+◌, ◌-◌, ◌*◌, ◌/◌, ◌%◌, ◌^◌, ◌≤◌, ◌<◌, compare, Ordering}
use mathlib.Core.Bool.{Bool, true, false}
use mathlib.Core.Path.{◌≡◌, refl, sym, ap}
use native.Mathlib.Nat.{le_trans, le_of_eq, lt_of_lt_of_le, lt_of_le_of_lt, lt_of_not-le, lt_irrefl, zero-lt-suc, mul_comm, mul_assoc, pow-succ', two-pow-succ, div-le_self, div-div-eq-div-mul, div-lt_iff_lt-mul, le-div_iff_mul-le}
use native.Mathlib.Numerals.{add-one}
use native.Mathlib.Omega.{arith}
use lib.Dec.{ltb}
use lib.Ieee as Ieee
use lib.Ieee.{size}
use lib.Ieee.Digits.{size-lt, size-le, size_reaches}
use lib.Ieee.Fits.{kept-lt, nearest-le}
use lib.Ieee.Nearest.{closest, nearest-ge}
use lib.Pow.{pow-add, pow_pos, pow_mono}
use borrow.Author.Tests.{ltb-true, ltb-false}
use Rattle.rounding.specs.Rounding.{closer, nearest, doublings}

-- ---- how many digits are dropped

lt_two_pow : (n : ℕ) → n < 2 ^ n
lt_two_pow zero = zero-lt-suc 0
lt_two_pow (suc n) = omega (arith, two-pow-succ n, lt_two_pow n)

step_pow : (b j : ℕ) → b * 2 ^ suc j ≡ b * 2 * 2 ^ j
step_pow b j = rw pow-succ' (sym (mul_assoc b 2 (2 ^ j)))

doublings_is : (g K a b : ℕ) → K ≤ g → a < 2 ^ 24 * (b * 2 ^ K) → ((j : ℕ) → j < K → 2 ^ 24 * (b * 2 ^ j) ≤ a) → doublings g a b ≡ K
unfolding doublings
doublings_is zero K a b k hi lo = omega arith
doublings_is (suc g) K a b k hi lo = tested (ltb a (2 ^ 24 * b)) refl K k hi lo (λ K'. doublings_is g K' a (b * 2))
  where
    tested : (c : Bool) → ltb a (2 ^ 24 * b) ≡ c → (K : ℕ) → K ≤ suc g → a < 2 ^ 24 * (b * 2 ^ K) → ((j : ℕ) → j < K → 2 ^ 24 * (b * 2 ^ j) ≤ a)
        → ((K' : ℕ) → K' ≤ g → a < 2 ^ 24 * (b * 2 * 2 ^ K') → ((j : ℕ) → j < K' → 2 ^ 24 * (b * 2 * 2 ^ j) ≤ a) → doublings g a (b * 2) ≡ K')
        → elim c [ true ↦ 0 | false ↦ suc (doublings g a (b * 2)) ] ≡ K
    tested true q zero k hi lo ih = refl
    tested true q (suc K) k hi lo ih = absurd (omega (arith, ltb-true a (2 ^ 24 * b) q, lo 0 (zero-lt-suc K)))
    tested false q zero k hi lo ih = absurd (omega (arith, ltb-false a (2 ^ 24 * b) q))
    tested false q (suc K) k hi lo ih = ap suc (ih K (omega arith) (rw step_pow at hi) (λ j h. rw step_pow at (lo (suc j) (omega arith))))

regroup : (j b : ℕ) → 2 ^ (24 + j) * b ≡ 2 ^ 24 * (b * 2 ^ j)
regroup j b = rw (pow-add 2 24 j, mul_assoc (2 ^ 24) (2 ^ j) b, mul_comm (2 ^ j) b)

pub doublings_size : (a b : ℕ) → 0 < b → doublings a a b ≡ size (a / b) - 24
doublings_size a b B =
    let z = size (a / b) in
    doublings_is a (z - 24) a b
    (omega (arith, size-le (a / b) a (lt_of_le_of_lt (div-le_self a b) (lt_two_pow a))))
    (rw (← regroup (z - 24) b) ((div-lt_iff_lt-mul B).0 (lt_of_lt_of_le (size-lt (a / b)) (pow_mono (omega arith)))))
    (λ j h. rw (← regroup j b) ((le-div_iff_mul-le B).0 (size_reaches (a / b) (24 + j) (omega arith))))

-- ---- the nearest whole number

closer_is : (o : Ordering) (q : ℕ) → closer o q ≡ Ieee.nearest q o
closer_is Ordering.lt q = refl
closer_is Ordering.eq q = refl
closer_is Ordering.gt q = add-one q

pub nearest_is : (a b : ℕ) → nearest a b ≡ closest a b
unfolding nearest
nearest_is a b = closer_is (compare (a % b * 2) b) (a / b)

-- what is kept has at most 24 digits, or is 2 ^ 24; and where digits were dropped it has 24
pub kept_le : (a b : ℕ) → closest a (b * 2 ^ (size (a / b) - 24)) ≤ 2 ^ 24
kept_le a b =
    let k = size (a / b) - 24 in
    let u = b * 2 ^ k in
    le_trans (nearest-le (a / u) (compare (a % u * 2) u)) (rw div-div-eq-div-mul at (kept-lt 24 (a / b)))

pub kept_ge : (a b : ℕ) → 0 < size (a / b) - 24 → 2 ^ 23 ≤ closest a (b * 2 ^ (size (a / b) - 24))
kept_ge a b K =
    let w = a / b in
    let k = size w - 24 in
    let u = b * 2 ^ k in
    let l : 2 ^ 23 * 2 ^ k ≤ w = le_trans (le_of_eq (sym (pow-add 2 23 k))) (size_reaches w (23 + k) (omega arith)) in
    le_trans (rw div-div-eq-div-mul at ((le-div_iff_mul-le (pow_pos k)).1 l)) (nearest-ge (a / u) (compare (a % u * 2) u))

pub pow_lt_back : (i p : ℕ) → 2 ^ i < 2 ^ p → i < p
pow_lt_back i p h = lt_of_not-le (λ (g : p ≤ i). lt_irrefl (2 ^ i) (lt_of_lt_of_le h (pow_mono g)))
