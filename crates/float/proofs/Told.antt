-- The definition's rounding is that of the logic's account of IEEE 754, told in bits: `rounded_is`.
-- Assumes nothing.
use Prim.Native.Nat.{ℕ, suc, ◌+◌, ◌-◌, ◌*◌, ◌/◌, ◌^◌, ◌≤◌, ◌<◌}
use mathlib.Core.Bool.{Bool, true, false, cond}
use mathlib.Core.Logic.{◌⊎◌, inl, inr}
use mathlib.Core.Path.{◌≡◌, refl, ap, ◌∙◌}
use native.Mathlib.Nat.{le_trans, le_of_eq, lt_of_le_of_lt, eq-or-lt_of_le, eq-zero-or-pos, add_assoc, mul_comm, mul_assoc, mul_left_comm, mul-le-mul_right, mul-pos, mul-div_cancel, pow-suc}
use native.Mathlib.Omega.{arith}
use lib.Dec.{ltb}
use lib.Ieee as Ieee
use lib.Ieee.{Float, up, down, size}
use lib.Ieee.Digits.{size-lt, size-le}
use lib.Ieee.Exact.{HasValue, odd_sign}
use lib.Ieee.Fits.{round_is, down_pos}
use lib.Ieee.Nearest.{closest, closest_same, div_same}
use lib.Pow.{pow-add, pow_pos, shl_lt}
use Rattle.rounding.specs.Rounding.{inf}
use Rattle.rounding.proofs.Digits.{doublings_size, nearest_is, kept_le, kept_ge, pow_lt_back}
use Rattle.float.specs.Arithmetic.{float, signed, rounded}
use Rattle.float.specs.Meaning.{told}

-- ---- the logic's rounding of a / b units

round_units : (s : Bool) (a b : ℕ) → 0 < b → Ieee.round Ieee.binary32 s a (b * 2 ^ 149) ≡ Ieee.units Ieee.binary32 s (closest a (b * 2 ^ (size (a / b) - 24))) (size (a / b) - 24)
round_units s a b B = go 149 (round_is Ieee.binary32 s a (b * 2 ^ 149))
  where
    go : (l : ℕ) → Ieee.round Ieee.binary32 s a (b * 2 ^ 149) ≡ Ieee.units Ieee.binary32 s (closest (a * 2 ^ l) (b * 2 ^ l * 2 ^ (size (a * 2 ^ l / (b * 2 ^ l)) - 24))) (size (a * 2 ^ l / (b * 2 ^ l)) - 24)
        → Ieee.round Ieee.binary32 s a (b * 2 ^ 149) ≡ Ieee.units Ieee.binary32 s (closest a (b * 2 ^ (size (a / b) - 24))) (size (a / b) - 24)
    go l h =
        let k = size (a / b) - 24 in
        let L : 0 < b * 2 ^ l = mul-pos B (pow_pos l) in
        let whole : a * 2 ^ l / (b * 2 ^ l) ≡ a / b = div_same (a * 2 ^ l) (b * 2 ^ l) a b L B (simp (mul_assoc, mul_comm)) in
        let near : closest (a * 2 ^ l) (b * 2 ^ l * 2 ^ k) ≡ closest a (b * 2 ^ k) =
        closest_same (a * 2 ^ l) (b * 2 ^ l * 2 ^ k) a (b * 2 ^ k) (mul-pos L (pow_pos k)) (mul-pos B (pow_pos k)) (simp (mul_assoc, mul_left_comm)) in
        rw (whole, near) at h

-- ---- the bits of q * 2 ^ k units

-- how the logic writes n units, without the sign
abbrev spelt : ℕ → ℕ
spelt n = (size n - 24) * 2 ^ 23 + n / 2 ^ (size n - 24)

spelt_at : (n q k : ℕ) → q * 2 ^ k ≡ n → size n - 24 ≡ k → spelt n ≡ k * 2 ^ 23 + q
spelt_at n q k e z = rw (z, ← e, mul-div_cancel q (pow_pos k))

spelt_full : (q k : ℕ) → 2 ^ 23 ≤ q → q < 2 ^ 24 → spelt (q * 2 ^ k) ≡ k * 2 ^ 23 + q
spelt_full q k lo hi =
    let n = q * 2 ^ k in
    let least : 2 ^ (23 + k) < 2 ^ size n = lt_of_le_of_lt (le_trans (le_of_eq (pow-add 2 23 k)) (mul-le-mul_right (2 ^ k) lo)) (size-lt n) in
    spelt_at n q k refl (omega (arith, size-le n (24 + k) (shl_lt 24 k hi), pow_lt_back (23 + k) (size n) least))

spelt_low : (q : ℕ) → q < 2 ^ 24 → spelt (q * 2 ^ 0) ≡ 0 * 2 ^ 23 + q
spelt_low q hi = spelt_at (q * 2 ^ 0) q 0 refl (omega (arith, size-le (q * 2 ^ 0) 24 (omega arith)))

spelt_carry : (k : ℕ) → spelt (2 ^ 24 * 2 ^ k) ≡ k * 2 ^ 23 + 2 ^ 24
spelt_carry k =
    let double : 2 ^ 24 * 2 ^ k ≡ 2 ^ 23 * 2 ^ suc k = omega (arith, pow-suc 2 k) in
    ap spelt double ∙ spelt_full (2 ^ 23) (suc k) (omega arith) (omega arith) ∙ omega arith

spelt_is : (q k : ℕ) → q ≤ 2 ^ 24 → (0 < k → 2 ^ 23 ≤ q) → spelt (q * 2 ^ k) ≡ k * 2 ^ 23 + q
spelt_is q k h l = go (eq-or-lt_of_le h) (eq-zero-or-pos k)
  where
    go : (q ≡ 2 ^ 24) ⊎ (q < 2 ^ 24) → (k ≡ 0) ⊎ (0 < k) → spelt (q * 2 ^ k) ≡ k * 2 ^ 23 + q
    go (inl e) z = rw e (spelt_carry k)
    go (inr y) (inl z) = rw z (spelt_low q y)
    go (inr y) (inr z) = spelt_full q k (l z) y

-- ---- a float of the logic, told in bits

told_val : (x : Float) (s : Bool) (n : ℕ) → HasValue x s n (2 ^ 149) → told x ≡ float (signed s (spelt n))
unfolding told Ieee.to_bits
told_val Ieee.nan s n v = absurd v
told_val (Ieee.inf t) s n v = absurd v
told_val (Ieee.fin t m e) s n v =
    let w : m * up e * 2 ^ 149 / down e ≡ n = ap (λ (x : ℕ). x / down e) v.1 ∙ mul-div_cancel n (down_pos e) in
    rw (w, v.0) (ap float (add_assoc (cond s (2 ^ 31) 0) ((size n - 24) * 2 ^ 23) (n / 2 ^ (size n - 24))))

pub told_inf : (s : Bool) → told (Ieee.inf s) ≡ float (signed s inf)
unfolding told Ieee.to_bits
told_inf s = refl

told_units : (s : Bool) (q k : ℕ) → q ≤ 2 ^ 24 → (0 < k → 2 ^ 23 ≤ q) → told (Ieee.units Ieee.binary32 s q k) ≡ float (signed s (cond (ltb (q * 2 ^ k) (2 ^ 277)) (k * 2 ^ 23 + q) inf))
unfolding Ieee.units
told_units s q k h l = go (ltb (q * 2 ^ k) (2 ^ 277))
  where
    go : (c : Bool) → told (cond c (Ieee.odd 25 s q k 149) (Ieee.inf s)) ≡ float (signed s (cond c (k * 2 ^ 23 + q) inf))
    go true = told_val (Ieee.odd 25 s q k 149) s (q * 2 ^ k) (odd_sign 25 s q k 149) ∙ ap (λ (x : ℕ). float (signed s x)) (spelt_is q k h l)
    go false = told_inf s

pub rounded_is : (s : Bool) (a b : ℕ) → 0 < b → told (Ieee.round Ieee.binary32 s a (b * 2 ^ 149)) ≡ rounded s a b
unfolding rounded
rounded_is s a b B =
    let k = size (a / b) - 24 in
    rw (round_units s a b B, doublings_size a b B, nearest_is a (b * 2 ^ k)) (told_units s (closest a (b * 2 ^ k)) k (kept_le a b) (kept_ge a b))
