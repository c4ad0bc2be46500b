-- The nearest whole number to a / c is so among all of them: by their multiples of c.
-- Assumes nothing.
use Prim.Native.Nat.{ℕ, zero, suc, ◌+◌, ◌*◌, ◌/◌, ◌%◌, ◌≤◌, ◌<◌, compare, Ordering}
use mathlib.Core.Logic.{◌≢◌, ◌⊎◌, inl, inr}
use mathlib.Core.Path.{◌≡◌, sym, ap, ◌∙◌}
use native.Mathlib.Nat.{eq-or-lt_of_le, suc-mul, add-mul, one-mul, mul-le-mul_right, mod-lt, div-add-mod'}
use native.Mathlib.Numerals.{add-one}
use native.Mathlib.Omega.{arith}
use Rattle.rounding.specs.Nearest.{gap}
use Rattle.rounding.specs.Rounding.{closer, nearest}
use Rattle.rounding.proofs.Compared.{Cmp, cmp}

-- with a = X + d, the multiple X at or below a, and R another: it is at most X, or at least X + c
abbrev pub Near : ℕ → ℕ → ℕ → ℕ → ℕ → Type 0
Near a Q R q r = (gap Q a ≤ gap R a) × (gap Q a ≡ gap R a → r ≢ q → q % 2 ≡ 0)

-- r against w
data Place (c w r X R : ℕ) : Type 0 where
  below : r < w → R + c ≤ X → Place c w r X R
  at : r ≡ w → R ≡ X → Place c w r X R
  next : r ≡ suc w → R ≡ X + c → Place c w r X R
  beyond : suc w < r → X + c + c ≤ R → Place c w r X R

place : (c w r : ℕ) → Place c w r (w * c) (r * c)
place c w r = go (compare r w) (cmp r w)
  where
    go : (o : Ordering) → Cmp o r w → Place c w r (w * c) (r * c)
    go Ordering.lt h = below h (omega (arith, suc-mul r c, mul-le-mul_right c h))
    go Ordering.eq h = at h (ap (λ (z : ℕ). z * c) h)
    go Ordering.gt h = elim (eq-or-lt_of_le h) [
      | inl e ↦ next (sym e) (ap (λ (z : ℕ). z * c) (sym e) ∙ suc-mul w c)
      | inr l ↦ beyond l (omega (arith, suc-mul w c, suc-mul (suc w) c, mul-le-mul_right c l))
    ]

-- w is nearer
near_down : (a c w d r X R : ℕ) → a ≡ X + d → d * 2 < c → Place c w r X R → Near a X R w r
near_down a c w d r X R e h (below l p) = (omega arith, λ g n. absurd (omega arith))
near_down a c w d r X R e h (at l p) = (omega arith, λ g n. absurd (n l))
near_down a c w d r X R e h (next l p) = (omega arith, λ g n. absurd (omega arith))
near_down a c w d r X R e h (beyond l p) = (omega arith, λ g n. absurd (omega arith))

-- the next is
near_up : (a c w d r X R : ℕ) → a ≡ X + d → c < d * 2 → d < c → Place c w r X R → Near a (X + c) R (suc w) r
near_up a c w d r X R e h k (below l p) = (omega arith, λ g n. absurd (omega arith))
near_up a c w d r X R e h k (at l p) = (omega arith, λ g n. absurd (omega arith))
near_up a c w d r X R e h k (next l p) = (omega arith, λ g n. absurd (n l))
near_up a c w d r X R e h k (beyond l p) = (omega arith, λ g n. absurd (omega arith))

-- both are as near
tie_gap : (a c w d r X R Q : ℕ) → a ≡ X + d → d * 2 ≡ c → (Q ≡ X) ⊎ (Q ≡ X + c) → Place c w r X R → gap Q a ≤ gap R a
tie_gap a c w d r X R Q e h (inl z) (below l p) = omega arith
tie_gap a c w d r X R Q e h (inl z) (at l p) = omega arith
tie_gap a c w d r X R Q e h (inl z) (next l p) = omega arith
tie_gap a c w d r X R Q e h (inl z) (beyond l p) = omega arith
tie_gap a c w d r X R Q e h (inr z) (below l p) = omega arith
tie_gap a c w d r X R Q e h (inr z) (at l p) = omega arith
tie_gap a c w d r X R Q e h (inr z) (next l p) = omega arith
tie_gap a c w d r X R Q e h (inr z) (beyond l p) = omega arith

tie_at : (w c : ℕ) → ((w + w % 2) * c ≡ w * c) ⊎ ((w + w % 2) * c ≡ w * c + c)
tie_at w c = go (w % 2) (omega arith)
  where
    go : (x : ℕ) → x < 2 → ((w + x) * c ≡ w * c) ⊎ ((w + x) * c ≡ w * c + c)
    go zero h = inl (ap (λ (z : ℕ). z * c) (omega arith))
    go (suc zero) h = inr (add-mul w 1 c ∙ ap (λ (z : ℕ). w * c + z) (one-mul c))
    go (suc (suc x)) h = absurd (omega arith)

-- the nearest whole number to a / c, against any other
pub near : (a c r : ℕ) → 0 < c → Near a (nearest a c * c) (r * c) (nearest a c) r
unfolding nearest
near a c r C = go (compare (a % c * 2) c) (cmp (a % c * 2) c)
  where
    w : ℕ
    w = a / c

    is : a ≡ w * c + a % c
    is = sym (div-add-mod' a c)

    step : w * c + c ≡ (w + 1) * c
    step = sym (add-mul w 1 c ∙ ap (λ (z : ℕ). w * c + z) (one-mul c))

    go : (o : Ordering) → Cmp o (a % c * 2) c → Near a (closer o w * c) (r * c) (closer o w) r
    go Ordering.lt h = near_down a c w (a % c) r (w * c) (r * c) is h (place c w r)
    go Ordering.eq h = (tie_gap a c w (a % c) r (w * c) (r * c) ((w + w % 2) * c) is h (tie_at w c) (place c w r), λ g n. omega arith)
    go Ordering.gt h = rw (← step, add-one) (near_up a c w (a % c) r (w * c) (r * c) is h (mod-lt a C) (place c w r))
