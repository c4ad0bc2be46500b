-- Two fractions with one denominator and two with another, equal one by one: A / C is a / P, and B / C is b / P. Order, sum and difference are
-- the same of both.
-- Assumes nothing.
use Prim.Native.Nat.{ℕ, ◌+◌, ◌-◌, ◌*◌, ◌≤◌, ◌<◌}
use mathlib.Core.Bool.{Bool, true, false}
use mathlib.Core.Path.{◌≡◌, refl, sym, ap, ◌∙◌}
use native.Mathlib.Nat.{mul_comm, mul_assoc, mul_right_comm, add-mul, mul-sub, mul-lt-mul_of_pos_right, lt_of_mul-lt-mul_right, eq_of_mul-eq-mul_right}
use native.Mathlib.Omega.{arith}
use lib.Dec.{ltb, eqb}
use borrow.Author.Tests.{ltb-true, ltb-false, eqb-true, eqb-false, lt-ltb, le-ltb, eq-eqb, ne_eqb}

module _ (A B C a b P : ℕ) (C-pos : 0 < C) (P_pos : 0 < P) (p : A * P ≡ a * C) (q : B * P ≡ b * C) where
  pub order : a < b → A < B
  order h = lt_of_mul-lt-mul_right P (rw (p, q) (mul-lt-mul_of_pos_right h C-pos))

  pub same_number : a ≡ b → A ≡ B
  same_number h = eq_of_mul-eq-mul_right P P_pos A B (p ∙ ap (λ (x : ℕ). x * C) h ∙ sym q)

  pub add_same : (A + B) * P ≡ (a + b) * C
  add_same = rw (add-mul A B P, p, q) (sym (add-mul a b C))

  pub sub_same : (B - A) * P ≡ (b - a) * C
  sub_same = rw (mul_comm (B - A) P, mul-sub P B A, mul_comm P B, mul_comm P A, p, q, mul_comm a C, mul_comm b C, ← mul-sub C b a) (mul_comm C (b - a))

module _ (A B C a b P : ℕ) (C-pos : 0 < C) (P_pos : 0 < P) (p : A * P ≡ a * C) (q : B * P ≡ b * C) where
  pub ltb_same : ltb A B ≡ ltb a b
  ltb_same = tested (ltb a b) refl
    where
      back : b ≤ a → A < B → ⊥
      back l h = omega (arith, order a b P A B C P_pos C-pos (sym p) (sym q) h)

      tested : (t : Bool) → ltb a b ≡ t → ltb A B ≡ t
      tested true h = lt-ltb A B (order A B C a b P C-pos P_pos p q (ltb-true a b h))
      tested false h = le-ltb A B (omega (arith, back (ltb-false a b h)))

  pub eqb_same : eqb A B ≡ eqb a b
  eqb_same = tested (eqb a b) refl
    where
      tested : (t : Bool) → eqb a b ≡ t → eqb A B ≡ t
      tested true h = eq-eqb A B (same_number A B C a b P C-pos P_pos p q (eqb-true a b h))
      tested false h = ne_eqb A B (λ e. eqb-false a b h (same_number a b P A B C P_pos C-pos (sym p) (sym q) e))

-- x / de is a / P: brought to one denominator with another's dd
pub cross : (x P a de dd : ℕ) → x * P ≡ a * de → x * dd * P ≡ a * (de * dd)
cross x P a de dd h = rw (mul_right_comm x dd P, h) (mul_assoc a de dd)
