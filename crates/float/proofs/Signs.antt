-- Sums of whole numbers that are given by sign and magnitude.
-- Assumes nothing.
use Prim.Native.Nat.{ℕ, zero, suc, ◌+◌, ◌-◌, ◌≤◌}
use mathlib.Core.Bool.{Bool, true, false, not, beq}
use mathlib.Core.Path.{◌≡◌, refl, sym, ap, ◌∙◌}
use native.Mathlib.Omega.{arith}
use lib.IntN.{pos, neg_ℤ, nat_abs, ◌+ℤ◌, +ℤ_comm, +ℤ_invl, +ℤ_invr, +ℤ-neg_ℤ_cancel, neg_ℤ-+ℤ, neg_ℤ-neg_ℤ}
use Rattle.float.specs.Compare.{int}

less_int : (a b : ℕ) → a ≤ b → pos (b - a) ≡ pos b +ℤ neg_ℤ (pos a)
less_int a b h =
    let back : b ≡ b - a + a = omega arith in
    sym (ap (λ (z : ℕ). pos z +ℤ neg_ℤ (pos a)) back ∙ +ℤ-neg_ℤ_cancel (pos (b - a)) (pos a))

pub int_same : (s t : Bool) (a b : ℕ) → beq s t ≡ true → int s (a + b) ≡ int s a +ℤ int t b
int_same false false a b h = refl
int_same true true a b h = neg_ℤ-+ℤ (pos a) (pos b)
int_same true false a b h = cc
int_same false true a b h = cc

pub int_less : (s t : Bool) (a b : ℕ) → beq s t ≡ false → a ≤ b → int t (b - a) ≡ int s a +ℤ int t b
int_less true false a b h l = less_int a b l ∙ +ℤ_comm (pos b) (neg_ℤ (pos a))
int_less false true a b h l = ap neg_ℤ (less_int a b l) ∙ neg_ℤ-+ℤ (pos b) (neg_ℤ (pos a)) ∙ rw neg_ℤ-neg_ℤ (+ℤ_comm (neg_ℤ (pos b)) (pos a))
int_less true true a b h l = cc
int_less false false a b h l = cc

pub int_more : (s t : Bool) (a b : ℕ) → beq s t ≡ false → b ≤ a → int s (a - b) ≡ int s a +ℤ int t b
int_more true false a b h l = int_less false true b a refl l ∙ +ℤ_comm (pos b) (neg_ℤ (pos a))
int_more false true a b h l = int_less true false b a refl l ∙ +ℤ_comm (neg_ℤ (pos b)) (pos a)
int_more true true a b h l = cc
int_more false false a b h l = cc

pub int_none : (s t : Bool) (a : ℕ) → beq s t ≡ false → int false 0 ≡ int s a +ℤ int t a
int_none true false a h = sym (+ℤ_invl (pos a))
int_none false true a h = sym (+ℤ_invr (pos a))
int_none true true a h = cc
int_none false false a h = cc

pub int_not : (t : Bool) (b : ℕ) → int (not t) b ≡ neg_ℤ (int t b)
int_not false b = refl
int_not true b = sym (neg_ℤ-neg_ℤ (pos b))

pub nat_abs-int : (s : Bool) (n : ℕ) → nat_abs (int s n) ≡ n
nat_abs-int false n = refl
nat_abs-int true zero = refl
nat_abs-int true (suc n) = refl
