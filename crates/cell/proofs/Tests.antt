-- Laws of tests: what a computed count says of every number below a bound, the two halves of a conjunction, a number that is
-- none of a list, and answers that are apart.
use mathlib.Core.Path.{◌≡◌, refl}
use mathlib.Core.Bool.{Bool, true, false, cond, not, ◌&&◌, ◌||◌}
use mathlib.Core.List.{List, [], ◌∷◌}
use lib.Dec.{eqb}
use mathlib.Core.Logic.{⊎_elim}
use Prim.Native.Nat.{ℕ, zero, suc, ◌+◌, ◌<◌}
use native.Mathlib.Nat.{eq-or-lt_of_le, le_of_suc-le-suc}
use native.Mathlib.Omega.{arith}
use borrow.Author.Tests.{not-false, ne_eqb}

-- how many of the numbers below n pass the test f
abbrev pub count : (ℕ → Bool) → ℕ → ℕ
count f zero = 0
count f (suc n) = cond (f n) 1 0 + count f n

fails_at : (f : ℕ → Bool) (n : ℕ) → count f (suc n) ≡ 0 → f n ≡ false
fails_at f n e = tested (f n) e
  where
    tested : (b : Bool) → cond b 1 0 + count f n ≡ 0 → b ≡ false
    tested true e = absurd (omega arith)
    tested false e = refl

-- a test that no number below n passes fails at each of them
pub none_passes : (f : ℕ → Bool) (n : ℕ) → count f n ≡ 0 → (x : ℕ) → x < n → f x ≡ false
none_passes f zero e x h = absurd (omega arith)
none_passes f (suc n) e x h =
    ⊎_elim (λ (q : x ≡ n). rw q (fails_at f n e)) (λ (q : x < n). none_passes f n (omega arith) x q)
    (eq-or-lt_of_le (le_of_suc-le-suc h))

-- and one that no number below n fails holds at each
pub everywhere : (f : ℕ → Bool) (n : ℕ) → count (λ (x : ℕ). not (f x)) n ≡ 0 → (x : ℕ) → x < n → f x ≡ true
everywhere f n e x h = not-false (f x) (none_passes (λ (y : ℕ). not (f y)) n e x h)

-- 0 is not 1
pub never : {P : Type 0} → ◌≡◌ {A = ℕ} 0 1 → P
never z = absurd (omega arith)

pub both_left : (a b : Bool) → a && b ≡ true → a ≡ true
both_left true b e = refl
both_left false b e = e

pub both_right : (a b : Bool) → a && b ≡ true → b ≡ true
both_right true b e = e
both_right false b e = never (cc)

-- a number that is none of a list
abbrev pub NoneOf : List ℕ → ℕ → Type 0
NoneOf [] x = Unit
NoneOf (k ∷ ks) x = NoneOf ks x × (x ≡ k → ⊥)

abbrev pub listed : List ℕ → ℕ → Bool
listed [] x = false
listed (k ∷ ks) x = listed ks x || eqb x k

pub not_listed : (ks : List ℕ) (x : ℕ) → NoneOf ks x → listed ks x ≡ false
not_listed [] x n = refl
not_listed (k ∷ ks) x n = rw (not_listed ks x n.0, ne_eqb x k n.1)
