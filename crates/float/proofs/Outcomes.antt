-- What an outcome is by whether its float is a NaN, by whether an operand is one, and which flag an infinite one raises.
-- Assumes nothing.
use Prim.Native.Nat.{ℕ}
use mathlib.Core.Bool.{Bool, true, false, not, ◌&&◌, ◌||◌}
use mathlib.Core.Path.{◌≡◌, refl, sym, subst}
use lib.Dec.{T}
use lib.Ieee as Ieee
use lib.Ieee.{Float}
use Rattle.binary.specs.Value.{Value, nan, infinity, finite, binary32, value}
use Rattle.word.specs.Word.{overflow, when}
use Rattle.float.specs.Arithmetic.{Answer, float, by_zero, invalid, plus, negated, times, over, sum, difference, product, quotient, flags_of, is_finite}
use Rattle.float.specs.Compare.{is_nan}
use Rattle.float.specs.Meaning.{told, meaning, Real, Means}
use Rattle.float.specs.declared.result.Outcome.TheVariants as Outcome
use Rattle.float.proofs.Read.{nan_is}

-- ---- a float that is a NaN, and one that is none

pub told_of_nan : (x : Float) → Ieee.is_nan x ≡ true → invalid ≡ told x
unfolding told Ieee.is_nan
told_of_nan Ieee.nan h = refl
told_of_nan (Ieee.inf s) h = absurd (subst T (sym h) tt)
told_of_nan (Ieee.fin s m e) h = absurd (subst T (sym h) tt)

pub told_of_value : (x : Float) → Ieee.is_nan x ≡ false → told x ≡ float (Ieee.to_bits Ieee.binary32 x)
unfolding told Ieee.is_nan
told_of_value Ieee.nan h = absurd (subst T h tt)
told_of_value (Ieee.inf s) h = refl
told_of_value (Ieee.fin s m e) h = refl

no_nan : (x : Float) → Ieee.is_nan x ≡ false → T (not (Ieee.is_nan x))
no_nan x h = subst (λ (b : Bool). T (not b)) (sym h) tt

pub means_invalid : {r : Answer} → invalid ≡ r → Means Outcome.Invalid r
unfolding Real meaning
means_invalid e = record { real = tt; is = e }

pub means_value : (x : Float) → Ieee.is_nan x ≡ false → Means (Outcome.Value x) (told x)
unfolding Real meaning
means_value x h = record { real = no_nan x h; is = sym (told_of_value x h) }

pub means_by_zero : (x : Float) {r : Answer} → Ieee.is_nan x ≡ false → by_zero (Ieee.to_bits Ieee.binary32 x) ≡ r → Means (Outcome.ByZero x) r
unfolding Real meaning
means_by_zero x h e = record { real = no_nan x h; is = e }

-- ---- the flags of a float, by whether operands and result are finite

pub flags_float : (x y b : ℕ) {p q r : Bool} → is_finite (value binary32 x) ≡ p → is_finite (value binary32 y) ≡ q → is_finite (value binary32 b) ≡ r
    → when (p && q && not r) overflow ≡ flags_of x y (float b)
unfolding flags_of
flags_float x y b e f g = cc

-- ---- operands, by the test of both

-- no NaN's pattern is made a float
pub neither : (x y : ℕ) → (is_nan (value binary32 x) || is_nan (value binary32 y)) ≡ false
    → T (not (Ieee.nan_bits Ieee.binary32 x)) × T (not (Ieee.nan_bits Ieee.binary32 y))
neither x y h = go (is_nan (value binary32 x)) (is_nan (value binary32 y)) (nan_is x) (nan_is y) h
  where
    go : (a b : Bool) → a ≡ Ieee.nan_bits Ieee.binary32 x → b ≡ Ieee.nan_bits Ieee.binary32 y → (a || b) ≡ false
        → T (not (Ieee.nan_bits Ieee.binary32 x)) × T (not (Ieee.nan_bits Ieee.binary32 y))
    go true b p q h = absurd (subst T h tt)
    go false true p q h = absurd (subst T h tt)
    go false false p q h = (subst (λ (t : Bool). T (not t)) p tt, subst (λ (t : Bool). T (not t)) q tt)

-- what gives one answer with a NaN on either side gives it where the test of both holds
pub nan_in : {A : Type 0} (r : A) (f : Value → Value → A) → ((w : Value) → f nan w ≡ r) → ((v : Value) → f v nan ≡ r) → (v w : Value)
    → (is_nan v || is_nan w) ≡ true → r ≡ f v w
unfolding is_nan
nan_in r f left right nan w h = sym (left w)
nan_in r f left right (infinity s) nan h = sym (right (infinity s))
nan_in r f left right (finite s a) nan h = sym (right (finite s a))
nan_in r f left right (infinity s) (infinity t) h = absurd (subst T (sym h) tt)
nan_in r f left right (infinity s) (finite t b) h = absurd (subst T (sym h) tt)
nan_in r f left right (finite s a) (infinity t) h = absurd (subst T (sym h) tt)
nan_in r f left right (finite s a) (finite t b) h = absurd (subst T (sym h) tt)

plus_nan : (v : Value) → plus v nan ≡ invalid
unfolding plus
plus_nan nan = refl
plus_nan (infinity s) = refl
plus_nan (finite s a) = refl

times_nan : (v : Value) → times v nan ≡ invalid
unfolding times
times_nan nan = refl
times_nan (infinity s) = refl
times_nan (finite s a) = refl

over_nan : (v : Value) → over v nan ≡ invalid
unfolding over
over_nan nan = refl
over_nan (infinity s) = refl
over_nan (finite s a) = refl

abbrev NanIn : (ℕ → ℕ → Answer) → Type 0
NanIn f = (x y : ℕ) → (is_nan (value binary32 x) || is_nan (value binary32 y)) ≡ true → invalid ≡ f x y

pub sum_nan : NanIn sum
unfolding sum
sum_nan x y = nan_in invalid plus (λ w. refl) plus_nan (value binary32 x) (value binary32 y)

pub difference_nan : NanIn difference
unfolding difference
difference_nan x y = nan_in invalid (λ v w. plus v (negated w)) (λ w. refl) plus_nan (value binary32 x) (value binary32 y)

pub product_nan : NanIn product
unfolding product
product_nan x y = nan_in invalid times (λ w. refl) times_nan (value binary32 x) (value binary32 y)

pub quotient_nan : NanIn quotient
unfolding quotient
quotient_nan x y = nan_in invalid over (λ w. refl) over_nan (value binary32 x) (value binary32 y)
