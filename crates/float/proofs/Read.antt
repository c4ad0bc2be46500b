-- What a pattern is read as, by the definition and by the logic's account of IEEE 754, and what the tests of the code say of it.
-- Assumes nothing.
use Prim.Native.Nat.{ℕ, zero, suc, ◌+◌, ◌*◌, ◌/◌, ◌%◌, ◌^◌, ◌<◌}
use mathlib.Core.Bool.{Bool, true, false, not, ◌&&◌, cond}
use mathlib.Core.Path.{◌≡◌, refl, sym, ap, ◌∙◌}
use native.Mathlib.Nat.{mul-one, mul-pos}
use native.Mathlib.Omega.{arith}
use lib.Dec.{leb, eqb, eqb-suc-zero}
use lib.Ieee as Ieee
use lib.Ieee.{Float, up, down, odd}
use lib.Ieee.Exact.{HasValue, odd_sign}
use lib.IntN.{ℤ}
use lib.Pow.{pow_pos}
use borrow.Author.Tests.{eqb-true, eqb-false, eq-eqb, ne_eqb}
use Rattle.binary.specs.Value.{Value, nan, infinity, finite, binary32, units, of_fields, value}
use Rattle.float.specs.Arithmetic.{is_finite}
use Rattle.float.specs.Compare.{is_nan}
use Rattle.float.specs.Meaning.{is_zero}

-- x is what v says
pub data Same : Value → Float → Type 0 where
  same_nan : Same nan Ieee.nan
  same_infinity : (s : Bool) → Same (infinity s) (Ieee.inf s)
  same_finite : (s : Bool) (a m : ℕ) (e : ℤ) → m * up e * 2 ^ 149 ≡ a * down e → Same (finite s a) (Ieee.fin s m e)

of_value : (x : Float) (s : Bool) (a : ℕ) → HasValue x s a (2 ^ 149) → Same (finite s a) x
of_value Ieee.nan s a h = absurd h
of_value (Ieee.inf t) s a h = absurd h
of_value (Ieee.fin t m e) s a h = rw h.0 (same_finite s a m e h.1)

fields_same : (s : Bool) (e t : ℕ) → Same (of_fields binary32 s e t) (Ieee.of_fields Ieee.binary32 s e t)
unfolding of_fields Ieee.of_fields
fields_same s zero t = of_value (odd 24 s t 0 149) s t (rw mul-one at (odd_sign 24 s t 0 149))
fields_same s (suc e) t = go (eqb (suc e) 255) (eqb t 0)
  where
    go : (a b : Bool) → Same (cond a (cond b (infinity s) nan) (finite s ((2 ^ 23 + t) * 2 ^ e))) (cond a (cond b (Ieee.inf s) Ieee.nan) (odd 24 s (2 ^ 23 + t) e 149))
    go true true = same_infinity s
    go true false = same_nan
    go false b = of_value (odd 24 s (2 ^ 23 + t) e 149) s ((2 ^ 23 + t) * 2 ^ e) (odd_sign 24 s (2 ^ 23 + t) e 149)

pub read : (b : ℕ) → Same (value binary32 b) (Ieee.of_bits Ieee.binary32 b)
unfolding value Ieee.of_bits
read b = fields_same (leb (2 ^ 31) b) (b % 2 ^ 31 / 2 ^ 23) (b % 2 ^ 23)

-- ---- a NaN has an exponent of ones and a fraction that is not 0

nan_fields : (s : Bool) (e t : ℕ) → is_nan (of_fields binary32 s e t) ≡ (eqb e 255 && not (eqb t 0))
unfolding is_nan of_fields
nan_fields s e t = go (eqb e 255) (eqb t 0)
  where
    go : (a b : Bool) → is_nan (cond a (cond b (infinity s) nan) (finite s (units binary32 e t))) ≡ (a && not b)
    go true true = refl
    go true false = refl
    go false b = refl

pub nan_is : (x : ℕ) → is_nan (value binary32 x) ≡ Ieee.nan_bits Ieee.binary32 x
unfolding value Ieee.nan_bits
nan_is x = nan_fields (leb (2 ^ 31) x) (x % 2 ^ 31 / 2 ^ 23) (x % 2 ^ 23)

-- ---- what is finite has another exponent

finite_fields : (s : Bool) (e t : ℕ) → is_finite (of_fields binary32 s e t) ≡ not (eqb e 255)
unfolding is_finite of_fields
finite_fields s e t = go (eqb e 255) (eqb t 0)
  where
    go : (a b : Bool) → is_finite (cond a (cond b (infinity s) nan) (finite s (units binary32 e t))) ≡ not a
    go true true = refl
    go true false = refl
    go false b = refl

pub finite_is : (x : ℕ) → is_finite (value binary32 x) ≡ not (eqb (x % 2 ^ 31 / 2 ^ 23) 255)
unfolding value
finite_is x = finite_fields (leb (2 ^ 31) x) (x % 2 ^ 31 / 2 ^ 23) (x % 2 ^ 23)

-- ---- a zero has neither

some : (e t : ℕ) → 0 < (2 ^ 23 + t) * 2 ^ e
some e t = mul-pos (omega arith) (pow_pos e)

zero_fields : (s : Bool) (e t : ℕ) → is_zero (of_fields binary32 s e t) ≡ (eqb e 0 && eqb t 0)
unfolding is_zero of_fields
zero_fields s zero t = refl
zero_fields s (suc e) t = go (eqb (suc e) 255) (eqb t 0) ∙ ap (λ (c : Bool). c && eqb t 0) (sym (eqb-suc-zero e))
  where
    go : (a b : Bool) → is_zero (cond a (cond b (infinity s) nan) (finite s ((2 ^ 23 + t) * 2 ^ e))) ≡ false
    go true true = refl
    go true false = refl
    go false b = ne_eqb ((2 ^ 23 + t) * 2 ^ e) 0 (λ q. omega (arith, q, some e t))

pub zero_is : (x : ℕ) → is_zero (value binary32 x) ≡ eqb (x % 2 ^ 31) 0
unfolding value
zero_is x = zero_fields (leb (2 ^ 31) x) e t ∙ tested (eqb e 0) refl (eqb t 0) refl
  where
    e : ℕ
    e = x % 2 ^ 31 / 2 ^ 23

    t : ℕ
    t = x % 2 ^ 23

    tested : (a : Bool) → eqb e 0 ≡ a → (b : Bool) → eqb t 0 ≡ b → (a && b) ≡ eqb (x % 2 ^ 31) 0
    tested true p true q = sym (eq-eqb (x % 2 ^ 31) 0 (omega (arith, eqb-true e 0 p, eqb-true t 0 q)))
    tested true p false q = sym (ne_eqb (x % 2 ^ 31) 0 (λ h. omega (arith, h, eqb-false t 0 q)))
    tested false p b q = sym (ne_eqb (x % 2 ^ 31) 0 (λ h. omega (arith, h, eqb-false e 0 p)))
