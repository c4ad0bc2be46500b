-- Two patterns of binary32 that stand for one value, and that not NaN, are the same.
-- Assumes nothing.
use Prim.Native.Nat.{ℕ, zero, suc, ◌+◌, ◌*◌, ◌/◌, ◌%◌, ◌^◌, ◌≤◌, ◌<◌}
use mathlib.Core.Bool.{Bool, true, false, cond}
use mathlib.Core.Path.{◌≡◌, refl, sym, ap, ◌∙◌}
use mathlib.Core.Logic.{◌≢◌}
use native.Mathlib.Omega.{arith}
use native.Mathlib.Nat.{mul-le-mul_left, mul-le-mul_right, mul-lt-mul_of_pos_right, eq_of_mul-eq-mul_right, pow-suc}
use lib.Dec.{leb, eqb}
use lib.Pow.{pow_mono, pow_pos}
use borrow.Author.Tests.{eqb-true, leb-true, leb-false}
use Rattle.binary.specs.Value.{Value, nan, infinity, finite, binary32, units, of_fields, value}

-- a greater exponent has more units, whatever the fractions
units_lt : (e t d u : ℕ) → t < 2 ^ 23 → e < d → units binary32 e t < units binary32 d u
unfolding units
units_lt e t zero u T l = absurd (omega (arith, l))
units_lt zero t (suc d) u T l = omega (arith, T, mul-le-mul_left (2 ^ 23 + u) (pow_pos d))
units_lt (suc e) t (suc d) u T l =
    let twice : 2 ^ suc e ≤ 2 ^ d = pow_mono (omega (arith, l)) in
    let full : (2 ^ 23 + t) * 2 ^ e < 2 ^ 24 * 2 ^ e = mul-lt-mul_of_pos_right (omega (arith, T)) (pow_pos e) in
    let least : 2 ^ 23 * 2 ^ d ≤ (2 ^ 23 + u) * 2 ^ d = mul-le-mul_right (2 ^ d) (omega arith) in
    omega (arith, twice, full, least, pow-suc 2 e)

exponents : (e t d u : ℕ) → t < 2 ^ 23 → u < 2 ^ 23 → units binary32 e t ≡ units binary32 d u → e ≡ d
exponents e t d u T U q =
    let above : e < d → ⊥ = λ l. omega (arith, units_lt e t d u T l, q) in
    let below : d < e → ⊥ = λ l. omega (arith, units_lt d u e t U l, q) in
    omega (arith, above, below)

fractions : (e t u : ℕ) → units binary32 e t ≡ units binary32 e u → t ≡ u
unfolding units
fractions zero t u q = q
fractions (suc e) t u q = omega (arith, eq_of_mul-eq-mul_right (2 ^ e) (pow_pos e) (2 ^ 23 + t) (2 ^ 23 + u) q)

record Same (s : Bool) (e t : ℕ) (z : Bool) (d u : ℕ) : Type 0 where
  sign : s ≡ z
  exponent : e ≡ d
  fraction : t ≡ u

apart : {s z : Bool} {a : ℕ} → infinity s ≡ finite z a → ⊥
apart q = let z : ◌≡◌ {A = ℕ} 0 1 = cc in omega arith

-- `of_fields`, by what its two tests say
abbrev read : Bool → Bool → Bool → ℕ → ℕ → Value
read s ones none e t = cond ones (cond none (infinity s) nan) (finite s (units binary32 e t))

fields_once : (s z : Bool) (e t d u : ℕ) → t < 2 ^ 23 → u < 2 ^ 23
    → of_fields binary32 s e t ≡ of_fields binary32 z d u → of_fields binary32 s e t ≢ nan → Same s e t z d u
unfolding of_fields
fields_once s z e t d u T U = tested (eqb e 255) refl (eqb t 0) refl (eqb d 255) refl (eqb u 0) refl
  where
    tested : (o : Bool) → eqb e 255 ≡ o → (n : Bool) → eqb t 0 ≡ n → (p : Bool) → eqb d 255 ≡ p → (m : Bool) → eqb u 0 ≡ m
        → read s o n e t ≡ read z p m d u → read s o n e t ≢ nan → Same s e t z d u
    tested true E true N true D true M q real =
        record { sign = cc; exponent = eqb-true e 255 E ∙ sym (eqb-true d 255 D); fraction = eqb-true t 0 N ∙ sym (eqb-true u 0 M) }
    tested true E true N true D false M q real = absurd (real q)
    tested true E true N false D m M q real = absurd (apart q)
    tested true E false N p D m M q real = absurd (real refl)
    tested false E n N true D true M q real = absurd (apart (sym q))
    tested false E n N true D false M q real = absurd (real q)
    tested false E n N false D m M q real =
        let units-same : units binary32 e t ≡ units binary32 d u = cc in
        let same : e ≡ d = exponents e t d u T U units-same in
        record { sign = cc; exponent = same; fraction = fractions e t u (units-same ∙ ap (λ (x : ℕ). units binary32 x u) (sym same)) }

below_sign : (b c : ℕ) → b % 2 ^ 31 / 2 ^ 23 ≡ c % 2 ^ 31 / 2 ^ 23 → b % 2 ^ 23 ≡ c % 2 ^ 23 → b % 2 ^ 31 ≡ c % 2 ^ 31
below_sign b c e t = omega (arith, e, t)

pub value_once : (b c : ℕ) → b < 2 ^ 32 → c < 2 ^ 32 → value binary32 b ≡ value binary32 c → value binary32 b ≢ nan → b ≡ c
unfolding value
value_once b c B C q real =
    go (leb (2 ^ 31) b) refl (leb (2 ^ 31) c) refl
    (fields_once (leb (2 ^ 31) b) (leb (2 ^ 31) c) (b % 2 ^ 31 / 2 ^ 23) (b % 2 ^ 23) (c % 2 ^ 31 / 2 ^ 23) (c % 2 ^ 23) (omega arith) (omega arith) q real)
  where
    go : (s : Bool) → leb (2 ^ 31) b ≡ s → (z : Bool) → leb (2 ^ 31) c ≡ z
        → Same s (b % 2 ^ 31 / 2 ^ 23) (b % 2 ^ 23) z (c % 2 ^ 31 / 2 ^ 23) (c % 2 ^ 23) → b ≡ c
    go true S true Z f = omega (arith, leb-true (2 ^ 31) b S, leb-true (2 ^ 31) c Z, below_sign b c f.exponent f.fraction)
    go false S false Z f = omega (arith, leb-false (2 ^ 31) b S, leb-false (2 ^ 31) c Z, below_sign b c f.exponent f.fraction)
    go true S false Z f = cc
    go false S true Z f = cc
