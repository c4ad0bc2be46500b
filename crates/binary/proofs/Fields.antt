-- A pattern put together from its fields stands for what they stand for.
-- Assumes nothing.
use Prim.Native.Nat.{ℕ, zero, suc, ◌+◌, ◌-◌, ◌*◌, ◌%◌, ◌^◌, ◌<◌}
use mathlib.Core.Bool.{Bool}
use mathlib.Core.Path.{◌≡◌, sym, ap, ◌∙◌}
use native.Mathlib.Omega.{arith}
use native.Mathlib.Nat.{add_assoc, suc-mul, mul-le-mul_right}
use lib.Dec.{leb}
use lib.Pow.{pow-add, high, low, mod-mod-pow}
use borrow.Author.Tests.{le-leb, lt-leb, ne_eqb}
use Rattle.binary.specs.Value.{Format, finite, units, of_fields, value}

-- a sign is above all that stands below it
sign_read : (s k r : ℕ) → r < k → leb k (s * k + r) ≡ leb 1 s
sign_read zero k r l = lt-leb k (0 * k + r) (omega (arith, l))
sign_read (suc s) k r l = le-leb k (suc s * k + r) (omega (arith, suc-mul s k)) ∙ sym (le-leb 1 (suc s) (omega arith))

pub fields_read : (f : Format) (s e t : ℕ) → e < 2 ^ f.exponent → t < 2 ^ f.fraction
    → value f (s * 2 ^ (f.exponent + f.fraction) + e * 2 ^ f.fraction + t) ≡ of_fields f (leb 1 s) e t
unfolding value
fields_read f s e t E T =
    let w = f.exponent in
    let p = f.fraction in
    let r = e * 2 ^ p + t in
    let within : r < 2 ^ (w + p) = omega (arith, T, mul-le-mul_right (2 ^ p) E, suc-mul e (2 ^ p), pow-add 2 w p) in
    let rest : (s * 2 ^ (w + p) + r) % 2 ^ (w + p) ≡ r = low s (w + p) within in
    let fraction : (s * 2 ^ (w + p) + r) % 2 ^ p ≡ t = sym (mod-mod-pow (s * 2 ^ (w + p) + r) w p) ∙ ap (λ (x : ℕ). x % 2 ^ p) rest ∙ low e p T in
    rw (add_assoc (s * 2 ^ (w + p)) (e * 2 ^ p) t, sign_read s (2 ^ (w + p)) r within, rest, high e p T, fraction)

pub fields_finite : (f : Format) (s : Bool) (e t : ℕ) → suc e < 2 ^ f.exponent → of_fields f s e t ≡ finite s (units f e t)
unfolding of_fields
fields_finite f s e t h = rw (ne_eqb e (2 ^ f.exponent - 1) (λ q. omega (arith, h, q)))
