-- What callers need of an operation, in place of its text: its value is a 32-bit number, the flags that it raises are among those
-- that it governs, and both are below 32.
-- Assumes nothing.
use Rattle.std.proofs.Common.{◌≡◌, ℕ, zero, suc, ◌+◌, ◌*◌, ◌/◌, ◌%◌, ◌^◌, ◌<◌, ◌≤◌, Bool, true, false, cond, ◌||◌, eqb, ltb, leb, ℤ, pos, negsuc, neg_ℤ, refl, div-le_self, arith, w32, of_z}
use native.Mathlib.Nat.{mod-le}
use lib.Bits.{bit_and, and_self, and_zero_l, and_le_r, and_lt, or_lt, xor_lt}
use lib.Signed.{mag, lt_z, le_z, quot_z, shr_z, mag_shr}
use mir.ValLaws.{to_z-Fits}
use Rattle.word.specs.declared.Op.{Op}
use Rattle.word.specs.declared.Op.TheVariants.{Add, Adc, Sub, Sbb, Mul, Udiv, Sdiv, Mod, And, Or, Xor, Nand, Lnand, Lsh, Ursh, Srsh, Ugt, Sgt, Eq}
use Rattle.word.specs.Word.{carry_of, borrow_of, signed, truth, when, sdiv_by, lsh_by, ursh_by, srsh_by, written_of}

-- the flags g, all written as 1 or all as 0
when_within : (t : Bool) (g : ℕ) → bit_and (when t g) g ≡ when t g
when_within true g = and_self g
when_within false g = and_zero_l g

sdiv_within : (t : Bool) (q : ℤ) (n : ℕ) → bit_and (sdiv_by t q n).raised (sdiv_by t q n).governed ≡ (sdiv_by t q n).raised
sdiv_within true q n = refl
sdiv_within false q n = go (le_z (pos (2 ^ 31)) q)
  where
    go : (t : Bool) → bit_and (when t 4) 20 ≡ when t 4
    go true = refl
    go false = refl

pub raised_within : (op : Op) (m l n flags : ℕ) → bit_and (written_of op m l n flags).raised (written_of op m l n flags).governed ≡ (written_of op m l n flags).raised
unfolding written_of
raised_within Add m l n flags = when_within (leb (2 ^ 32) (m + l)) 5
raised_within Adc m l n flags = when_within (leb (2 ^ 32) (m + l + carry_of flags)) 5
raised_within Sub m l n flags = when_within (ltb m l) 6
raised_within Sbb m l n flags = when_within (ltb m (l + borrow_of flags)) 6
raised_within Mul m l n flags = when_within (leb (2 ^ 32) (m * l)) 4
raised_within Udiv m l n flags = when_within (eqb l 0) 16
raised_within Sdiv m l n flags = sdiv_within (eqb l 0) (quot_z (signed m) (signed l)) n
raised_within Mod m l n flags = when_within (eqb l 0) 16
raised_within And m l n flags = refl
raised_within Or m l n flags = refl
raised_within Xor m l n flags = refl
raised_within Nand m l n flags = refl
raised_within Lnand m l n flags = refl
raised_within Lsh m l n flags = when_within (ltb 31 l) 4
raised_within Ursh m l n flags = when_within (ltb 31 l) 8
raised_within Srsh m l n flags = when_within (ltb 31 l) 8
raised_within Ugt m l n flags = refl
raised_within Sgt m l n flags = refl
raised_within Eq m l n flags = refl

sdiv_governed : (t : Bool) (q : ℤ) (n : ℕ) → (sdiv_by t q n).governed < 32
sdiv_governed true q n = omega arith
sdiv_governed false q n = omega arith

-- none of them is flag 128 or 256, which no instruction clears
pub governed_below : (op : Op) (m l n flags : ℕ) → (written_of op m l n flags).governed < 32
unfolding written_of
governed_below Add m l n flags = omega arith
governed_below Adc m l n flags = omega arith
governed_below Sub m l n flags = omega arith
governed_below Sbb m l n flags = omega arith
governed_below Mul m l n flags = omega arith
governed_below Udiv m l n flags = omega arith
governed_below Sdiv m l n flags = sdiv_governed (eqb l 0) (quot_z (signed m) (signed l)) n
governed_below Mod m l n flags = omega arith
governed_below And m l n flags = omega arith
governed_below Or m l n flags = omega arith
governed_below Xor m l n flags = omega arith
governed_below Nand m l n flags = omega arith
governed_below Lnand m l n flags = omega arith
governed_below Lsh m l n flags = omega arith
governed_below Ursh m l n flags = omega arith
governed_below Srsh m l n flags = omega arith
governed_below Ugt m l n flags = omega arith
governed_below Sgt m l n flags = omega arith
governed_below Eq m l n flags = omega arith

pub raised_below : (op : Op) (m l n flags : ℕ) → (written_of op m l n flags).raised < 32
raised_below op m l n flags = rw (← raised_within op m l n flags) (omega (arith, and_le_r (written_of op m l n flags).raised (written_of op m l n flags).governed, governed_below op m l n flags))

truth_below : (t : Bool) → truth t < 2 ^ 32
truth_below true = omega arith
truth_below false = omega arith

-- a quotient with n kept in the place of one by zero
kept_below : (t : Bool) (n q : ℕ) → n < 2 ^ 32 → q < 2 ^ 32 → cond t n q < 2 ^ 32
kept_below true n q hn hq = hn
kept_below false n q hn hq = hq

bits_below : (z : ℤ) → mag z < 2 ^ 32 → of_z w32 z < 2 ^ 32
bits_below (pos n) h = h
bits_below (negsuc n) h = omega arith

mag_neg : (q : ℕ) → mag (neg_ℤ (pos q)) ≤ q
mag_neg zero = omega arith
mag_neg (suc q) = omega arith

mag_quotient : (a b : ℤ) → mag (quot_z a b) ≤ suc (mag a)
mag_quotient (pos a) (pos b) = omega (arith, div-le_self a b)
mag_quotient (pos a) (negsuc b) = omega (arith, div-le_self a (suc b), mag_neg (a / suc b))
mag_quotient (negsuc a) (pos b) = omega (arith, div-le_self (suc a) b, mag_neg (suc a / b))
mag_quotient (negsuc a) (negsuc b) = omega (arith, div-le_self (suc a) (suc b))

module _ (m l n : ℕ) (m-fits : m < 2 ^ 32) (l-fits : l < 2 ^ 32) (n-fits : n < 2 ^ 32) where
  mag_m : mag (signed m) < 2 ^ 31
  mag_m = (to_z-Fits w32 m (record { fits = m-fits })).sfits

  sdiv_below : (t : Bool) → (sdiv_by t (quot_z (signed m) (signed l)) n).value < 2 ^ 32
  sdiv_below true = n-fits
  sdiv_below false = bits_below (quot_z (signed m) (signed l)) (omega (arith, mag_m, mag_quotient (signed m) (signed l)))

  lsh_below : (t : Bool) → lsh_by t m l < 2 ^ 32
  lsh_below true = omega arith
  lsh_below false = omega arith

  ursh_below : (t : Bool) → ursh_by t m l < 2 ^ 32
  ursh_below true = omega arith
  ursh_below false = omega (arith, div-le_self m (2 ^ l))

  srsh_below : (t : Bool) → srsh_by t m l < 2 ^ 32
  srsh_below true = kept_below (leb (2 ^ 31) m) 0xFFFFFFFF 0 (omega arith) (omega arith)
  srsh_below false = bits_below (shr_z (signed m) (2 ^ l)) (omega (arith, mag_m, mag_shr (signed m) (2 ^ l)))

  pub value_below : (op : Op) (flags : ℕ) → (written_of op m l n flags).value < 2 ^ 32
  unfolding written_of
  value_below Add flags = omega arith
  value_below Adc flags = omega arith
  value_below Sub flags = omega arith
  value_below Sbb flags = omega arith
  value_below Mul flags = omega arith
  value_below Udiv flags = kept_below (eqb l 0) n (m / l) n-fits (omega (arith, div-le_self m l))
  value_below Sdiv flags = sdiv_below (eqb l 0)
  value_below Mod flags = kept_below (eqb l 0) n (m % l) n-fits (omega (arith, mod-le m l))
  value_below And flags = and_lt 32 m l m-fits l-fits
  value_below Or flags = or_lt 32 m l m-fits l-fits
  value_below Xor flags = xor_lt 32 m l m-fits l-fits
  value_below Nand flags = omega arith
  value_below Lnand flags = truth_below (eqb m 0 || eqb l 0)
  value_below Lsh flags = lsh_below (ltb 31 l)
  value_below Ursh flags = ursh_below (ltb 31 l)
  value_below Srsh flags = srsh_below (ltb 31 l)
  value_below Ugt flags = truth_below (ltb l m)
  value_below Sgt flags = truth_below (lt_z (signed l) (signed m))
  value_below Eq flags = truth_below (eqb m l)
