-- ex keeps the value of every half, gives one NaN for all NaNs, and no other word is right: by the half's fields.
-- Assumes nothing.
use Rattle.std.proofs.Common.{◌≡◌, ℕ, zero, suc, ◌+◌, ◌-◌, ◌*◌, ◌/◌, ◌%◌, ◌^◌, ◌<◌, Bool, true, false, eqb, leb, ◌≢◌, sym, refl, ap, ◌∙◌, add-suc, mul_assoc, add_comm, mul_right_comm, arith, pow-add, eqb-true}
use native.Mathlib.Nat.{mul-mul-mul_comm}
use lib.Dec.{eqb-suc-zero}
use borrow.Author.Tests.{eqb-false}
use Rattle.binary.specs.Value.{Value, nan, infinity, finite, binary16, binary32, units, of_fields, value}
use Rattle.binary.proofs.Fields.{fields_read, fields_finite}
use Rattle.binary.proofs.Once.{value_once}
use Rattle.half.specs.Half.{up_of, single, least_of, most_of, single_of, ex_of}
use Rattle.half.specs.Kept.{Kept}
use Rattle.half.proofs.Bounds.{ex_below}
use Rattle.half.proofs.Up.{Up, up}

-- 13 more digits below the leading one, and 112 more in the exponent, are 125 places
units_normal : (e t : ℕ) → units binary32 (112 + suc e) (t * 2 ^ 13) ≡ units binary16 (suc e) t
unfolding units
units_normal e t =
    let digits : 2 ^ 23 + t * 2 ^ 13 ≡ (2 ^ 10 + t) * 2 ^ 13 = omega arith in
    rw (add-suc 112 e, digits, add_comm 112 e, pow-add 2 e 112) (mul-mul-mul_comm (2 ^ 10 + t) (2 ^ 13) (2 ^ e) (2 ^ 112))

-- a fraction moved up and its exponent lowered by as much
units_moved : (t : ℕ) → Up t → units binary32 (113 - up_of t) (t * 2 ^ up_of t % 2 ^ 10 * 2 ^ 13) ≡ units binary16 0 t
unfolding units
units_moved t u =
    let k = up_of t in
    let lowered : 113 - k ≡ suc (112 - k) = omega (arith, u.most) in
    let digits : 2 ^ 23 + t * 2 ^ k % 2 ^ 10 * 2 ^ 13 ≡ t * 2 ^ k * 2 ^ 13 = omega (arith, u.above, u.below) in
    let places : k + (112 - k) ≡ 112 = omega (arith, u.most) in
    rw (lowered, digits, mul_right_comm (t * 2 ^ k) (2 ^ 13) (2 ^ (112 - k)), mul_assoc t (2 ^ k) (2 ^ (112 - k)), ← pow-add 2 k (112 - k), places) (mul_assoc t (2 ^ 112) (2 ^ 13))

-- finite fields of either format, as many units in both
finite_kept : (s : ℕ) (e t : ℕ) (e' t' : ℕ) → suc e < 2 ^ 8 → t < 2 ^ 23 → suc e' < 2 ^ 5 → units binary32 e t ≡ units binary16 e' t'
    → value binary32 (single s e t) ≡ of_fields binary16 (leb 1 s) e' t'
finite_kept s e t e' t' E T E' same =
    fields_read binary32 s e t (omega (arith, E)) T
    ∙ fields_finite binary32 (leb 1 s) e t E
    ∙ ap (finite (leb 1 s)) same
    ∙ sym (fields_finite binary16 (leb 1 s) e' t' E')

-- an exponent of ones: infinity keeps its sign, and the one NaN is a NaN
most_kept : (s t : ℕ) → value binary32 (most_of s t) ≡ of_fields binary16 (leb 1 s) 31 t
unfolding value of_fields
most_kept s t = tested (eqb t 0) refl
  where
    tested : (none : Bool) → eqb t 0 ≡ none → value binary32 (most_of s t) ≡ of_fields binary16 (leb 1 s) 31 t
    tested true q = rw q (fields_read binary32 s 255 0 (omega arith) (omega arith))
    tested false q = rw q

-- an exponent of 0: zero keeps its sign, and a subnormal is moved up
least_kept : (s t : ℕ) → t < 2 ^ 10 → value binary32 (least_of s t) ≡ of_fields binary16 (leb 1 s) 0 t
least_kept s t T = tested (eqb t 0) refl
  where
    tested : (none : Bool) → eqb t 0 ≡ none → value binary32 (least_of s t) ≡ of_fields binary16 (leb 1 s) 0 t
    tested true q = rw (eqb-true t 0 q) (finite_kept s 0 0 0 0 (omega arith) (omega arith) (omega arith) (unfold units in refl))
    tested false q =
        let u : Up t = up t (omega (arith, eqb-false t 0 q)) T in
        rw q (finite_kept s (113 - up_of t) (t * 2 ^ up_of t % 2 ^ 10 * 2 ^ 13) 0 t (omega (arith, u.most)) (omega arith) (omega arith) (units_moved t u))

fields_kept : (s e t : ℕ) → e < 2 ^ 5 → t < 2 ^ 10 → value binary32 (single_of s e t) ≡ of_fields binary16 (leb 1 s) e t
fields_kept s zero t E T = least_kept s t T
fields_kept s (suc e) t E T = tested (eqb (suc e) 31) refl
  where
    tested : (ones : Bool) → eqb (suc e) 31 ≡ ones → value binary32 (single_of s (suc e) t) ≡ of_fields binary16 (leb 1 s) (suc e) t
    tested true q = rw (eqb-true (suc e) 31 q) (most_kept s t)
    tested false q =
        let below : suc (suc e) < 2 ^ 5 = omega (arith, E, eqb-false (suc e) 31 q) in
        rw (q, eqb-suc-zero e) (finite_kept s (112 + suc e) (t * 2 ^ 13) (suc e) t (omega (arith, below)) (omega (arith, T)) below (units_normal e t))

fields_nan : (s e t : ℕ) → of_fields binary16 (leb 1 s) e t ≡ nan → single_of s e t ≡ 0x7FC00000
unfolding of_fields
fields_nan s e t n = tested (eqb e 31) refl (eqb t 0) refl
  where
    tested : (ones : Bool) → eqb e 31 ≡ ones → (none : Bool) → eqb t 0 ≡ none → single_of s e t ≡ 0x7FC00000
    tested true p true q = let clash : infinity (leb 1 s) ≡ nan = rw (← n, p, q) in cc
    tested true p false q = rw (p, q)
    tested false p none q = let clash : finite (leb 1 s) (units binary16 e t) ≡ nan = rw (← n, p) in cc

-- what document 02 asks of ex, for every half
pub keeps : (x : ℕ) → Kept x (ex_of x)
unfolding ex_of
keeps x =
    let s = x / 2 ^ 15 in
    let e = x / 2 ^ 10 % 2 ^ 5 in
    let t = x % 2 ^ 10 in
    let whole : x ≡ s * 2 ^ 15 + e * 2 ^ 10 + t = omega arith in
    let read : value binary16 x ≡ of_fields binary16 (leb 1 s) e t = ap (value binary16) whole ∙ fields_read binary16 s e t (omega arith) (omega arith) in
    record {
      same = fields_kept s e t (omega arith) (omega arith) ∙ sym read;
      one = λ q. fields_nan s e t (sym read ∙ q);
    }

-- and nothing else has it
pub kept_once : (x r : ℕ) → x < 2 ^ 16 → r < 2 ^ 32 → Kept x r → r ≡ ex_of x
kept_once x r h l k = told (value binary16 x) refl
  where
    other : value binary32 r ≢ nan → r ≡ ex_of x
    other = value_once r (ex_of x) l (ex_below x h) (k.same ∙ sym (keeps x).same)

    told : (v : Value) → value binary16 x ≡ v → r ≡ ex_of x
    told nan q = k.one q ∙ sym ((keeps x).one q)
    told (infinity s) q = other (λ n. let z : ◌≡◌ {A = ℕ} 0 1 = cc (q, k.same, n) in omega arith)
    told (finite s a) q = other (λ n. let z : ◌≡◌ {A = ℕ} 0 1 = cc (q, k.same, n) in omega arith)
