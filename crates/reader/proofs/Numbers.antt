-- Reading a decimal number: byte by byte as the code goes, what it answers for printed digits, and that what it answers was printed.
use mathlib.Core.Path.{◌≡◌, refl, sym, ap, ◌∙◌}
use mathlib.Core.Bool.{Bool, true, false, cond, ◌&&◌}
use mathlib.Core.List.{List, [], ◌∷◌, ◌++◌, append_assoc}
use mathlib.Core.Logic.{⊎_elim}
use Prim.Native.Nat.{ℕ, zero, suc, ◌+◌, ◌*◌, ◌-◌, ◌/◌, ◌%◌, ◌^◌, ◌<◌, ◌≤◌}
use native.Mathlib.Nat.{pow-succ'}
use native.Mathlib.Numerals.{add-one}
use native.Mathlib.Omega.{arith}
use borrow.Author.Tests.{leb-true, le-leb, ltb-true, lt-ltb}
use lib.Dec.{leb, ltb, lit<}
use lib.ListN.{length, get_or, drop, drop_of_length-le}
use lib.Seq.{drop-cons, drop-append_seam}
use Rattle.std.specs.List.{between}
use Rattle.std.proofs.lemmas.Slice.{between_to_end}
use Rattle.cell.proofs.Tests.{never, both_left, both_right}
use Rattle.text.specs.Text.{decimal}
use Rattle.reader.specs.Reading.{taken, missing, digit, grows, at_most, run_onward, numeral_of, field_of}
use Rattle.mnemonic.specs.Inner.{begins}
use Rattle.mnemonic.proofs.Pieces.{begins_split, begins_append}
use Rattle.text.proofs.Decimal.{below_ten, decimal_small, decimal_large, decimal_next}

pub digit_means : (b : ℕ) → digit b ≡ true → (48 ≤ b) × (b ≤ 57)
digit_means b e = (leb-true 48 b (both_left (leb 48 b) (leb b 57) e), leb-true b 57 (both_right (leb 48 b) (leb b 57) e))

pub grows_means : (limit v b : ℕ) → grows limit v b ≡ true → (48 ≤ b) × (b ≤ 57) × (0 < v) × (v ≤ limit)
grows_means limit v b e =
    let d : digit b && ltb 0 v ≡ true = both_left (digit b && ltb 0 v) (leb v limit) e in
    let m : (48 ≤ b) × (b ≤ 57) = digit_means b (both_left (digit b) (ltb 0 v) d) in
    (m.0, m.1, ltb-true 0 v (both_right (digit b) (ltb 0 v) d), leb-true v limit (both_right (digit b && ltb 0 v) (leb v limit) e))

-- at a place of the text after a number's first digit
module _ (limit : ℕ) (s : List ℕ) (v i : ℕ) where
  pub run_end : length s ≤ i → run_onward limit v (drop i s) ≡ at_most limit v []
  unfolding run_onward
  run_end h = rw (drop_of_length-le s h)

  module _ (h : i < length s) where
    pub run_stop : grows limit v (get_or s i 0) ≡ false → run_onward limit v (drop i s) ≡ at_most limit v (between i (length s) s)
    unfolding run_onward
    run_stop e = rw (between_to_end s i (length s) (omega arith), drop-cons s i 0 h, e)

    pub run_step : grows limit v (get_or s i 0) ≡ true → run_onward limit v (drop i s) ≡ run_onward limit (10 * v + (get_or s i 0 - 48)) (drop (i + 1) s)
    unfolding run_onward
    run_step e = rw (add-one i, drop-cons s i 0 h, e)

-- a step of the code, and what keeps the value in its type
pub ruleset steps = (run_end, run_stop, run_step, grows_means)

-- the digits of v and the text s are those of w, which is within the limit, and the text t
pub record Run (limit v : ℕ) (s : List ℕ) (w : ℕ) (t : List ℕ) : Type 0 where
  pub text : decimal v ++ s ≡ decimal w ++ t
  pub grown : v ≤ w
  pub small : w ≤ limit

-- what is read was printed
module _ (limit : ℕ) (bound : limit < 2 ^ 32) where
  run_stopped : (v : ℕ) (s : List ℕ) {w : ℕ} {t : List ℕ} (b : Bool) → leb v limit ≡ b → cond b (taken v s) missing ≡ taken w t → Run limit v s w t
  run_stopped v s {w} {t} true e r =
      let q : v ≡ w = cc in
      let p : s ≡ t = cc in
      let h : v ≤ limit = leb-true v limit e in
      record { text = rw (q, p); grown = omega arith; small = omega arith }
  run_stopped v s false e r = never (cc)

  run_grown : (v b : ℕ) (s : List ℕ) {w : ℕ} {t : List ℕ} → grows limit v b ≡ true → Run limit (10 * v + (b - 48)) s w t → Run limit v (b ∷ s) w t
  run_grown v b s {w} {t} g r =
      let m : (48 ≤ b) × (b ≤ 57) × (0 < v) × (v ≤ limit) = grows_means limit v b g in
      let d : decimal (10 * v + (b - 48)) ≡ decimal v ++ ((48 + (b - 48)) ∷ []) = decimal_next v (b - 48) m.2 (omega arith) (omega arith) in
      let e : 48 + (b - 48) ≡ b = omega arith in
      record {
        text = sym (rw (d, e, append_assoc (decimal v) (b ∷ []) s) refl) ∙ r.text;
        grown = omega arith;
        small = r.small;
      }

  run_tested : (v b : ℕ) (s : List ℕ) {w : ℕ} {t : List ℕ} (g : Bool) → grows limit v b ≡ g → (run_onward limit (10 * v + (b - 48)) s ≡ taken w t → Run limit (10 * v + (b - 48)) s w t) → cond g (run_onward limit (10 * v + (b - 48)) s) (at_most limit v (b ∷ s)) ≡ taken w t → Run limit v (b ∷ s) w t
  run_tested v b s true g next r = run_grown v b s g (next r)
  run_tested v b s false g next r = run_stopped v (b ∷ s) (leb v limit) refl r

  run_true : (s : List ℕ) (v : ℕ) {w : ℕ} {t : List ℕ} → run_onward limit v s ≡ taken w t → Run limit v s w t
  unfolding run_onward
  run_true [] v r = run_stopped v [] (leb v limit) refl r
  run_true (b ∷ s) v r = run_tested v b s (grows limit v b) refl (run_true s (10 * v + (b - 48))) r

  number_tested : (b : ℕ) (s : List ℕ) {w : ℕ} {t : List ℕ} (d : Bool) → digit b ≡ d → cond d (run_onward limit (b - 48) s) missing ≡ taken w t → (b ∷ s ≡ decimal w ++ t) × (w ≤ limit)
  number_tested b s {w} {t} true e r =
      let m : (48 ≤ b) × (b ≤ 57) = digit_means b e in
      let q : 48 + (b - 48) ≡ b = omega arith in
      let p : Run limit (b - 48) s w t = run_true s (b - 48) r in
      (sym (rw (decimal_small (b - 48) (omega arith), q) refl) ∙ p.text, p.small)
  number_tested b s false e r = never (cc)

  pub number_true : (s : List ℕ) {w : ℕ} {t : List ℕ} → numeral_of limit s ≡ taken w t → (s ≡ decimal w ++ t) × (w ≤ limit)
  unfolding numeral_of
  number_true [] r = never (cc)
  number_true (b ∷ s) r = number_tested b s (digit b) refl r

  field_tested : (sign s : List ℕ) {w : ℕ} {t : List ℕ} (d : Bool) → begins sign s ≡ d → cond d (numeral_of limit (drop (length sign) s)) missing ≡ taken w t → (s ≡ sign ++ (decimal w ++ t)) × (w ≤ limit)
  field_tested sign s {w} {t} true e r =
      let p : (drop (length sign) s ≡ decimal w ++ t) × (w ≤ limit) = number_true (drop (length sign) s) r in
      (begins_split sign s e ∙ ap (λ (u : List ℕ). sign ++ u) p.0, p.1)
  field_tested sign s false e r = never (cc)

  pub field_true : (sign s : List ℕ) {w : ℕ} {t : List ℕ} → field_of sign limit s ≡ taken w t → (s ≡ sign ++ (decimal w ++ t)) × (w ≤ limit)
  unfolding field_of
  field_true sign s r = field_tested sign s (begins sign s) refl r

  -- what is printed is read
  digit_of : (d : ℕ) → d < 10 → digit (48 + d) ≡ true
  digit_of d h = rw (le-leb 48 (48 + d) (omega arith), le-leb (48 + d) 57 (omega arith))

  run_small : (n : ℕ) (t : List ℕ) → n < 10 → numeral_of limit (decimal n ++ t) ≡ run_onward limit n t
  unfolding numeral_of
  run_small n t h =
      let e : 48 + n - 48 ≡ n = omega arith in
      rw (decimal_small n h, digit_of n h, e)

  run_digit : (v d : ℕ) (t : List ℕ) → 0 < v → v ≤ limit → d < 10 → run_onward limit v ((48 + d) ∷ t) ≡ run_onward limit (10 * v + d) t
  unfolding run_onward
  run_digit v d t p l h =
      let e : 48 + d - 48 ≡ d = omega arith in
      rw (digit_of d h, lt-ltb 0 v p, le-leb v limit l, e)

  run_large : (n : ℕ) (t : List ℕ) → 10 ≤ n → n ≤ limit → numeral_of limit (decimal (n / 10) ++ (48 + n % 10) ∷ t) ≡ run_onward limit (n / 10) ((48 + n % 10) ∷ t) → numeral_of limit (decimal n ++ t) ≡ run_onward limit n t
  run_large n t h l r =
      let e : 10 * (n / 10) + n % 10 ≡ n = omega arith in
      rw (decimal_large n h (omega arith), append_assoc (decimal (n / 10)) ((48 + n % 10) ∷ []) t)
      (r ∙ run_digit (n / 10) (n % 10) t (omega arith) (omega arith) (omega arith) ∙ ap (λ (v : ℕ). run_onward limit v t) e)

  run_on : (k n : ℕ) (t : List ℕ) → n < 10 ^ suc k → n ≤ limit → numeral_of limit (decimal n ++ t) ≡ run_onward limit n t
  run_on zero n t h l = run_small n t h
  run_on (suc k) n t h l =
      ⊎_elim (λ (s : n < 10). run_small n t s)
      (λ (g : 10 ≤ n). run_large n t g l (run_on k (n / 10) ((48 + n % 10) ∷ t) (omega (arith, pow-succ' 10 (suc k))) (omega arith)))
      (below_ten n)

  run_ends : (n b : ℕ) (t : List ℕ) → n ≤ limit → digit b ≡ false → run_onward limit n (b ∷ t) ≡ taken n (b ∷ t)
  unfolding run_onward
  run_ends n b t l e = rw (e, le-leb n limit l)

  pub number_back : (n b : ℕ) (t : List ℕ) → n ≤ limit → digit b ≡ false → numeral_of limit (decimal n ++ b ∷ t) ≡ taken n (b ∷ t)
  number_back n b t l e = run_on 9 n (b ∷ t) (omega arith) l ∙ run_ends n b t l e

  pub field_back : (sign : List ℕ) (n b : ℕ) (t : List ℕ) → n ≤ limit → digit b ≡ false → field_of sign limit (sign ++ (decimal n ++ b ∷ t)) ≡ taken n (b ∷ t)
  unfolding field_of
  field_back sign n b t l e =
      ap (λ (c : Bool). cond c (numeral_of limit (drop (length sign) (sign ++ (decimal n ++ b ∷ t)))) missing) (begins_append sign (decimal n ++ b ∷ t))
      ∙ ap (λ (s : List ℕ). numeral_of limit s) (drop-append_seam sign (decimal n ++ b ∷ t))
      ∙ number_back n b t l e

-- the number of a field fits its type
pub field_byte : (sign s : List ℕ) {v : ℕ} {t : List ℕ} → taken v t ≡ field_of sign 255 s → v < 256
field_byte sign s e = omega (arith, (field_true 255 (lit< tt) sign s (sym e)).1)

pub field_half : (sign s : List ℕ) {v : ℕ} {t : List ℕ} → taken v t ≡ field_of sign 65535 s → v < 65536
field_half sign s e = omega (arith, (field_true 65535 (lit< tt) sign s (sym e)).1)
