-- An argument says L if it is L's decimal number, and no other argument does.
-- Assumes nothing.
use Prim.Native.Nat.{ℕ, zero, suc, ◌+◌, ◌-◌, ◌*◌, ◌/◌, ◌%◌, ◌^◌, ◌≤◌, ◌<◌}
use mathlib.Core.Path.{◌≡◌, refl, sym, ap, ◌∙◌}
use mathlib.Core.Bool.{Bool, true, false, cond}
use mathlib.Core.List.{List, [], ◌∷◌, ◌++◌, append_assoc, append-nil}
use mathlib.Core.Logic.{⊎_elim}
use native.Mathlib.Omega.{arith}
use borrow.Author.Tests.{lt-ltb, le-leb}
use Rattle.text.specs.Text.{decimal}
use Rattle.text.proofs.Decimal.{below_ten, decimal_small, decimal_large, decimal_next}
use Rattle.verdict.specs.Length.{grown, goes_on, number_from, length_in}
use Rattle.verdict.proofs.Numbers.{went_on}

-- a number is read on by a byte that goes on
on : (most v b : ℕ) (s : List ℕ) → goes_on most v b ≡ true → number_from most v (b ∷ s) ≡ number_from most (grown v b) s
unfolding number_from
on most v b s e = rw e

step : {P : Type 0} (most v b : ℕ) (s : List ℕ) → 0 < number_from most v (b ∷ s) → (goes_on most v b ≡ true → P) → P
unfolding number_from
step {P} most v b s h k = go (goes_on most v b) refl h
  where
    go : (t : Bool) → goes_on most v b ≡ t → 0 < cond t (number_from most (grown v b) s) 0 → P
    go true e h = k e
    go false e h = absurd (omega arith)

ends : (most v : ℕ) → number_from most v [] ≡ v
unfolding number_from
ends most v = refl

module _ (most : ℕ) (small : most < 10 ^ 20) where
  spelled : (v : ℕ) (s : List ℕ) → 0 < v → 0 < number_from most v s → decimal v ++ s ≡ decimal (number_from most v s)
  spelled v [] p h = rw (ends most v) (append-nil (decimal v))
  spelled v (b ∷ s) p h =
      step most v b s h
      (λ e.
      let d = went_on most v b e in
      let low : 48 ≤ b = d.least in
      let high : b ≤ 57 = d.most_digit in
      let some : 0 < grown v b = d.some in
      let fits : grown v b ≤ most = d.fits in
      let digit : 48 + (b - 48) ≡ b = omega arith in
      let more : decimal (grown v b) ≡ decimal v ++ (b ∷ []) = decimal_next v (b - 48) p (omega arith) (omega arith) ∙ rw digit in
      let rest : 0 < number_from most (grown v b) s = rw (on most v b s e) at h in
      rw (on most v b s e) (sym (append_assoc (decimal v) (b ∷ []) s) ∙ ap (λ (t : List ℕ). t ++ s) (sym more) ∙ spelled (grown v b) s some rest))

  -- an argument that says L is L's decimal number
  pub length-decimal : (argument : List ℕ) → 0 < length_in most argument → argument ≡ decimal (length_in most argument)
  length-decimal [] h = let z : number_from most 0 [] ≡ 0 = ends most 0 in absurd (omega arith)
  length-decimal (b ∷ s) h =
      step most 0 b s h
      (λ e.
      let d = went_on most 0 b e in
      let low : 48 ≤ b = d.least in
      let high : b ≤ 57 = d.most_digit in
      let some : 0 < grown 0 b = d.some in
      let digit : 48 + grown 0 b ≡ b = omega arith in
      let first : decimal (grown 0 b) ≡ b ∷ [] = decimal_small (grown 0 b) (omega arith) ∙ rw digit in
      let rest : 0 < number_from most (grown 0 b) s = rw (on most 0 b s e) at h in
      rw (on most 0 b s e) (ap (λ (t : List ℕ). t ++ s) (sym first) ∙ spelled (grown 0 b) s some rest))

  joined : (v : ℕ) (s t : List ℕ) → 0 < number_from most v s → number_from most v (s ++ t) ≡ number_from most (number_from most v s) t
  joined v [] t h = rw (ends most v)
  joined v (b ∷ s) t h =
      step most v b s h
      (λ e. rw (on most v b s e, on most v b (s ++ t) e) (joined (grown v b) s t (rw (on most v b s e) at h)))

  digit_read : (v d : ℕ) → d < 10 → 0 < 10 * v + d → 10 * v + d ≤ most → number_from most v ((48 + d) ∷ []) ≡ 10 * v + d
  digit_read v d small-d some fits =
      let same : grown v (48 + d) ≡ 10 * v + d = omega arith in
      let goes : goes_on most v (48 + d) ≡ true =
      rw (le-leb 48 (48 + d) (omega arith), le-leb (48 + d) 57 (omega arith), lt-ltb 0 (grown v (48 + d)) (omega arith), le-leb (grown v (48 + d)) most (omega arith))
      in
      on most v (48 + d) [] goes ∙ ends most (grown v (48 + d)) ∙ same

  -- and L's decimal number says L
  pub decimal_read : (k l : ℕ) → l ≤ k → 0 < l → l ≤ most → length_in most (decimal l) ≡ l
  decimal_read zero l h some fits = absurd (omega arith)
  decimal_read (suc k) l h some fits =
      ⊎_elim
      (λ (few : l < 10). rw (decimal_small l few) (digit_read 0 l few (omega arith) (omega arith) ∙ omega arith))
      (λ (many : 10 ≤ l).
      let front : length_in most (decimal (l / 10)) ≡ l / 10 = decimal_read k (l / 10) (omega arith) (omega arith) (omega arith) in
      let there : 0 < number_from most 0 (decimal (l / 10)) = rw front (omega arith) in
      rw (decimal_large l many (omega arith), joined 0 (decimal (l / 10)) ((48 + l % 10) ∷ []) there, front)
      (digit_read (l / 10) (l % 10) (omega arith) (omega arith) (omega arith) ∙ omega arith))
      (below_ten l)
