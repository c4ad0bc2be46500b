-- What the answers of a rule's check say of its cells.
-- Assumes nothing.
use Prim.Native.Nat.{ℕ, zero, suc, ◌+◌, ◌≤◌, ◌<◌}
use mathlib.Core.Path.{◌≡◌, refl}
use mathlib.Core.Bool.{Bool, true, false, cond}
use mathlib.Core.List.{List}
use mathlib.Core.Logic.{⊎_elim}
use native.Mathlib.Nat.{eq-or-lt_of_le}
use native.Mathlib.Omega.{arith}
use lib.ListN.{get_or, length}
use borrow.Author.Tests.{le-ltb, ne_eqb}
use Rattle.cell.proofs.Tests.{never}
use Rattle.std.specs.Prelude.{Result, Ok, Err, ⊤}
use Rattle.profile.specs.declared.Flaw.{Flaw}
use Rattle.profile.specs.declared.BadRule.{BadRule}
use Rattle.profile.specs.declared.BadRule.TheVariants.{Length, Cell}
use Rattle.profile.specs.Profile.{judged_of, or_bad, first_bad, bad_length, rule_of}
use Rattle.profile.proofs.Cells.{good_length}

-- the cells from a to below b are allowed
abbrev AllowedFrom : ℕ → ℕ → List ℕ → Type 0
AllowedFrom a b cells = (i : ℕ) → a ≤ i → i < b → judged_of (get_or cells i 0) ≡ (Ok tt)

one_more : (a b : ℕ) (cells : List ℕ) → judged_of (get_or cells a 0) ≡ (Ok tt) → AllowedFrom (a + 1) b cells → AllowedFrom a b cells
one_more a b cells h rest i low high =
    ⊎_elim (λ (q : a ≡ i). rw (← q) h) (λ (q : a < i). rest i (omega arith) high) (eq-or-lt_of_le low)

-- a bad cell, with none before it
abbrev FirstBad : ℕ → ℕ → List ℕ → ℕ → Flaw → Type 0
FirstBad a b cells p f = (a ≤ p) × (p < b) × (judged_of (get_or cells p 0) ≡ Err f) × AllowedFrom a p cells

module _ (cells : List ℕ) where
  all_allowed : (n a : ℕ) → first_bad n a cells ≡ (Ok tt) → AllowedFrom a (a + n) cells
  unfolding first_bad
  all_allowed zero a e = λ i low high. absurd (omega arith)
  all_allowed (suc n) a e = go (judged_of (get_or cells a 0)) refl e (all_allowed n (a + 1))
    where
      go : (j : Result ⊤ Flaw) → judged_of (get_or cells a 0) ≡ j → or_bad j a (first_bad n (a + 1) cells) ≡ (Ok tt)
          → (first_bad n (a + 1) cells ≡ (Ok tt) → AllowedFrom (a + 1) (a + 1 + n) cells) → AllowedFrom a (a + suc n) cells
      go (Ok tt) j-is e later = one_more a (a + suc n) cells j-is (λ i low high. later e i low (omega arith))
      go (Err f) j-is e later = never (cc)

  none_bad : (n a : ℕ) → AllowedFrom a (a + n) cells → first_bad n a cells ≡ (Ok tt)
  unfolding first_bad
  none_bad zero a h = refl
  none_bad (suc n) a h =
      rw (h a (omega arith) (omega arith)) (none_bad n (a + 1) (λ i low high. h i (omega arith) (omega arith)))

  bad_first : (n a p : ℕ) (f : Flaw) → first_bad n a cells ≡ Err (Cell p f) → FirstBad a (a + n) cells p f
  unfolding first_bad
  bad_first zero a p f e = never (cc)
  bad_first (suc n) a p f e = go (judged_of (get_or cells a 0)) refl e (bad_first n (a + 1) p f)
    where
      go : (j : Result ⊤ Flaw) → judged_of (get_or cells a 0) ≡ j → or_bad j a (first_bad n (a + 1) cells) ≡ Err (Cell p f)
          → (first_bad n (a + 1) cells ≡ Err (Cell p f) → FirstBad (a + 1) (a + 1 + n) cells p f) → FirstBad a (a + suc n) cells p f
      go (Ok tt) j-is e later =
          let b = later e in
          let low : a + 1 ≤ p = b.0 in
          let high : p < a + 1 + n = b.1 in
          (omega arith, omega arith, b.2, one_more a p cells j-is b.3)
      go (Err g) j-is e later =
          let here : a ≡ p = cc in
          let same : g ≡ f = cc in
          (omega arith, omega arith, rw (← here, ← same) j-is, λ i low high. absurd (omega arith))

-- the check of L, taken apart
by_length : {P : Type 0} (l : ℕ) (cells : List ℕ) (r : Result ⊤ BadRule) → rule_of l cells ≡ r → (Err Length ≡ r → P)
    → ((1 ≤ l) × (l ≤ length cells) → first_bad l 0 cells ≡ r → P) → P
unfolding rule_of
by_length {P} l cells r e bad good = go (bad_length l (length cells)) refl e
  where
    go : (t : Bool) → bad_length l (length cells) ≡ t → cond t (Err Length) (first_bad l 0 cells) ≡ r → P
    go true t-is e = bad e
    go false t-is e = good (good_length l (length cells) t-is) e

module _ (l : ℕ) (cells : List ℕ) where
  -- a rule that only goes forward has a cell or more, all of them in memory,
  pub forward_length : rule_of l cells ≡ (Ok tt) → (1 ≤ l) × (l ≤ length cells)
  forward_length e = by_length l cells (Ok tt) e (λ z. never (cc)) (λ s z. s)

  -- and each is allowed;
  pub forward_allowed : rule_of l cells ≡ (Ok tt) → (i : ℕ) → i < l → judged_of (get_or cells i 0) ≡ (Ok tt)
  forward_allowed e i h = by_length l cells (Ok tt) e (λ z. never (cc)) (λ s z. all_allowed cells l 0 z i (omega arith) (omega arith))

  -- every such rule is one;
  pub allowed_forward : 1 ≤ l → l ≤ length cells → ((i : ℕ) → i < l → judged_of (get_or cells i 0) ≡ (Ok tt)) → rule_of l cells ≡ (Ok tt)
  unfolding rule_of
  allowed_forward some fits h =
      rw (ne_eqb l 0 (λ z. omega arith), le-ltb (length cells) l fits) (none_bad cells l 0 (λ i low high. h i (omega arith)))

  -- and a bad cell that is told is the first
  pub bad_cell : (p : ℕ) (f : Flaw) → rule_of l cells ≡ Err (Cell p f)
      → (p < l) × (judged_of (get_or cells p 0) ≡ Err f) × ((i : ℕ) → i < p → judged_of (get_or cells i 0) ≡ (Ok tt))
  bad_cell p f e =
      by_length l cells (Err (Cell p f)) e (λ z. never (cc))
      (λ s z. let b = bad_first cells l 0 p f z in (omega arith, b.2, λ i h. b.3 i (omega arith) h))

  -- which is in memory
  pub bad_inside : (p : ℕ) (f : Flaw) → rule_of l cells ≡ Err (Cell p f) → p < length cells
  bad_inside p f e =
      by_length l cells (Err (Cell p f)) e (λ z. never (cc))
      (λ s z. let b = bad_first cells l 0 p f z in let below : p < 0 + l = b.1 in let fits : l ≤ length cells = s.1 in omega arith)
