-- Lists with a few places written, and with r's own values put back there.
-- Assumes nothing.
use Prim.Native.Nat.{ℕ, ◌+◌, ◌-◌, ◌≤◌, ◌<◌}
use mathlib.Core.Path.{◌≡◌, refl, sym, ap, ◌∙◌}
use mathlib.Core.Logic.{◌⊎◌, inl, inr}
use mathlib.Core.Bool.{Bool, true, false, ◌&&◌}
use mathlib.Core.List.{List, ◌++◌, append_assoc}
use native.Mathlib.Omega.{arith}
use lib.ListN.{length, get_or, set, take, drop, length-set, length-append}
use lib.Seq.{take-take, take-add, get_or-set_same, get_or-set_other, set-set, set-get_or, ext_get_or, sets, sets-eq, take_at, drop_at, length-take-le, get_or-take, get_or-drop}
use lib.Dec.{eqb}
use borrow.Author.Tests.{eqb-true, eqb-false}
use Rattle.machine.specs.State.{write_if}
use Rattle.journal.specs.Words.{if_used}

pub length-write_if : (u : Bool) (l : List ℕ) (i v : ℕ) → length (write_if u l i v) ≡ length l
length-write_if true l i v = length-set l i v
length-write_if false l i v = refl

-- a write elsewhere, or none
pub miss : (u : Bool) (l : List ℕ) (i j v : ℕ) → (u && eqb j i) ≡ false → get_or (write_if u l i v) j 0 ≡ get_or l j 0
miss true l i j v h = get_or-set_other l i j v 0 (eqb-false j i h)
miss false l i j v h = refl

-- r's own value is put back at i: where l agreed with r, but perhaps at i, the result agrees, at i too
pub mend : (u : Bool) (l r : List ℕ) (i j : ℕ) → j < length l → ((u && eqb j i) ≡ false → get_or l j 0 ≡ get_or r j 0)
    → get_or (write_if u l i (get_or r i 0)) j 0 ≡ get_or r j 0
mend false l r i j h k = k refl
mend true l r i j h k = go (eqb j i) refl
  where
    go : (t : Bool) → eqb j i ≡ t → get_or (set l i (get_or r i 0)) j 0 ≡ get_or r j 0
    go true e = rw (← eqb-true j i e) (get_or-set_same l j (get_or r j 0) 0 h)
    go false e = get_or-set_other l i j (get_or r i 0) 0 (eqb-false j i e) ∙ k e

-- three places put back
module _ (r l : List ℕ) (u v w : Bool) (a b c : ℕ) (same : length l ≡ length r)
    (agree : (j : ℕ) → (w && eqb j c) ≡ false → (v && eqb j b) ≡ false → (u && eqb j a) ≡ false → get_or l j 0 ≡ get_or r j 0) where
  pub mended : write_if w (write_if v (write_if u l a (get_or r a 0)) b (get_or r b 0)) c (get_or r c 0) ≡ r
  mended =
      ext_get_or 0 _ r (simp length-write_if same) (λ j h.
      let h' : j < length l = simp length-write_if at h in
      mend w _ r c j (simp length-write_if h') (λ x.
      mend v _ r b j (simp length-write_if h') (λ y. mend u l r a j h' (λ z. agree j x y z))))

-- an unused part is 0, and is not written
pub write_if-if_used : (u : Bool) (l : List ℕ) (i v : ℕ) → write_if u l (if_used u i) (if_used u v) ≡ write_if u l i v
write_if-if_used true l i v = refl
write_if-if_used false l i v = refl

pub if_used-lt : (u : Bool) (v n : ℕ) → v < n → if_used u v < n
if_used-lt true v n h = h
if_used-lt false v n h = omega arith

-- one place written and put back
pub write_if-back : (u : Bool) (l : List ℕ) (i v : ℕ) → write_if u (write_if u l i v) i (get_or l i 0) ≡ l
write_if-back true l i v = set-set l i v (get_or l i 0) ∙ set-get_or l i 0
write_if-back false l i v = refl

-- a run of words
module _ (l vs : List ℕ) (i : ℕ) (fits : i + length vs ≤ length l) where
  -- the words before it stand
  pub take_sets : take i (sets l i vs) ≡ take i l
  take_sets = rw (sets-eq vs l i fits, append_assoc) (take_at (take i l) _ i (length-take-le i l (omega arith)))

  -- the words up to its end
  pub take_to_sets : take (i + length vs) (sets l i vs) ≡ take i l ++ vs
  take_to_sets = rw (sets-eq vs l i fits) (take_at (take i l ++ vs) _ (i + length vs) (simp (length-append, length-take-le i l (omega arith))))

  -- the words of it
  pub read_sets : take (length vs) (drop i (sets l i vs)) ≡ vs
  read_sets =
      rw (sets-eq vs l i fits, append_assoc, drop_at (take i l) (vs ++ drop (i + length vs) l) i (length-take-le i l (omega arith)))
      (take_at vs _ (length vs) refl)

  -- the words after it stand
  pub drop_sets : drop (i + length vs) (sets l i vs) ≡ drop (i + length vs) l
  drop_sets = rw (sets-eq vs l i fits) (drop_at (take i l ++ vs) _ (i + length vs) (simp (length-append, length-take-le i l (omega arith))))

-- the k words from i on, where only the first i + k are known
pub read_known : (l p vs : List ℕ) (i : ℕ) → i + length vs ≤ length l → length p ≡ i → take (i + length vs) l ≡ p ++ vs → take (length vs) (drop i l) ≡ vs
read_known l p vs i fits e h =
    sym (drop_at (take i l) _ i (length-take-le i l (omega arith))) ∙ ap (drop i) (sym (take-add i (length vs) l) ∙ h) ∙ drop_at p vs i e

pub take_known : (l p vs : List ℕ) (i : ℕ) → length p ≡ i → take (i + length vs) l ≡ p ++ vs → take i l ≡ p
take_known l p vs i e h = sym (take-take i (i + length vs) l (omega arith)) ∙ rw h (take_at p vs i e)

-- lists that agree before i and from k on agree at each place there
pub get_or-outside : (l m : List ℕ) (i k : ℕ) → take i l ≡ take i m → drop k l ≡ drop k m → (j : ℕ) → (j < i) ⊎ (k ≤ j) → get_or l j 0 ≡ get_or m j 0
get_or-outside l m i k p q j (inl h) = sym (get_or-take i l j 0 h) ∙ ap (λ (x : List ℕ). get_or x j 0) p ∙ get_or-take i m j 0 h
get_or-outside l m i k p q j (inr h) =
    let e : k + (j - k) ≡ j = omega arith in
    let f = sym (get_or-drop k l (j - k) 0) ∙ ap (λ (x : List ℕ). get_or x (j - k) 0) q ∙ get_or-drop k m (j - k) 0 in
    rw e at f
