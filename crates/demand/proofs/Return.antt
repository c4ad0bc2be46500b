-- Demand 2, back: going back that is not refused at once is the definition's step back repeated, and ends where depth and entries say; so
-- it has one outcome.
-- Assumes nothing.
use Prim.Native.Nat.{ℕ, zero, suc, ◌+◌}
use mathlib.Core.Path.{◌≡◌, refl, sym, ap, ◌∙◌}
use mathlib.Core.Bool.{Bool, true, false, cond}
use mathlib.Core.Option.{none}
use native.Mathlib.Nat.{zero-add}
use native.Mathlib.Omega.{arith}
use lib.Dec.{eqb}
use borrow.Author.Tests.{eqb-true, eqb-false}
use Rattle.machine.specs.State.{State}
use Rattle.machine.specs.Stops.{Said, plainly}
use Rattle.journal.specs.Journal.{undo_of}
use Rattle.journal.specs.Undos.{undos, damaged_in, Undoable}
use Rattle.journal.proofs.Undoing.{undos_none, undos_first}
use Rattle.call.specs.Calls.{Out, stop_at, back_from, back_begins, back_of}
use Rattle.call.proofs.Counts.{back_count}
use Rattle.demand.specs.Demands.{listed, back_stops, FallsOn, Falls, spent, start, damaged, Returned, Called}
use Rattle.demand.proofs.Stops.{back_begins_lem, call_said}
use Rattle.demand.proofs.Outcome.{first, same_out, call_holds, call_once}

on_from : (k : ℕ) (s : State) → Undoable s → FallsOn k (undo_of s) → FallsOn (suc k) s
on_from k s e g zero h = rw (undos_none s) e
on_from k s e g (suc j) h = rw (undos_first j s) (g j (omega arith))

none_yet : (s : State) → FallsOn 0 s
none_yet s j h = absurd (omega arith)

later : (n : ℕ) (s : State) (f : ℕ) (x : Said) → Undoable s → Falls n (undo_of s) f x → Falls (suc n) s (suc f) x
later n s f x e (spent g) = spent (on_from n s e g)
later n s f x e (start k h g d) = start (suc k) (omega arith) (on_from k s e g) (rw (undos_first k s) d)
later n s f x e (damaged k h g d c) = damaged (suc k) (omega arith) (on_from k s e g) (rw (undos_first k s) d) (rw (undos_first k s) c)

-- going back by n, of which k steps were taken back before
record Far (n k : ℕ) (s : State) (o : Out) : Type 0 where
  far : ℕ
  count : o.count ≡ k + far
  state : o.state ≡ undos far s
  ends : Falls n s far o.said

none_far : (n k : ℕ) (s : State) (x : Said) → Falls n s 0 x → Far n k s (stop_at x k s)
none_far n k s x f = record { far = 0; count = omega arith; state = sym (undos_none s); ends = f }

one_far : (t u : Bool) (n k : ℕ) (s : State) (rest : ℕ → State → Out) → eqb s.depth 0 ≡ t → damaged_in s ≡ u
    → ((j : ℕ) (r : State) → Far n j r (rest j r))
    → Far (suc n) k s (cond t (stop_at (plainly 8) k s) (cond u (stop_at (plainly 9) k s) (rest (k + 1) (undo_of s))))
one_far true u n k s rest p q f =
    none_far (suc n) k s (plainly 8) (start 0 (omega arith) (none_yet s) (rw (undos_none s) (eqb-true s.depth 0 p)))
one_far false true n k s rest p q f =
    none_far (suc n) k s (plainly 9)
    (damaged 0 (omega arith) (none_yet s) (rw (undos_none s) (eqb-false s.depth 0 p)) (rw (undos_none s) q))
one_far false false n k s rest p q f =
    let w = f (k + 1) (undo_of s) in
    record {
      far = suc w.far;
      count = (let c = w.count in omega arith);
      state = w.state ∙ sym (undos_first w.far s);
      ends = later n s w.far _ (record { some = eqb-false s.depth 0 p; whole = q }) w.ends;
    }

back_far : (n k : ℕ) (s : State) → Far n k s (back_from n k s)
unfolding back_from
back_far zero k s = none_far 0 k s (plainly 0) (spent (none_yet s))
back_far (suc n) k s = one_far (eqb s.depth 0) (damaged_in s) n k s (back_from n) refl refl (back_far n)

-- Demand 2, back: going back by n that is not refused at once is the definition's step back repeated
pub returned : (n : ℕ) (s : State) → back_begins s ≡ none → Returned n s (back_of n s)
returned n s h =
    let w = back_far n 0 s in
    let o : back_of n s ≡ back_from n 0 s = rw h in
    let k : (back_of n s).count ≡ w.far = ap (λ (x : Out). x.count) o ∙ w.count ∙ zero-add w.far in
    record {
      state = ap (λ (x : Out). x.state) o ∙ w.state ∙ ap (λ (j : ℕ). undos j s) (sym k);
      ends = rw (k, ap (λ (x : Out). x.said) o) w.ends;
      fall = back_count n s;
    }

-- Demand 1: what going back says is one of document 01's numbers for it
falls_listed : {n f : ℕ} {s : State} {x : Said} → Falls n s f x → listed back_stops x.number ≡ true
unfolding listed
falls_listed (spent g) = refl
falls_listed (start k h g d) = refl
falls_listed (damaged k h g d c) = refl

pub back_said : (n : ℕ) (s : State) → listed back_stops (back_of n s).said.number ≡ true
unfolding listed
back_said n s = call_said back_stops (back_begins s) back_from n s (back_begins_lem back_stops refl refl refl s) (λ h. falls_listed (returned n s h).ends)

-- the end of a going back is determined by depths and entries
not_whole : {t : Bool} → t ≡ true → t ≡ false → ⊥
not_whole p q = cc

falls_once : {n f g : ℕ} {s : State} {x y : Said} → Falls n s f x → Falls n s g y → (f ≡ g) × (x ≡ y)
falls_once {s = s} (spent a) (spent b) = (refl, refl)
falls_once {s = s} (spent a) (start l i b d) = absurd ((a l i).some d)
falls_once {s = s} (spent a) (damaged l i b d e) = absurd (not_whole e (a l i).whole)
falls_once {s = s} (start k h a c) (spent b) = absurd ((b k h).some c)
falls_once {s = s} (damaged k h a c e) (spent b) = absurd (not_whole e (b k h).whole)
falls_once {s = s} (start k h a c) (start l i b d) =
    (first (λ j. Undoable (undos j s)) k l a b (λ z. z.some c) (λ z. z.some d), refl)
falls_once {s = s} (start k h a c) (damaged l i b d e) =
    let q = first (λ j. Undoable (undos j s)) k l a b (λ z. z.some c) (λ z. not_whole e z.whole) in
    absurd (d (ap (λ (j : ℕ). (undos j s).depth) (sym q) ∙ c))
falls_once {s = s} (damaged k h a c e) (start l i b d) =
    let q = first (λ j. Undoable (undos j s)) k l a b (λ z. not_whole e z.whole) (λ z. z.some d) in
    absurd (c (ap (λ (j : ℕ). (undos j s).depth) q ∙ d))
falls_once {s = s} (damaged k h a c e) (damaged l i b d f) =
    (first (λ j. Undoable (undos j s)) k l a b (λ z. not_whole e z.whole) (λ z. not_whole f z.whole), refl)

returned_once : (n : ℕ) (s : State) (o p : Out) → Returned n s o → Returned n s p → o ≡ p
returned_once n s o p a b =
    let e = falls_once a.ends b.ends in
    same_out o p (a.state ∙ ap (λ (k : ℕ). undos k s) e.0 ∙ sym b.state) e.1 e.0

-- Demands 1 and 2, back: going back is what these words say, and nothing else is
pub back_holds : (n : ℕ) (s : State) → Called (back_begins s) (Returned n s) s (back_of n s)
back_holds n s = call_holds (back_begins s) (Returned n s) s back_from n (returned n s)

pub back_alone : (n : ℕ) (s : State) (o p : Out) → Called (back_begins s) (Returned n s) s o → Called (back_begins s) (Returned n s) s p → o ≡ p
back_alone n s = call_once (back_begins s) (Returned n s) s (returned_once n s)
