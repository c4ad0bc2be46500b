-- Demand 2: a run that is not refused at once is the definition's step repeated, and ends where the steps do; so it has one outcome. One proof
-- serves plain and profile runs.
-- Assumes nothing.
use Prim.Native.Nat.{ℕ, zero, suc, ◌+◌}
use mathlib.Core.Path.{◌≡◌, refl, sym, ap, ◌∙◌}
use mathlib.Core.Bool.{Bool, true, false, ◌||◌}
use mathlib.Core.Option.{none}
use mathlib.Core.List.{List, ◌∷◌}
use native.Mathlib.Nat.{zero-add}
use native.Mathlib.Omega.{arith}
use lib.Dec.{eqb}
use Rattle.machine.specs.declared.Kind.{Kind}
use Rattle.machine.specs.State.{State}
use Rattle.machine.specs.Stops.{Said, plainly}
use Rattle.step.specs.Step.{Course, going, stopped, refused, step_of}
use Rattle.step.specs.Steps.{steps, course_after}
use Rattle.step.proofs.Repeats.{steps_none, steps_first}
use Rattle.call.specs.Calls.{Out, go_on, run_from, run_begins, run_of}
use Rattle.call.proofs.Counts.{step_refused, run_count}
use Rattle.demand.specs.Demands.{listed, GoesOn, Ends, spent, last, next, Repeated, Called}
use Rattle.demand.proofs.Stops.{step_stops, Fine, any_step, step_fine, not_zero}
use Rattle.demand.proofs.Outcome.{first, same_out, call_holds, call_once}

module _ (kind : Kind) where
  -- the courses after a first step that goes on
  course_now : (s : State) → course_after kind 0 s ≡ (step_of kind s).course
  course_now s = ap (λ (t : State). (step_of kind t).course) (steps_none kind s)

  course_later : (k : ℕ) (s : State) → course_after kind (suc k) s ≡ course_after kind k (step_of kind s).state
  course_later k s = ap (λ (t : State). (step_of kind t).course) (steps_first kind k s)

  on_from : (k : ℕ) (s : State) → (step_of kind s).course ≡ going → GoesOn kind k (step_of kind s).state → GoesOn kind (suc k) s
  on_from k s e g zero h = course_now s ∙ e
  on_from k s e g (suc j) h = course_later j s ∙ g j (omega arith)

  none_yet : (s : State) → GoesOn kind 0 s
  none_yet s j h = absurd (omega arith)

  later : (n : ℕ) (s : State) (f : ℕ) (x : Said) → (step_of kind s).course ≡ going → Ends kind n (step_of kind s).state f x → Ends kind (suc n) s (suc f) x
  later n s f x e (spent g) = spent (on_from n s e g)
  later n s f x e (last k y h g c) = last (suc k) y (omega arith) (on_from k s e g) (course_later k s ∙ c)
  later n s f x e (next k y h g c) = next (suc k) y (omega arith) (on_from k s e g) (course_later k s ∙ c)

  -- a run of budget n, of which k steps were done before
  record Far (n k : ℕ) (s : State) (o : Out) : Type 0 where
    far : ℕ
    count : o.count ≡ k + far
    state : o.state ≡ steps kind far s
    ends : Ends kind n s far o.said

  one_far : (c : Course) (n k : ℕ) (s : State) (rest : ℕ → State → Out) → (step_of kind s).course ≡ c
      → ((x : Said) → c ≡ refused x → (step_of kind s).state ≡ s)
      → ((j : ℕ) (t : State) → Far n j t (rest j t)) → Far (suc n) k s (go_on rest c k (step_of kind s).state)
  one_far going n k s rest e r g =
      let w = g (k + 1) (step_of kind s).state in
      record {
        far = suc w.far;
        count = (let c = w.count in omega arith);
        state = w.state ∙ sym (steps_first kind w.far s);
        ends = later n s w.far _ e w.ends;
      }
  one_far (stopped x) n k s rest e r g = record {
    far = 1;
    count = refl;
    state = sym (steps_first kind 0 s ∙ steps_none kind (step_of kind s).state);
    ends = last 0 x (omega arith) (none_yet s) (course_now s ∙ e);
  }
  one_far (refused x) n k s rest e r g = record {
    far = 0;
    count = omega arith;
    state = r x refl ∙ sym (steps_none kind s);
    ends = next 0 x (omega arith) (none_yet s) (course_now s ∙ e);
  }

  run_far : (n k : ℕ) (s : State) → Far n k s (run_from kind n k s)
  unfolding run_from
  run_far zero k s = record { far = 0; count = omega arith; state = sym (steps_none kind s); ends = spent (none_yet s) }
  run_far (suc n) k s = one_far (step_of kind s).course n k s (run_from kind n) refl (λ x. step_refused kind s x) (run_far n)

  -- what a step names is on its list, so that no step names 0
  course_fine : (k : ℕ) (s : State) (c : Course) → course_after kind k s ≡ c → Fine (step_stops kind) c
  course_fine k s c e = rw e at (step_fine (step_stops kind) kind (steps kind k s) (any_step kind (steps kind k s)))

  ends_full : {n f : ℕ} {s : State} {x : Said} → Ends kind n s f x → x ≡ plainly 0 → f ≡ n
  ends_full {n = n} (spent g) e = refl
  ends_full {s = s} (last k x h g c) e = absurd (not_zero kind x (course_fine k s (stopped x) c) e)
  ends_full {s = s} (next k x h g c) e = absurd (not_zero kind x (course_fine k s (refused x) c) e)

  behind_zero : (l : List ℕ) (k : ℕ) → listed l k ≡ true → listed (0 ∷ l) k ≡ true
  unfolding listed
  behind_zero l k h = go (eqb k 0) h
    where
      go : (t : Bool) {b : Bool} → b ≡ true → (t || b) ≡ true
      go true e = refl
      go false e = e

  -- what a run says is on a list, after 0, that what its steps kind name is on
  pub ends_fine : (l : List ℕ) (s : State) → ((k : ℕ) → GoesOn kind k s → Fine l (course_after kind k s)) → {n f : ℕ} {x : Said} → Ends kind n s f x
      → listed (0 ∷ l) x.number ≡ true
  unfolding listed
  ends_fine l s f (spent g) = refl
  ends_fine l s f (last k x h g c) = behind_zero l x.number (rw c at (f k g))
  ends_fine l s f (next k x h g c) = behind_zero l x.number (rw c at (f k g))

  -- Demand 2: a run of budget n that is not refused at once is the definition's step repeated
  pub repeated : (n : ℕ) (s : State) → run_begins kind s ≡ none → Repeated kind n s (run_of kind n s)
  repeated n s h =
      let w = run_far n 0 s in
      let o : run_of kind n s ≡ run_from kind n 0 s = rw h in
      let k : (run_of kind n s).count ≡ w.far = ap (λ (x : Out). x.count) o ∙ w.count ∙ zero-add w.far in
      let e : Ends kind n s (run_of kind n s).count (run_of kind n s).said = rw (k, ap (λ (x : Out). x.said) o) w.ends in
      record {
        state = ap (λ (x : Out). x.state) o ∙ w.state ∙ ap (λ (j : ℕ). steps kind j s) (sym k);
        ends = e;
        full = ends_full e;
        rise = run_count kind n s;
      }

  -- the end of a run is determined by the courses
  going_stopped : {c : Course} {x : Said} → c ≡ stopped x → c ≡ going → ⊥
  going_stopped p q = cc

  going_refused : {c : Course} {x : Said} → c ≡ refused x → c ≡ going → ⊥
  going_refused p q = cc

  ends_once : {n f g : ℕ} {s : State} {x y : Said} → Ends kind n s f x → Ends kind n s g y → (f ≡ g) × (x ≡ y)
  ends_once {s = s} (spent a) (spent b) = (refl, refl)
  ends_once {s = s} (spent a) (last l y i b d) = absurd (going_stopped d (a l i))
  ends_once {s = s} (spent a) (next l y i b d) = absurd (going_refused d (a l i))
  ends_once {s = s} (last k x h a c) (spent b) = absurd (going_stopped c (b k h))
  ends_once {s = s} (next k x h a c) (spent b) = absurd (going_refused c (b k h))
  ends_once {s = s} (last k x h a c) (last l y i b d) =
      let e = first (λ j. course_after kind j s ≡ going) k l a b (going_stopped c) (going_stopped d) in
      (ap suc e, cc)
  ends_once {s = s} (last k x h a c) (next l y i b d) =
      let e = first (λ j. course_after kind j s ≡ going) k l a b (going_stopped c) (going_refused d) in
      absurd (cc)
  ends_once {s = s} (next k x h a c) (last l y i b d) =
      let e = first (λ j. course_after kind j s ≡ going) k l a b (going_refused c) (going_stopped d) in
      absurd (cc)
  ends_once {s = s} (next k x h a c) (next l y i b d) =
      let e = first (λ j. course_after kind j s ≡ going) k l a b (going_refused c) (going_refused d) in
      (e, cc)

  repeated_once : (n : ℕ) (s : State) (o p : Out) → Repeated kind n s o → Repeated kind n s p → o ≡ p
  repeated_once n s o p a b =
      let e = ends_once a.ends b.ends in
      same_out o p (a.state ∙ ap (λ (k : ℕ). steps kind k s) e.0 ∙ sym b.state) e.1 e.0

  -- Demands 1 and 2: a run is what these words say, and nothing else is
  pub run_holds : (n : ℕ) (s : State) → Called (run_begins kind s) (Repeated kind n s) s (run_of kind n s)
  run_holds n s = call_holds (run_begins kind s) (Repeated kind n s) s (run_from kind) n (repeated n s)

  pub run_alone : (n : ℕ) (s : State) (o p : Out) → Called (run_begins kind s) (Repeated kind n s) s o → Called (run_begins kind s) (Repeated kind n s) s p → o ≡ p
  run_alone n s = call_once (run_begins kind s) (Repeated kind n s) s (repeated_once n s)
