-- Calls forward and back, in any order: the machine is where as many steps forward as were done and not undone take it.
-- The proof follows the definition's steps and opens no opcode.
-- Assumes nothing.
use Prim.Native.Nat.{ℕ, zero, suc, ◌+◌, ◌-◌, ◌*◌, ◌≤◌}
use mathlib.Core.Path.{◌≡◌, refl, sym, ap, ◌∙◌}
use mathlib.Core.Bool.{Bool, true, false, cond}
use mathlib.Core.Option.{Option, none, some}
use mathlib.Core.List.{List, [], ◌∷◌}
use native.Mathlib.Nat.{add-zero, add_assoc}
use native.Mathlib.Omega.{arith}
use lib.Dec.{eqb}
use lib.ListN.{length, take}
use borrow.Author.Tests.{eq-eqb, ne_eqb, eqb-false}
use Rattle.effect.specs.Parts.{Effect}
use Rattle.machine.specs.State.{State, most_cells, capacity_of}
use Rattle.journal.specs.Journal.{apply_of, last_of, damaged_of, undo_of}
use Rattle.machine.specs.Stops.{Said, plainly}
use Rattle.machine.specs.declared.Kind.{Kind}
use Rattle.machine.specs.declared.Kind.TheVariants.{Plain, Profile}
use Rattle.step.specs.Step.{Course, going, stopped, refused, action_in, effect_in, refusal_of, moved, step_of}
use Rattle.call.specs.Calls.{Out, stop_at, go_on, run_from, back_from, said_by, run_begins, back_begins, called, run_of, back_of}
use Rattle.effect.proofs.Blind as blind
use Rattle.step.specs.Steps.{steps}
use Rattle.journal.proofs.Room.{room}
use Rattle.step.proofs.Keeps.{clear, plain_too, formed_in, lawful_after}
use Rattle.machine.specs.Lawful.{Lawful}
use Rattle.journal.proofs.Undo.{Room, with_journal, intact_with, undo_with, up_to, last_known, earlier_known, lengths}
use Rattle.call.proofs.Counts.{done, course_done}
use Rattle.call.proofs.Checks.{passes}
use Rattle.demand.specs.Journey.{Call, Step, Run, ProfileRun, Back, Trip, set_out, forward, call, travel, seen, Arrived}

module _ (s₀ : State) (lawful₀ : Lawful s₀) (empty : s₀.depth ≡ 0) where
  -- n steps, each of them done
  data Trace : ℕ → State → Type 0 where
    start : Trace zero s₀
    step : {n : ℕ} {t : State} → Trace n t → refusal_of Plain t ≡ none → Trace (suc n) (apply_of (effect_in t) t)

  trace_depth : {n : ℕ} {t : State} → Trace n t → t.depth ≡ n
  trace_depth start = empty
  trace_depth (step r h) = let d = trace_depth r in omega arith

  trace_lawful : {n : ℕ} {t : State} → Trace n t → Lawful t
  trace_lawful start = lawful₀
  trace_lawful (step {n} {t} r h) = lawful_after t (trace_lawful r) (clear Plain t h)

  done_step : (t : State) → refusal_of Plain t ≡ none → (step_of Plain t).state ≡ apply_of (effect_in t) t
  unfolding step_of
  done_step t h = rw h

  trace_steps : {n : ℕ} {t : State} → Trace n t → steps Plain n s₀ ≡ t
  unfolding steps
  trace_steps start = refl
  trace_steps (step {n} {t} r h) = ap (λ (x : State). (step_of Plain x).state) (trace_steps r) ∙ done_step t h

  -- where a state is, after f steps forward and b back: far steps on from the start, with a journal that holds the entries of these
  record Reached (s : State) (f b : ℕ) : Type 0 where
    far : ℕ
    there : State
    journal : List ℕ
    trace : Trace far there
    count : f ≡ b + far
    state : s ≡ with_journal there journal
    words : take (8 * there.depth) journal ≡ take (8 * there.depth) there.journal
    long : length journal ≡ length there.journal

  -- a step does not look at the journal's words
  capacity_blind : (t : State) (j : List ℕ) → length j ≡ length t.journal → capacity_of j ≡ capacity_of t.journal
  unfolding capacity_of
  capacity_blind t j long = rw long

  refusal_blind : (t : State) (j : List ℕ) → length j ≡ length t.journal → refusal_of Plain (with_journal t j) ≡ refusal_of Plain t
  unfolding refusal_of
  refusal_blind t j long = rw (capacity_blind t j long, blind.refusal_blind t t.depth j (action_in t))

  effect_blind : (t : State) (j : List ℕ) → effect_in (with_journal t j) ≡ effect_in t
  unfolding effect_in
  effect_blind t j = blind.effect_blind t t.depth j (action_in t)

  -- a step forward that is done
  took : (t : State) (j : List ℕ) {n f b : ℕ} → Trace n t → f ≡ b + n → take (8 * t.depth) j ≡ take (8 * t.depth) t.journal
      → length j ≡ length t.journal → refusal_of Plain t ≡ none → Reached (apply_of (effect_in t) (with_journal t j)) (f + 1) b
  took t j {n} r c words long h =
      let m : Room t = room t.journal t.depth (clear Plain t h).space in
      let m' : Room (with_journal t j) = omega arith in
      record {
        far = suc n;
        there = apply_of (effect_in t) t;
        journal = (apply_of (effect_in t) (with_journal t j)).journal;
        trace = step r h;
        count = omega arith;
        state = refl;
        words = up_to (effect_in t) (with_journal t j) m' ∙ rw words (sym (up_to (effect_in t) t m));
        long = (lengths (effect_in t) (with_journal t j)).2 ∙ long ∙ sym (lengths (effect_in t) t).2;
      }

  -- a step of either kind of run: one that a profile does is one that a plain run does
  went : (kind : Kind) (s : State) (f b : ℕ) (o : Option ℕ) → Reached s f b → refusal_of kind s ≡ o → Reached (moved o s).state (f + done (moved o s).course) b
  went kind s f b (some k) r h = rw (add-zero f) r
  went kind s f b none r h =
      let j = r.journal in
      let free : refusal_of Plain r.there ≡ none = sym (refusal_blind r.there j r.long) ∙ ap (refusal_of Plain) (sym r.state) ∙ plain_too s (clear kind s h) in
      let at : apply_of (effect_in s) s ≡ apply_of (effect_in r.there) (with_journal r.there j) =
      ap (λ (x : State). apply_of (effect_in x) x) r.state ∙ ap (λ (e : Effect). apply_of e (with_journal r.there j)) (effect_blind r.there j) in
      rw (course_done s, at) (took r.there j r.trace r.count r.words r.long free)

  goes_forward : (kind : Kind) (s : State) (f b : ℕ) → Reached s f b → Reached (step_of kind s).state (f + done (step_of kind s).course) b
  unfolding step_of
  goes_forward kind s f b r = went kind s f b (refusal_of kind s) r refl

  -- a step back: the last step is undone
  returned : (t : State) (j : List ℕ) → Lawful t → refusal_of Plain t ≡ none
      → take (8 * (t.depth + 1)) j ≡ take (8 * (t.depth + 1)) (apply_of (effect_in t) t).journal → length j ≡ length t.journal
      → (damaged_of (length (apply_of (effect_in t) t).cells) (last_of j (t.depth + 1)) ≡ false) × (undo_of (with_journal (apply_of (effect_in t) t) j) ≡ with_journal t j)
  returned t j l h words long =
      let c = clear Plain t h in
      let m = room t.journal t.depth c.space in
      let k = last_known (effect_in t) t m j words long in
      let w = formed_in t l c in
      (intact_with (effect_in t) t w l.ready.settled j k, undo_with (effect_in t) t w l.ready.settled j k)

  -- what one step back does to a state that was reached: stop 8 at the start, and else the state before
  record Backed (s : State) (f b : ℕ) : Type 0 where
    intact : (s.depth ≡ 0 → ⊥) → damaged_of (length s.cells) (last_of s.journal s.depth) ≡ false
    before : (s.depth ≡ 0 → ⊥) → Reached (undo_of s) f (b + 1)
    even : s.depth ≡ 0 → f ≡ b
    start : f ≡ b → s.depth ≡ 0

  backed : {n : ℕ} {t : State} (j : List ℕ) (s : State) (f b : ℕ) → Trace n t → f ≡ b + n → s ≡ with_journal t j
      → take (8 * t.depth) j ≡ take (8 * t.depth) t.journal → length j ≡ length t.journal → Backed s f b
  backed j s f b start c st words long = record {
    intact = λ d. absurd (d (rw st empty));
    before = λ d. absurd (d (rw st empty));
    even = λ d. omega arith;
    start = λ d. rw st empty;
  }
  backed j s f b (step {n} {t} r h) c st words long =
      let long' : length j ≡ length t.journal = long ∙ (lengths (effect_in t) t).2 in
      let q = returned t j (trace_lawful r) h words long' in
      let d = trace_depth r in
      let m = room t.journal t.depth (clear Plain t h).space in
      record {
        intact = λ z. rw st q.0;
        before = λ z. rw (st, q.1) (record {
          far = n;
          there = t;
          journal = j;
          trace = r;
          count = omega arith;
          state = refl;
          words = earlier_known (effect_in t) t m j words long';
          long = long';
        });
        even = λ z. absurd (let y : t.depth + 1 ≡ 0 = rw st at z in omega arith);
        start = λ z. absurd (omega arith);
      }

  goes_back : (s : State) (f b : ℕ) → Reached s f b → Backed s f b
  goes_back s f b r = backed r.journal s f b r.trace r.count r.state r.words r.long

  -- a run, of which k steps were done before
  ran : (rest : ℕ → State → Out) (c : Course) (k a b : ℕ) (s : State) → Reached s (a + k + done c) b
      → ((j : ℕ) (t : State) → Reached t (a + j) b → Reached (rest j t).state (a + (rest j t).count) b)
      → Reached (go_on rest c k s).state (a + (go_on rest c k s).count) b
  ran rest going k a b s r f = f (k + 1) s (rw (← add_assoc a k 1) r)
  ran rest (stopped x) k a b s r f = rw (← add_assoc a k 1) r
  ran rest (refused x) k a b s r f = rw add-zero at r

  runs : (kind : Kind) (n k a b : ℕ) (s : State) → Reached s (a + k) b → Reached (run_from kind n k s).state (a + (run_from kind n k s).count) b
  unfolding run_from
  runs kind zero k a b s r = r
  runs kind (suc n) k a b s r = ran (run_from kind n) (step_of kind s).course k a b (step_of kind s).state (goes_forward kind s (a + k) b r) (λ j t. runs kind n j a b t)

  -- going back, of which k steps were done before
  homeward : (t u : Bool) (rest : ℕ → State → Out) (k a b : ℕ) (s : State) → eqb s.depth 0 ≡ t
      → damaged_of (length s.cells) (last_of s.journal s.depth) ≡ u → Reached s a (b + k) → Backed s a (b + k)
      → ((j : ℕ) (r : State) → Reached r a (b + j) → Reached (rest j r).state a (b + (rest j r).count))
      → Reached (cond t (stop_at (plainly 8) k s) (cond u (stop_at (plainly 9) k s) (rest (k + 1) (undo_of s)))).state
      a (b + (cond t (stop_at (plainly 8) k s) (cond u (stop_at (plainly 9) k s) (rest (k + 1) (undo_of s)))).count)
  homeward true u rest k a b s p q r z f = r
  homeward false true rest k a b s p q r z f = r
  homeward false false rest k a b s p q r z f = f (k + 1) (undo_of s) (rw (← add_assoc b k 1) (z.before (eqb-false s.depth 0 p)))

  returns : (n k a b : ℕ) (s : State) → Reached s a (b + k) → Reached (back_from n k s).state a (b + (back_from n k s).count)
  unfolding back_from
  returns zero k a b s r = r
  returns (suc n) k a b s r =
      homeward (eqb s.depth 0) (damaged_of (length s.cells) (last_of s.journal s.depth)) (back_from n) k a b s refl refl r
      (goes_back s a (b + k) r) (λ j t. returns n j a b t)

  -- a call, refused at once or not
  called_forward : (kind : Kind) (o : Option Said) (n a b : ℕ) (s : State) → Reached s a b
      → Reached (called o (run_from kind) n s).state (a + (called o (run_from kind) n s).count) b
  called_forward kind (some x) n a b s r = rw (add-zero a) r
  called_forward kind none n a b s r = runs kind n 0 a b s (rw (add-zero a) r)

  called_back : (o : Option Said) (n a b : ℕ) (s : State) → Reached s a b → Reached (called o back_from n s).state a (b + (called o back_from n s).count)
  called_back (some x) n a b s r = rw (add-zero b) r
  called_back none n a b s r = returns n 0 a b s (rw (add-zero b) r)

  -- any calls
  abbrev At : Trip → Type 0
  At w = Reached w.state w.ahead w.behind

  forwards : (kind : Kind) (n : ℕ) (w : Trip) → At w → At (forward (run_of kind n w.state) w)
  forwards kind n w r = called_forward kind (run_begins kind w.state) n w.ahead w.behind w.state r

  calls : (c : Call) (w : Trip) → At w → At (call c w)
  calls Step w r = forwards Plain 1 w r
  calls (Run n) w r = forwards Plain n w r
  calls (ProfileRun l n) w r = forwards (Profile l) n w r
  calls (Back n) w r = called_back (back_begins w.state) n w.ahead w.behind w.state r

  travels : (cs : List Call) (w : Trip) → At w → At (travel cs w)
  unfolding travel
  travels [] w r = r
  travels (c ∷ cs) w r = travels cs (call c w) (calls c w r)

  trace_host : {n : ℕ} {t : State} → Trace n t → t.host ≡ s₀.host
  trace_host start = refl
  trace_host (step r h) = trace_host r

  trace_cells : {n : ℕ} {t : State} → Trace n t → length t.cells ≡ length s₀.cells
  trace_cells start = refl
  trace_cells (step {n} {t} r h) = (lengths (effect_in t) t).1 ∙ trace_cells r

  module _ (some_cells : 1 ≤ length s₀.cells) (few_cells : length s₀.cells ≤ most_cells) where
    -- no call on a state that was reached is refused at once
    fine : (s : State) (f b : ℕ) → Reached s f b → back_begins s ≡ none
    fine s f b r =
        let t = r.there in
        let l = trace_lawful r.trace in
        let cells = trace_cells r.trace in
        ap back_begins r.state ∙ ap said_by (passes (length t.cells) t.settings (capacity_of r.journal) t.depth (record {
          some_cells = rw cells some_cells;
          few_cells = rw cells few_cells;
          settled = l.ready.settled;
          room = rw (capacity_blind t r.journal r.long) l.ready.room;
        }))

    -- a single step back
    single : (s : State) (f b : ℕ) → Reached s f b → back_of 1 s ≡ back_from 1 0 s
    single s f b r = rw (fine s f b r)

    at_start : (s : State) → s.depth ≡ 0 → (back_from 1 0 s).said ≡ plainly 8
    unfolding back_from
    at_start s h = rw (eq-eqb s.depth 0 h)

    not_at_start : (s : State) → (s.depth ≡ 0 → ⊥) → damaged_of (length s.cells) (last_of s.journal s.depth) ≡ false → (back_from 1 0 s).said ≡ plainly 0
    unfolding back_from
    not_at_start s h d = rw (ne_eqb s.depth 0 h, d)

    arrived : (w : Trip) → At w → Arrived s₀ w
    arrived w r =
        let c = r.count in
        let far : w.ahead - w.behind ≡ r.far = omega arith in
        let s : steps Plain (w.ahead - w.behind) s₀ ≡ r.there = rw far (trace_steps r.trace) in
        let d : r.there.depth ≡ w.ahead - w.behind = trace_depth r.trace ∙ sym far in
        let k = goes_back w.state w.ahead w.behind r in
        let one = single w.state w.ahead w.behind r in
        record {
          fewer = omega arith;
          sight = ap seen r.state ∙ ap seen (sym s);
          host = ap (λ (x : State). x.host) r.state ∙ trace_host r.trace;
          depth = ap (λ (x : State). x.depth) r.state ∙ d;
          taken = rw s d;
          start = λ h. ap (λ (o : Out). o.said) one ∙ at_start w.state (k.start h);
          elsewhere = λ h.
              let deep : w.state.depth ≡ 0 → ⊥ = λ z. h (k.even z) in
              ap (λ (o : Out). o.said) one ∙ not_at_start w.state deep (k.intact deep);
        }

    -- Demand 3, from any lawful machine at depth 0
    pub journey : (cs : List Call) → Arrived s₀ (travel cs (set_out s₀))
    journey cs = arrived _ (travels cs (set_out s₀) (record {
      far = 0;
      there = s₀;
      journal = s₀.journal;
      trace = start;
      count = refl;
      state = refl;
      words = refl;
      long = refl;
    }))
