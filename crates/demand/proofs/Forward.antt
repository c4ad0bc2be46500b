-- A rule that a profile allows comes to an end: each step of a profile run takes PC further in code that stays as it is, so that no more steps are
-- done than the code has cells, over any list of such runs.
-- Assumes nothing.
use Prim.Native.Nat.{ℕ, zero, suc, ◌+◌, ◌-◌, ◌≤◌, ◌<◌}
use mathlib.Core.Path.{◌≡◌, refl, sym, ap, ◌∙◌}
use mathlib.Core.Bool.{true, false}
use mathlib.Core.Option.{Option, none, some}
use mathlib.Core.List.{List, [], ◌∷◌}
use native.Mathlib.Omega.{arith}
use lib.ListN.{length}
use Rattle.machine.specs.declared.Kind.{Kind}
use Rattle.machine.specs.declared.Kind.TheVariants.{Plain, Profile}
use Rattle.machine.specs.State.{State, pc_of, capacity_of}
use Rattle.machine.specs.Stops.{Said}
use Rattle.machine.proofs.Tests.{picked}
use Rattle.journal.specs.Journal.{apply_of}
use Rattle.journal.proofs.Undo.{lengths}
use Rattle.profile.specs.Profile.{rule_of}
use Rattle.profile.proofs.Allowed.{forward_length, forward_allowed}
use Rattle.step.specs.Step.{Moved, action_in, stores_into, code_of, refusal_of, effect_in, moved, step_of}
use Rattle.step.specs.Steps.{steps, course_after}
use Rattle.step.proofs.Steps.{done_with}
use Rattle.call.specs.Calls.{Out, run_from, run_begins, run_of}
use Rattle.call.proofs.Checks.{rule_passed, run_checked}
use Rattle.call.proofs.Counts.{done}
use Rattle.demand.specs.Demands.{listed, run_stops, GoesOn, Ends, spent, last, next}
use Rattle.demand.specs.Journey.{ProfileRun, Trip, set_out, call, travel}
use Rattle.demand.specs.Forward.{profile_runs, Forward, Ample, end_stops, Concludes}
use Rattle.demand.proofs.Stops.{Named, Fine, Has, within, step_fine, any_step, step_stops, widen, run_begins_lem, call_said}
use Rattle.demand.proofs.Ahead.{Code, allowed_in, no_interrupt, no_float, no_calculation, no_wild, inside, ahead_in, code_after}
use Rattle.demand.proofs.Repeat.{repeated, ends_fine}

-- a step that is done was not refused, and its effect is applied
module _ (kind : Kind) (s : State) where
  undone : (o : Option ℕ) → done (moved o s).course ≡ 1 → o ≡ none
  undone none h = refl
  undone (some k) h = absurd (omega (arith, h))

  pub was_done : done (step_of kind s).course ≡ 1 → refusal_of kind s ≡ none
  unfolding step_of
  was_done h = undone (refusal_of kind s) h

  pub applied : refusal_of kind s ≡ none → (step_of kind s).state ≡ apply_of (effect_in s) s
  applied h = ap (λ (m : Moved). m.state) (sym (done_with kind s (effect_in s) h refl))

-- where a profile run from s is after k steps, each of them done
pub record Along (l : ℕ) (s : State) (k : ℕ) (t : State) : Type 0 where
  pub code : Code l t.cells
  pub depth : t.depth ≡ s.depth + k
  pub journal : length t.journal ≡ length s.journal
  pub registers : length t.regs ≡ length s.regs
  pub left : length s.regs ≡ 256 → k + (l - pc_of t.regs) ≤ l - pc_of s.regs

module _ (l : ℕ) (s : State) where
  along_first : Code l s.cells → Along l s 0 s
  along_first c = record { code = c; depth = omega arith; journal = refl; registers = refl; left = λ h. omega arith }

  along_next : (k : ℕ) (t : State) → Along l s k t → done (step_of (Profile l) t).course ≡ 1 → Along l s (suc k) (step_of (Profile l) t).state
  along_next k t a d =
      let free = was_done (Profile l) t d in
      let long = lengths (effect_in t) t in
      let low = inside l t a.code free in
      rw (applied (Profile l) t free) (record {
        code = code_after l t a.code free;
        depth = (let q = a.depth in omega arith);
        journal = long.2 ∙ a.journal;
        registers = long.0 ∙ a.registers;
        left = λ h. omega (arith, a.left h, low, (ahead_in l t a.code free).later (a.registers ∙ h));
      })

  along : Code l s.cells → (k : ℕ) → GoesOn (Profile l) k s → Along l s k (steps (Profile l) k s)
  unfolding steps
  along c zero g = along_first c
  along c (suc k) g = along_next k _ (along c k (λ j h. g j (omega arith))) (ap done (g k (omega arith)))

  -- where it ends
  along_end : Code l s.cells → {n f : ℕ} {x : Said} → Ends (Profile l) n s f x → Along l s f (steps (Profile l) f s)
  unfolding steps
  along_end c (spent g) = along c _ g
  along_end c (last k x h g e) = along_next k _ (along c k g) (ap done e)
  along_end c (next k x h g e) = along c k g

-- the check of a call that begins has found the code
code_begun : (l : ℕ) (s : State) → run_begins (Profile l) s ≡ none → Code l s.cells
code_begun l s h =
    let b = run_checked (Profile l) s.cells s.settings (capacity_of s.journal) s.depth (sym h) in
    let f = rule_passed (rule_of l s.cells) b.1 in
    record { within = (forward_length l s.cells f).1; few = b.0.few_cells; allowed = forward_allowed l s.cells f }

-- one call: what it did is no more than PC had left
record Went (l : ℕ) (s : State) (o : Out) : Type 0 where
  registers : length o.state.regs ≡ 256
  left : o.count + (l - pc_of o.state.regs) ≤ l - pc_of s.regs

one_call : (l n : ℕ) (s : State) → length s.regs ≡ 256 → Went l s (run_of (Profile l) n s)
one_call l n s long = by (run_begins (Profile l) s) refl
  where
    by : (o : Option Said) → run_begins (Profile l) s ≡ o → Went l s (run_of (Profile l) n s)
    by (some x) h = rw h (record { registers = long; left = omega arith })
    by none h =
        let r = repeated (Profile l) n s h in
        let a = along_end l s (code_begun l s h) r.ends in
        record { registers = rw r.state (a.registers ∙ long); left = rw r.state (a.left long) }

runs_left : (l : ℕ) (ns : List ℕ) (w : Trip) → length w.state.regs ≡ 256 → (travel (profile_runs l ns) w).ahead ≤ w.ahead + (l - pc_of w.state.regs)
unfolding travel profile_runs
runs_left l [] w long = omega arith
runs_left l (n ∷ ns) w long =
    let c = one_call l n w.state long in
    omega (arith, c.left, runs_left l ns (call (ProfileRun l n) w) c.registers)

-- From any machine, over any profile runs with one L: at most L steps in all
pub forward_only : (l : ℕ) (s : State) → length s.regs ≡ 256 → (budgets : List ℕ) → Forward l s (travel (profile_runs l budgets) (set_out s))
forward_only l s long budgets =
    let h = runs_left l budgets (set_out s) long in
    record { few = omega arith; fewer = omega arith }

-- what a step in the code may name is on a list that has these, and 7 where the journal is full
has : (l : ℕ) (t : State) → Code l t.cells → (r : List ℕ) → within end_stops r ≡ true
    → (pc_of t.regs < code_of (Profile l) (length t.cells) → capacity_of t.journal ≤ t.depth → listed r 7 ≡ true) → Has r (Profile l) t
unfolding listed
has l t c r w full = record {
  ended = widen end_stops r w 1 refl;
  trap = widen end_stops r w 2 refl;
  int = λ q v i e. absurd (no_interrupt t (allowed_in l t c (omega arith)) v i e);
  off = widen end_stops r w 62 refl;
  fault = widen end_stops r w 5 refl;
  float = λ q e. absurd (no_float t (allowed_in l t c (omega arith)) e);
  calculate = λ q op n x y e. absurd (no_calculation t (allowed_in l t c (omega arith)) op n x y e);
  wild = λ q n imm e w. absurd (no_wild t (allowed_in l t c (omega arith)) n imm e w);
  full = full;
  guard = picked (Named r) (stores_into l (action_in t) t) _ _ (λ z. widen end_stops r w 61 refl) (λ z. tt);
}

-- Demand 1: what a run says is one of the numbers for it
abbrev code_stops : List ℕ
code_stops = 7 ∷ end_stops

pub run_said : (kind : Kind) (n : ℕ) (s : State) → listed (run_stops kind) (run_of kind n s).said.number ≡ true
unfolding listed
run_said Plain n s =
    call_said (run_stops Plain) (run_begins Plain s) (run_from Plain) n s
    (run_begins_lem (run_stops Plain) refl refl refl s Plain (λ l e. absurd (cc)))
    (λ h. widen (0 ∷ step_stops Plain) (run_stops Plain) refl (run_of Plain n s).said.number
    (ends_fine Plain (step_stops Plain) s (λ k g. step_fine (step_stops Plain) Plain _ (any_step Plain _)) (repeated Plain n s h).ends))
run_said (Profile l) n s =
    call_said (run_stops (Profile l)) (run_begins (Profile l) s) (run_from (Profile l)) n s
    (run_begins_lem (run_stops (Profile l)) refl refl refl s (Profile l) (λ l e. refl))
    (λ h. widen (0 ∷ code_stops) (run_stops (Profile l)) refl (run_of (Profile l) n s).said.number
    (ends_fine (Profile l) code_stops s
    (λ k g. step_fine code_stops (Profile l) _
    (has l _ (along l s (code_begun l s h) k g).code code_stops refl (λ q e. refl)))
    (repeated (Profile l) n s h).ends))

-- a profile run with budget and room enough
module _ (l n : ℕ) (s : State) (a : Ample l n s) where
  same_capacity : (t : State) → length t.journal ≡ length s.journal → capacity_of t.journal ≡ capacity_of s.journal
  unfolding capacity_of
  same_capacity t e = rw e

  course_fine : Code l s.cells → (k : ℕ) → GoesOn (Profile l) k s → Fine end_stops (course_after (Profile l) k s)
  unfolding listed
  course_fine c k g =
      let t = steps (Profile l) k s in
      let w = along l s c k g in
      step_fine end_stops (Profile l) t (has l t w.code end_stops refl (λ q e.
      absurd (omega (arith, q, e, w.depth, w.left a.registers, a.room, same_capacity t w.journal))))

  comes : Code l s.cells → {f : ℕ} {x : Said} → Ends (Profile l) n s f x → listed end_stops x.number ≡ true
  comes c (spent g) = absurd (omega (arith, (along l s c n g).left a.registers, a.budget))
  comes c (last k x h g e) = rw e at (course_fine c k g)
  comes c (next k x h g e) = rw e at (course_fine c k g)

  said_in : run_begins (Profile l) s ≡ none → listed end_stops (run_of (Profile l) n s).said.number ≡ true
  said_in h = comes (code_begun l s h) (repeated (Profile l) n s h).ends

  abbrev last_stops : List ℕ
  last_stops = 10 ∷ 11 ∷ 12 ∷ 60 ∷ end_stops

  said_at_all : listed last_stops (run_of (Profile l) n s).said.number ≡ true
  unfolding listed
  said_at_all =
      call_said last_stops (run_begins (Profile l) s) (run_from (Profile l)) n s (run_begins_lem last_stops refl refl refl s (Profile l) (λ l e. refl))
      (λ h. widen end_stops last_stops refl (run_of (Profile l) n s).said.number (said_in h))

  not_listed : (k : ℕ) → listed last_stops k ≡ false → (run_of (Profile l) n s).said.number ≡ k → ⊥
  not_listed k f e = let z : ◌≡◌ {A = ℕ} 0 1 = (let y : listed last_stops k ≡ true = rw e at said_at_all in cc) in omega arith

  -- it comes to an end, a trap, a fault or PC outside the code, and never to the end of its budget or its journal
  pub concludes : Concludes l s (run_of (Profile l) n s)
  unfolding listed
  concludes = record { said = said_in; not_spent = not_listed 0 refl; not_full = not_listed 7 refl }
