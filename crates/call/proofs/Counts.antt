-- A step that is done raises depth by one and one that is refused changes nothing; so a run's count is the rise of depth, and the count of
-- going back its fall.
-- Assumes nothing.
use Prim.Native.Nat.{ℕ, zero, suc, ◌+◌, ◌≤◌}
use mathlib.Core.Path.{◌≡◌, refl, sym, ap, ◌∙◌}
use mathlib.Core.Bool.{Bool, true, false, cond}
use mathlib.Core.Option.{Option, none, some}
use native.Mathlib.Omega.{arith}
use lib.Dec.{eqb}
use lib.ListN.{length}
use borrow.Author.Tests.{eqb-false}
use Rattle.effect.specs.Parts.{Effect, Answer, Onward, Interrupt}
use Rattle.machine.specs.State.{State}
use Rattle.journal.specs.Journal.{ended_of, regs_after, last_of, damaged_of, undo_of}
use Rattle.machine.specs.Stops.{Said, plainly}
use Rattle.step.specs.Step.{Course, going, stopped, refused, traps_of, answered, course_of, effect_in, moved, refusal_of, step_of}
use Rattle.machine.specs.declared.Kind.{Kind}
use Rattle.call.specs.Calls.{Out, stop_at, go_on, run_from, back_from, called, run_begins, back_begins, run_of, back_of}

-- how many steps a course did
abbrev pub done : Course → ℕ
done going = 1
done (stopped x) = 1
done (refused x) = 0

trap_done : (t : Bool) → done (cond t (stopped (plainly 2)) going) ≡ 1
trap_done true = refl
trap_done false = refl

answer_done : (a : Answer) (e : Effect) → done (answered a e) ≡ 1
answer_done Onward e = trap_done (traps_of e)
answer_done (Interrupt v i) e = refl

end_done : (t : Bool) (c : Course) → done c ≡ 1 → done (cond t (stopped (plainly 1)) c) ≡ 1
end_done true c h = refl
end_done false c h = h

-- a step that is not refused is done
pub course_done : (s : State) → done (course_of (effect_in s) s.regs) ≡ 1
unfolding course_of
course_done s =
    let e = effect_in s in
    end_done (ended_of (regs_after e s.regs)) (answered e.answer e) (answer_done e.answer e)

moved_done : (s : State) (o : Option ℕ) → (moved o s).state.depth ≡ s.depth + done (moved o s).course
moved_done s (some k) = omega arith
moved_done s none = rw (course_done s)

pub step_done : (kind : Kind) (s : State) → (step_of kind s).state.depth ≡ s.depth + done (step_of kind s).course
unfolding step_of
step_done kind s = moved_done s (refusal_of kind s)

-- a refused step leaves registers, settings, depth, cells and journal as they were
moved_refused : (s : State) (o : Option ℕ) (x : Said) → (moved o s).course ≡ refused x → (moved o s).state ≡ s
moved_refused s (some k) x h = refl
moved_refused s none x h = let z : ◌≡◌ {A = ℕ} 0 1 = sym (ap done h) ∙ course_done s in absurd (omega arith)

pub step_refused : (kind : Kind) (s : State) (x : Said) → (step_of kind s).course ≡ refused x → (step_of kind s).state ≡ s
unfolding step_of
step_refused kind s x h = moved_refused s (refusal_of kind s) x h

-- a run's count, from k done before
on_count : (rest : ℕ → State → Out) (c : Course) (k d : ℕ) (s : State) → s.depth ≡ d + done c
    → ((j : ℕ) (t : State) → (rest j t).count + t.depth ≡ j + (rest j t).state.depth)
    → (go_on rest c k s).count + d ≡ k + (go_on rest c k s).state.depth
on_count rest going k d s h f = omega (arith, f (k + 1) s)
on_count rest (stopped x) k d s h f = omega arith
on_count rest (refused x) k d s h f = omega arith

pub run_from_count : (kind : Kind) (n k : ℕ) (s : State) → (run_from kind n k s).count + s.depth ≡ k + (run_from kind n k s).state.depth
unfolding run_from
run_from_count kind zero k s = refl
run_from_count kind (suc n) k s = on_count (run_from kind n) (step_of kind s).course k s.depth (step_of kind s).state (step_done kind s) (run_from_count kind n)

-- the count of going back
back_turn : (t u : Bool) (rest : ℕ → State → Out) (k : ℕ) (s : State) → (t ≡ false → 1 ≤ s.depth)
    → ((j : ℕ) (r : State) → (rest j r).count + (rest j r).state.depth ≡ j + r.depth)
    → (cond t (stop_at (plainly 8) k s) (cond u (stop_at (plainly 9) k s) (rest (k + 1) (undo_of s)))).count
    + (cond t (stop_at (plainly 8) k s) (cond u (stop_at (plainly 9) k s) (rest (k + 1) (undo_of s)))).state.depth ≡ k + s.depth
back_turn true u rest k s p f = refl
back_turn false true rest k s p f = refl
back_turn false false rest k s p f = let d = p refl in omega (arith, f (k + 1) (undo_of s))

pub back_from_count : (n k : ℕ) (s : State) → (back_from n k s).count + (back_from n k s).state.depth ≡ k + s.depth
unfolding back_from
back_from_count zero k s = refl
back_from_count (suc n) k s =
    back_turn (eqb s.depth 0) (damaged_of (length s.cells) (last_of s.journal s.depth)) (back_from n) k s
    (λ t. let z = eqb-false s.depth 0 t in omega arith) (back_from_count n)

-- a run's count is the rise of depth, and the count of going back its fall
called_count : (kind : Kind) (n : ℕ) (s : State) (o : Option Said) → (called o (run_from kind) n s).state.depth ≡ s.depth + (called o (run_from kind) n s).count
called_count kind n s (some x) = omega arith
called_count kind n s none = omega (arith, run_from_count kind n 0 s)

pub run_count : (kind : Kind) (n : ℕ) (s : State) → (run_of kind n s).state.depth ≡ s.depth + (run_of kind n s).count
run_count kind n s = called_count kind n s (run_begins kind s)

called_fall : (n : ℕ) (s : State) (o : Option Said) → (called o back_from n s).count + (called o back_from n s).state.depth ≡ s.depth
called_fall n s (some x) = omega arith
called_fall n s none = omega (arith, back_from_count n 0 s)

pub back_count : (n : ℕ) (s : State) → (back_of n s).count + (back_of n s).state.depth ≡ s.depth
back_count n s = called_fall n s (back_begins s)
