-- The host's words: no step, run, profile run or back changes them.
-- Assumes nothing.
use Prim.Native.Nat.{ℕ, zero, suc, ◌+◌}
use mathlib.Core.Path.{◌≡◌, refl, ◌∙◌}
use mathlib.Core.Bool.{Bool, true, false, cond}
use mathlib.Core.Option.{Option, none, some}
use mathlib.Core.List.{List}
use lib.Dec.{eqb}
use lib.ListN.{length}
use Rattle.machine.specs.State.{State}
use Rattle.machine.specs.Stops.{Said, plainly}
use Rattle.machine.specs.declared.Kind.{Kind}
use Rattle.journal.specs.Journal.{last_of, damaged_of, undo_of}
use Rattle.step.specs.Step.{Course, going, stopped, refused, refusal_of, moved, step_of}
use Rattle.call.specs.Calls.{Out, stop_at, go_on, run_from, back_from, run_begins, back_begins, called, run_of, back_of}

-- what has these words
abbrev Kept : List ℕ → Out → Type 0
Kept host o = o.state.host ≡ host

moved_keeps : (o : Option ℕ) (s : State) → (moved o s).state.host ≡ s.host
moved_keeps none s = refl
moved_keeps (some k) s = refl

pub step_keeps : (kind : Kind) (s : State) → (step_of kind s).state.host ≡ s.host
unfolding step_of
step_keeps kind s = moved_keeps (refusal_of kind s) s

-- a run, after a step
on_keeps : (host : List ℕ) (rest : ℕ → State → Out) (c : Course) (k : ℕ) (s : State) → s.host ≡ host
    → ((j : ℕ) (t : State) → t.host ≡ host → Kept host (rest j t)) → Kept host (go_on rest c k s)
on_keeps host rest going k s h f = f (k + 1) s h
on_keeps host rest (stopped x) k s h f = h
on_keeps host rest (refused x) k s h f = h

runs_keep : (host : List ℕ) (kind : Kind) (n k : ℕ) (s : State) → s.host ≡ host → Kept host (run_from kind n k s)
unfolding run_from
runs_keep host kind zero k s h = h
runs_keep host kind (suc n) k s h = on_keeps host (run_from kind n) (step_of kind s).course k (step_of kind s).state (step_keeps kind s ∙ h) (runs_keep host kind n)

-- going back, by its two tests
home_keeps : (host : List ℕ) (t u : Bool) (k : ℕ) (s : State) (rest : Out) → s.host ≡ host → Kept host rest
    → Kept host (cond t (stop_at (plainly 8) k s) (cond u (stop_at (plainly 9) k s) rest))
home_keeps host true u k s rest h r = h
home_keeps host false true k s rest h r = h
home_keeps host false false k s rest h r = r

backs_keep : (host : List ℕ) (n k : ℕ) (s : State) → s.host ≡ host → Kept host (back_from n k s)
unfolding back_from
backs_keep host zero k s h = h
backs_keep host (suc n) k s h =
    home_keeps host (eqb s.depth 0) (damaged_of (length s.cells) (last_of s.journal s.depth)) k s (back_from n (k + 1) (undo_of s)) h
    (backs_keep host n (k + 1) (undo_of s) h)

-- a call, refused at once or not
called_keeps : (o : Option Said) (body : ℕ → ℕ → State → Out) (n : ℕ) (s : State) → Kept s.host (body n 0 s) → Kept s.host (called o body n s)
called_keeps (some x) body n s h = refl
called_keeps none body n s h = h

-- A step is a plain run of budget 1.
pub run_keeps : (kind : Kind) (n : ℕ) (s : State) → (run_of kind n s).state.host ≡ s.host
run_keeps kind n s = called_keeps (run_begins kind s) (run_from kind) n s (runs_keep s.host kind n 0 s refl)

pub back_keeps : (n : ℕ) (s : State) → (back_of n s).state.host ≡ s.host
back_keeps n s = called_keeps (back_begins s) back_from n s (backs_keep s.host n 0 s refl)
