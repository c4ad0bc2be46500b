-- A turn of the loop, and its end, against the definition of a run.
-- Assumes nothing.
use Prim.Native.Nat.{ℕ, suc, ◌+◌, ◌-◌, ◌≤◌, ◌<◌}
use mathlib.Core.Path.{◌≡◌, refl}
use mathlib.Core.Bool.{Bool, true, false, cond}
use mathlib.Core.List.{List}
use mathlib.Core.Logic.{◌⊎◌, inl, inr}
use mathlib.Core.Option.{some}
use native.Mathlib.Omega.{arith}
use lib.Dec.{leb, ltb, eqb}
use lib.ListN.{length}
use borrow.Author.Tests.{lt-ltb, eqb-true, eqb-false, lt-leb, leb-true, leb-false}
use Rattle.machine.specs.State.{State, state_with, capacity_of, first_special, pc_of}
use Rattle.machine.specs.declared.Kind.{Kind}
use Rattle.machine.specs.Stops.{plainly}
use Rattle.machine.proofs.Tests.{or_left, and_false}
use Rattle.packed.specs.Packed.{unpacked_of}
use Rattle.journal.specs.Journal.{ended_of, settled_of}
use Rattle.step.specs.Step.{code_of, outside, going, stopped, refusal_of, step_of}
use Rattle.step.proofs.Steps.{refused_with, at_end, off_code, full}
use Rattle.call.specs.Calls.{stop_at, go_on, run_from}
use Rattle.carried.specs.Left.{told_int, told_fault}
use Rattle.stopped.specs.Stopped.{trapped, stopping, ends_by, number_of}
use Rattle.forward.specs.Inner.{held_of, moved_by, final_of, resume_of}

-- a step that does not stop the run
module _ (kind : Kind) (n k told : ℕ) (regs : List ℕ) (s cell depth : ℕ) (host cells journal : List ℕ) (st : State)
    (step : moved_by told regs s cell depth host cells journal ≡ step_of kind st) where
  pub goes_on : stopping told s ≡ false → resume_of kind n (k + 1) regs s (depth + 1) host cells journal ≡ run_from kind (suc n) k st
  unfolding moved_by resume_of run_from
  goes_on h =
      let low : told < told_int = leb-false told_int told (or_left (leb told_int told) (trapped told s) h) in
      rw (← step, lt-ltb told told_fault (omega arith), h, lt-ltb 0 (k + 1) (omega arith)) (go (ended_of regs))
    where
      go : (t : Bool)
          → cond t (stop_at (plainly 1) (k + 1) (state_with regs (settled_of t (unpacked_of s)) (depth + 1) host cells journal)) (run_from kind n (k + 1) (held_of regs s (depth + 1) host cells journal))
          ≡ go_on (run_from kind n) (cond t (stopped (plainly 1)) going) k (state_with regs (settled_of t (unpacked_of s)) (depth + 1) host cells journal)
      go true = refl
      go false = refl

-- a run that has not ended is the definition's
pub not_ended : (kind : Kind) (n k : ℕ) (regs : List ℕ) (s depth : ℕ) (host cells journal : List ℕ) → pc_of regs < first_special
    → resume_of kind n k regs s depth host cells journal ≡ run_from kind n k (held_of regs s depth host cells journal)
unfolding resume_of
not_ended kind n k regs s depth host cells journal h = rw (lt-leb first_special (pc_of regs) h, and_false (ltb 0 k))

pub refused_run : (kind : Kind) (n k : ℕ) (st : State) (j : ℕ) → refusal_of kind st ≡ some j → stop_at (plainly j) k st ≡ run_from kind (suc n) k st
unfolding run_from
refused_run kind n k st j h = rw (← refused_with kind st j h)

-- the loop is over: PC is outside the code, the budget is done, or the journal is full
module _ (kind : Kind) (regs host cells journal : List ℕ) (s depth done budget : ℕ) (le : done ≤ budget)
    (over : (code_of kind (length cells) ≤ pc_of regs) ⊎ ((done ≡ budget) ⊎ (capacity_of journal ≤ depth))) where
  abbrev held : State
  held = held_of regs s depth host cells journal

  abbrev limit : ℕ
  limit = code_of kind (length cells)

  filled : (done ≡ budget → ⊥) → pc_of regs < limit → capacity_of journal ≤ depth
  filled more within = go over
    where
      go : (limit ≤ pc_of regs) ⊎ ((done ≡ budget) ⊎ (capacity_of journal ≤ depth)) → capacity_of journal ≤ depth
      go (inl p) = absurd (omega arith)
      go (inr (inl e)) = absurd (more e)
      go (inr (inr q)) = q

  refuses : (done ≡ budget → ⊥) → (e f : Bool) → leb first_special (pc_of regs) ≡ e → leb limit (pc_of regs) ≡ f
      → (n : ℕ) → stop_at (plainly (cond e 1 (cond f (outside kind) 7))) done held ≡ run_from kind (suc n) done held
  refuses more true f p q n = refused_run kind n done held 1 (at_end kind held (leb-true first_special (pc_of regs) p))
  refuses more false true p q n = refused_run kind n done held (outside kind) (off_code kind held (leb-false first_special (pc_of regs) p) (leb-true limit (pc_of regs) q))
  refuses more false false p q n =
      let within = leb-false limit (pc_of regs) q in
      refused_run kind n done held 7 (full kind held (leb-false first_special (pc_of regs) p) within (filled more within))

  rests : (t : Bool) → eqb done budget ≡ t
      → stop_at (plainly (cond t 0 (cond (ended_of regs) 1 (cond (leb limit (pc_of regs)) (outside kind) 7)))) done held ≡ run_from kind (budget - done) done held
  unfolding run_from
  rests true h = let z : budget - done ≡ 0 = omega (arith, eqb-true done budget h) in rw z
  rests false h =
      let more : done ≡ budget → ⊥ = eqb-false done budget h in
      let z : budget - done ≡ suc (budget - done - 1) = omega arith in
      rw z (refuses more (ended_of regs) (leb limit (pc_of regs)) refl refl (budget - done - 1))

  pub finishes : stop_at (plainly (number_of kind done budget limit (pc_of regs))) done (final_of done regs s depth host cells journal)
      ≡ resume_of kind (budget - done) done regs s depth host cells journal
  unfolding resume_of
  finishes = go (ends_by done (pc_of regs))
    where
      go : (t : Bool)
          → stop_at (plainly (cond t 1 (cond (eqb done budget) 0 (cond (ended_of regs) 1 (cond (leb limit (pc_of regs)) (outside kind) 7))))) done
          (state_with regs (settled_of t (unpacked_of s)) depth host cells journal)
          ≡ cond t (stop_at (plainly 1) done (state_with regs (settled_of t (unpacked_of s)) depth host cells journal)) (run_from kind (budget - done) done held)
      go true = refl
      go false = rests (eqb done budget) refl
