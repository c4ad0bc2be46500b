-- What carry_out leaves, with told 0 before it, is what a step of the definition makes of the state that the code holds.
-- Assumes nothing.
use Prim.Native.Nat.{ℕ, ◌+◌, ◌-◌, ◌<◌}
use mathlib.Core.Path.{◌≡◌, refl, ◌∙◌}
use mathlib.Core.Bool.{Bool, true, false, cond}
use mathlib.Core.List.{List}
use mathlib.Core.Option.{Option, none, some, or_else}
use mathlib.Core.Logic.{◌⊎◌, inl, inr}
use native.Mathlib.Omega.{arith}
use lib.Dec.{leb, ltb, eqb}
use lib.ListN.{length, get_or, set}
use borrow.Author.Tests.{lt-ltb, ne_eqb, eqb-true, lt-leb}
use borrow.Rule.Slice.PartMut.{mid_of, put_mid, put_same}
use Rattle.cell.specs.Cell.{opcode_of, n_of, imm_of, decode_of}
use Rattle.machine.specs.State.{State, capacity_of, first_special, pc_of, InRange}
use Rattle.machine.specs.declared.Kind.{Kind}
use Rattle.machine.specs.Stops.{Said, plainly, interrupted}
use Rattle.machine.proofs.Tests.{picked}
use Rattle.packed.specs.Packed.{packed_of, unpacked_of}
use Rattle.packed.proofs.Laws.{unpacked_packed}
use Rattle.effect.specs.Action.{Action, action_of}
use Rattle.effect.specs.Becomes.{became_of}
use Rattle.effect.specs.Effect.{effect_of}
use Rattle.effect.specs.Operands.{next_of, operand_of}
use Rattle.effect.specs.Parts.{Effect}
use Rattle.effect.specs.Refusal.{refused_by}
use Rattle.effect.proofs.Blind.{effect_blind, refusal_blind}
use Rattle.effect.proofs.Opcodes.{int}
use Rattle.effect.proofs.Safe.{safe}
use Rattle.journal.specs.Words.{start_of}
use Rattle.journal.specs.Journal.{entry_of, regs_after, settings_after, ended_of}
use Rattle.journal.proofs.Room.{entered_whole}
use Rattle.journal.proofs.Undo.{length-regs}
use Rattle.step.specs.Step.{code_of, guard_of, going, stopped, effect_in, refusal_of, traps_of, course_of, step_of}
use Rattle.step.proofs.Steps.{refused_with, done_with, looked_at}
use Rattle.carried.specs.Left.{Left, left, left_of, done_by, before, told_by, told_int, told_fault, told_refused}
use Rattle.carried.proofs.Operands.{read}
use Rattle.stopped.specs.Stopped.{refusal_by}
use Rattle.forward.specs.Inner.{held_of, course_by, moved_by}
use Rattle.guard.specs.Guard.{guarded_of, stores_below}
use Rattle.guard.proofs.Guarded.{passes, caught}
use Rattle.forward.proofs.Told.{plain, own_stop}

-- a step, from what it left, with the journal that it left
pub record Goes (kind : Kind) (st : State) (cell : ℕ) (journal : List ℕ) (l : Left) : Type 0 where
  pub step : moved_by l.told l.regs l.settings cell st.depth st.host l.cells journal ≡ step_of kind st
  pub settled : InRange (unpacked_of l.settings)
  pub long : length l.regs ≡ 256

-- told is 0 where no flag rose
raised_told : (r : ℕ) → cond (eqb r 0) 0 r ≡ r
raised_told r = picked (λ (x : ℕ). x ≡ r) (eqb r 0) 0 r (λ t. omega (arith, eqb-true r 0 t)) (λ t. refl)

-- a refusal is told as one, and as itself
refused_told : (k : ℕ) → (k ≡ 5) ⊎ ((k ≡ 6) ⊎ (k ≡ 13)) → (ltb (told_refused k) told_fault ≡ false) × (refusal_by (told_refused k) ≡ plainly k)
refused_told k (inl e) = (rw e, rw e)
refused_told k (inr (inl e)) = (rw e, rw e)
refused_told k (inr (inr e)) = (rw e, rw e)

-- a stop that a test picks
stops_by : (t : Bool) (x y : Said) → stopped (cond t x y) ≡ cond t (stopped x) (stopped y)
stops_by true x y = refl
stops_by false x y = refl

traps_by : (t u : Bool) → cond u (stopped (cond t (plainly 1) (plainly 2))) (cond t (stopped (plainly 1)) going) ≡ cond t (stopped (plainly 1)) (cond u (stopped (plainly 2)) going)
traps_by true true = refl
traps_by true false = refl
traps_by false true = refl
traps_by false false = refl

-- the course of a step that is done, from what it told
module _ (st : State) (cell : ℕ) (long : length st.regs ≡ 256) (range : InRange (effect_of (action_of (decode_of cell)) st).settings) where
  abbrev eff : Effect
  eff = effect_of (action_of (decode_of cell)) st

  abbrev told : ℕ
  told = told_by 0 eff.answer eff.raised

  record Told : Type 0 where
    course : course_by told (regs_after eff st.regs) (packed_of eff.settings) cell ≡ course_of eff st.regs
    low : told < told_fault

  tells : (t : Bool) → eqb (opcode_of cell) 122 ≡ t → Told
  unfolding course_of effect_of regs_after
  tells true h =
      let i = int cell (eqb-true (opcode_of cell) 122 h) in
      let said : Said = interrupted (operand_of st.regs (n_of cell)) (imm_of cell) in
      record {
        course = rw (i, read st.regs long (n_of cell)) (stops_by (leb first_special (pc_of (set st.regs 255 (next_of st.regs)))) (plainly 1) said);
        low = rw i (omega arith);
      }
  tells false h =
      let p = plain st cell h in
      record {
        course = rw (p.answer, raised_told, lt-leb told_int eff.raised p.raised, ne_eqb eff.raised told_int (λ e. omega (arith, p.raised)), unpacked_packed eff.settings range) (traps_by (ended_of (regs_after eff st.regs)) (traps_of eff));
        low = rw (p.answer, raised_told) (omega (arith, p.raised));
      }

module _ (kind : Kind) (regs host cells journal : List ℕ) (s depth at cell : ℕ) (settled : InRange (unpacked_of s)) (long : length regs ≡ 256)
    (on : pc_of regs < first_special) (within : pc_of regs < code_of kind (length cells)) (fetched : cell ≡ get_or cells (pc_of regs) 0)
    (space : depth < capacity_of journal) (place : at ≡ start_of depth) where
  abbrev held : State
  held = held_of regs s depth host cells journal

  abbrev action : Action
  action = action_of (decode_of cell)

  abbrev part : List ℕ
  part = mid_of at (at + 8 - at) journal

  -- the journal with the part put back
  abbrev whole : List ℕ → List ℕ
  whole p = put_mid at (at + 8 - at) journal p

  looked : refusal_of kind held ≡ or_else (refused_by action held) (guard_of kind action held)
  looked = rw fetched (looked_at kind held on within space)

  -- a store into the code
  pub overwrites : stores_below (guarded_of kind) (length cells) regs cell ≡ true → refusal_of kind held ≡ some 61
  overwrites h = looked ∙ caught held cell kind h

  effect_is : effect_in held ≡ effect_of action held
  unfolding effect_in
  effect_is = rw fetched

  abbrev Stepped : Left → Type 0
  Stepped l = Goes kind held cell (whole l.part) l

  module _ (free : stores_below (guarded_of kind) (length cells) regs cell ≡ false) where
    refusal : refusal_of kind held ≡ refused_by action held
    refusal = looked ∙ passes held cell kind free

    done : refused_by action held ≡ none → Stepped (done_by 0 (effect_of action held) (before regs s host cells part))
    unfolding moved_by settings_after
    done n =
        let e = effect_of action held in
        let range : InRange e.settings = (safe held action n).settings settled in
        let t = tells held cell long range (eqb (opcode_of cell) 122) refl in
        record {
          step = rw (← done_with kind held e (refusal ∙ n) effect_is, lt-ltb (told_by 0 e.answer e.raised) told_fault t.low, t.course, unpacked_packed e.settings range, place, entered_whole journal depth space (entry_of e regs (unpacked_of s) cells));
          settled = rw (unpacked_packed e.settings range) range;
          long = length-regs e regs ∙ long;
        }

    refused_at_lem : (k : ℕ) → refused_by action held ≡ some k → (k ≡ 5) ⊎ ((k ≡ 6) ⊎ (k ≡ 13)) → Stepped (left regs cells part (packed_of (unpacked_of s)) (told_refused k))
    unfolding moved_by
    refused_at_lem k n o = record {
      step = rw (← refused_with kind held k (refusal ∙ n), (refused_told k o).0, (refused_told k o).1, unpacked_packed (unpacked_of s) settled, put_same at (at + 8 - at) journal);
      settled = rw (unpacked_packed (unpacked_of s) settled) settled;
      long = long;
    }

    became : (o : Option ℕ) → refused_by action held ≡ o → Stepped (left_of 0 action (before regs s host cells part))
    unfolding left_of became_of
    became none n = rw (refusal_blind held 0 part action, effect_blind held 0 part action, n) (done n)
    became (some k) n = rw (refusal_blind held 0 part action, n) (refused_at_lem k n (own_stop held action k n))

    pub stepped : (l : Left) → l ≡ left_of 0 action (before regs s host cells part) → Stepped l
    stepped l e = rw e (became (refused_by action held) refl)
