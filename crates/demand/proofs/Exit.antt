-- How a run can still end: PC by itself comes no further than a branch does, so that a step that leaves it at its end wrote R255.
-- Assumes nothing.
use Prim.Native.Nat.{ℕ, zero, suc, ◌+◌, ◌^◌, ◌≤◌, ◌<◌}
use mathlib.Core.Path.{◌≡◌, refl, sym, ap, ◌∙◌}
use mathlib.Core.Bool.{Bool, true, false, ◌||◌}
use mathlib.Core.Option.{Option, none, some}
use mathlib.Core.List.{List, [], ◌∷◌}
use native.Mathlib.Omega.{arith}
use lib.Dec.{leb, eqb}
use lib.ListN.{length}
use borrow.Author.Tests.{eqb-true, leb-true, lt-leb}
use Rattle.cell.specs.Cell.{decode_of, imm_of, n_of}
use Rattle.machine.specs.declared.Kind.{Kind}
use Rattle.machine.specs.declared.Kind.TheVariants.{Plain, Profile}
use Rattle.machine.specs.Addresses.{mask_address, mode_address}
use Rattle.machine.specs.State.{State, pc_of, most_cells, capacity_of, first_special}
use Rattle.machine.specs.Stops.{Said}
use Rattle.machine.proofs.Tests.{picked, or_left, or_right}
use Rattle.effect.specs.Parts.{Effect, Answer, Onward, Interrupt, still, store, load}
use Rattle.effect.specs.Action.{Action, Cpswp, Ldst, Put, Operate, Split, Bz, Int, Calculate, Float, Illegal, action_of}
use Rattle.effect.specs.Operands.{reg}
use Rattle.effect.specs.Effect.{illegal_load, illegal_store, effect_of}
use Rattle.effect.specs.Refusal.{refused_by}
use Rattle.effect.proofs.Branch.{lands}
use Rattle.effect.proofs.Rows.{by_rows}
use Rattle.journal.specs.Journal.{ended_of, regs_after}
use Rattle.journal.proofs.Undo.{lengths}
use Rattle.step.specs.Step.{Course, going, stopped, refused, code_of, traps_of, answered, course_of, action_in, effect_in, refusal_of, Moved, moved, step_of}
use Rattle.step.specs.Steps.{steps}
use Rattle.step.proofs.Keeps.{clear}
use Rattle.step.proofs.Steps.{done_with}
use Rattle.call.specs.Calls.{run_of, run_begins}
use Rattle.call.proofs.Counts.{done, course_done}
use Rattle.demand.specs.Demands.{listed, GoesOn, Ends, spent, last, next}
use Rattle.demand.specs.Exit.{is_pc, to_pc, writes_pc, can_write_pc, Underway, Exits, Exited}
use Rattle.demand.proofs.Stops.{Named, by_action, either_named, within, kind_stops, by_kind, run_begins_lem}
use Rattle.demand.proofs.Ahead.{false_true, pc_stays}
use Rattle.demand.proofs.Forward.{was_done, applied}
use Rattle.demand.proofs.Repeat.{repeated}

-- how far an effect takes PC by itself
module _ (s : State) (low : pc_of s.regs + 32768 < 2 ^ 32) where
  abbrev Near : Effect → Type 0
  Near e = e.pc ≤ pc_of s.regs + 32768

  stays : Near (still s)
  stays = omega arith

  stored : (p v : ℕ) → Near (store p v (still s))
  stored p v =
      picked Near (eqb p 0) _ _ (λ t. stays) (λ t.
      picked Near (eqb p mask_address) _ _ (λ t. stays) (λ t.
      picked Near (eqb p mode_address) _ _ (λ t. stays) (λ t. stays)))

  transfers : (n m l : ℕ) → Near (effect_of (Ldst n m l) s)
  unfolding effect_of
  transfers n m l =
      picked Near (illegal_load (reg s l) || illegal_store (reg s m) (reg s n)) _ _ (λ t. stays) (λ t.
      picked Near (eqb (reg s l) 0) _ _ (λ u. stored (reg s m) (reg s n)) (λ u. stored (reg s m) (reg s n)))

  branches : (n imm : ℕ) → imm < 65536 → refused_by (Bz n imm) s ≡ none → Near (effect_of (Bz n imm) s)
  unfolding effect_of
  branches n imm half free = go (eqb (reg s n) 0) refl
    where
      go : (t : Bool) → eqb (reg s n) 0 ≡ t → Near (effect_of (Bz n imm) s)
      go true e = (lands s n imm low half (eqb-true (reg s n) 0 e) free).near
      go false e = rw e stays

  near : (c : ℕ) → refused_by (action_of (decode_of c)) s ≡ none → Near (effect_of (action_of (decode_of c)) s)
  unfolding effect_of
  near c = by_rows (λ (a : Action). refused_by a s ≡ none → Near (effect_of a s)) c (record {
    cpswp = λ f. stays;
    ldst = λ t f. transfers (n_of c) _ _;
    put = λ n v f. stays;
    operate = λ op n v w f. stays;
    split = λ e f. stays;
    bz = branches (n_of c) (imm_of c) (omega arith);
    int = λ t f. stays;
    calculate = λ op n v w f. stays;
    float = λ f. stays;
    illegal = λ f. stays;
  })

-- what writes R255 is an instruction that can
module _ (s : State) where
  first : (t : Bool) → (t || false) ≡ true → t ≡ true
  first true h = refl
  first false h = h

  abbrev Only : Bool → Effect → Type 0
  Only t e = writes_pc e ≡ true → t ≡ true

  abbrev Clean : Effect → Type 0
  Clean e = (to_pc e.a ≡ false) × (to_pc e.b ≡ false)

  clean_store : (p v : ℕ) → Clean (store p v (still s))
  clean_store p v =
      picked Clean (eqb p 0) _ _ (λ t. (refl, refl)) (λ t.
      picked Clean (eqb p mask_address) _ _ (λ t. (refl, refl)) (λ t.
      picked Clean (eqb p mode_address) _ _ (λ t. (refl, refl)) (λ t. (refl, refl))))

  only_load : (p n v : ℕ) (e : Effect) → Clean e → Only (is_pc n) (load p n v e)
  only_load p n v e c = picked (Only (is_pc n)) (eqb p 0) _ _ (λ t h. false_true (rw (c.0, c.1) at h)) (λ t h. first (is_pc n) (rw c.1 at h))

  can_write : (a : Action) → Only (can_write_pc a) (effect_of a s)
  unfolding effect_of
  can_write (Cpswp n m l) h = h
  can_write (Ldst n m l) h =
      picked (Only (is_pc n)) (illegal_load (reg s l) || illegal_store (reg s m) (reg s n)) _ _ (λ t. false_true)
      (λ t. only_load (reg s l) n _ _ (clean_store (reg s m) (reg s n))) h
  can_write (Put n v) h = first (is_pc n) h
  can_write (Operate op n x y) h = first (is_pc n) h
  can_write (Split x n m l) h = h
  can_write (Bz n imm) h = picked (Only false) (eqb (reg s n) 0) _ _ (λ t. false_true) (λ t. false_true) h
  can_write (Int n imm) h = h
  can_write (Calculate op n x y) h = first (is_pc n) h
  can_write Float h = h
  can_write Illegal h = h

-- a step that is done and leaves PC at its end
module _ (s : State) (long : length s.regs ≡ 256) (few : length s.cells ≤ most_cells) where
  by_writing : (kind : Kind) → refusal_of kind s ≡ none → first_special ≤ pc_of (regs_after (effect_in s) s.regs) → Exits s
  unfolding effect_in
  by_writing kind free ended = go (writes_pc (effect_in s)) refl
    where
      go : (t : Bool) → writes_pc (effect_in s) ≡ t → Exits s
      go true e =
          let can = can_write s (action_in s) e in
          record { wrote = e; can = can; no_branch = λ n imm q. false_true (rw q at can) }
      go false e =
          let c = clear kind s free in
          let pc = pc_stays (effect_in s) s.regs (or_left _ _ e) (or_right (to_pc (effect_in s).a) _ e) long in
          let far = near s (omega (arith, c.within)) _ c.allowed in
          absurd (omega (arith, pc, far, c.within, ended))

-- A step from PC below M that leaves PC at 0xFFFF0000 or above wrote R255.
pub step_exits : (kind : Kind) (s : State) → Underway s → first_special ≤ pc_of (step_of kind s).state.regs → Exits s
unfolding step_of
step_exits kind s u ended = go (refusal_of kind s) refl ended
  where
    go : (o : Option ℕ) → refusal_of kind s ≡ o → first_special ≤ pc_of (moved o s).state.regs → Exits s
    go (some k) e h = absurd (omega (arith, u.inside, u.few))
    go none e h = by_writing s u.registers u.few kind e h

-- a step that is not done is refused with 1 only where PC was at its end before it
module _ (kind : Kind) (s : State) where
  other_stops : List ℕ
  other_stops = 4 ∷ 62 ∷ 7 ∷ 6 ∷ 5 ∷ 13 ∷ 61 ∷ []

  not_one : (o : Option ℕ) → Named other_stops o → o ≡ some 1 → ⊥
  unfolding listed other_stops
  not_one o n e = false_true (rw e at n)

  of_the_kind : (kind : Kind) → within (kind_stops kind) other_stops ≡ true
  unfolding listed other_stops
  of_the_kind Plain = refl
  of_the_kind (Profile l) = refl

  rests : ended_of s.regs ≡ false → refusal_of kind s ≡ some 1 → ⊥
  unfolding refusal_of listed other_stops
  rests on e =
      let k = by_kind other_stops kind s (of_the_kind kind) in
      not_one _
      (picked (Named other_stops) (leb (code_of kind (length s.cells)) (pc_of s.regs)) _ _ (λ t. k.0) (λ t.
      picked (Named other_stops) (leb (capacity_of s.journal) s.depth) _ _ (λ t. refl) (λ t.
      either_named other_stops _ _ (by_action other_stops s refl (action_in s) (λ q. refl) (λ op n x y q. refl) (λ n imm q w. refl)) k.1)))
      (rw on at e)

-- the number that a step which is done stops with, if it does
abbrev stop_in : Course → ℕ
stop_in going = 0
stop_in (stopped x) = x.number
stop_in (refused x) = 0

-- what a step that is done says of the PC that it leaves
module _ (e : Effect) (regs : List ℕ) where
  answers_other : (a : Answer) → stop_in (answered a e) ≡ 1 → ⊥
  answers_other Onward h = picked (λ (c : Course). stop_in c ≡ 1 → ⊥) (traps_of e) _ _ (λ t h. omega (arith, h)) (λ t h. omega (arith, h)) h
  answers_other (Interrupt v i) h = omega (arith, h)

  ended_by : stop_in (course_of e regs) ≡ 1 → ended_of (regs_after e regs) ≡ true
  unfolding course_of
  ended_by h =
      picked (λ (c : Course). stop_in c ≡ 1 → ended_of (regs_after e regs) ≡ true) (ended_of (regs_after e regs)) _ _ (λ t h. t) (λ t h. absurd (answers_other e.answer h)) h

  going_by : course_of e regs ≡ going → ended_of (regs_after e regs) ≡ false
  unfolding course_of
  going_by h =
      picked (λ (c : Course). c ≡ going → ended_of (regs_after e regs) ≡ false) (ended_of (regs_after e regs)) _ _ (λ t h. absurd (omega (arith, ap stop_in h))) (λ t h. t) h

module _ (kind : Kind) (s : State) where
  course_is : refusal_of kind s ≡ none → (step_of kind s).course ≡ course_of (effect_in s) s.regs
  course_is free = ap (λ (m : Moved). m.course) (sym (done_with kind s (effect_in s) free refl))

  goes_on : (step_of kind s).course ≡ going → ended_of (step_of kind s).state.regs ≡ false
  goes_on h =
      let free = was_done kind s (ap done h) in
      rw (applied kind s free) (going_by (effect_in s) s.regs (sym (course_is free) ∙ h))

  -- the number of a refusal
  abbrev number_in : Course → ℕ
  number_in going = 0
  number_in (stopped x) = 0
  number_in (refused x) = x.number

  refused_by_lem : (x : Said) → (step_of kind s).course ≡ refused x → refusal_of kind s ≡ some x.number
  unfolding step_of
  refused_by_lem x h = go (refusal_of kind s) h
    where
      go : (o : Option ℕ) → (moved o s).course ≡ refused x → o ≡ some x.number
      go none e = absurd (omega (arith, ap done e, course_done s))
      go (some k) e = ap some (ap number_in e)

module _ (kind : Kind) (s : State) (u : Underway s) where
  -- after k steps that went on
  record Along (t : State) : Type 0 where
    registers : length t.regs ≡ 256
    few : length t.cells ≤ most_cells
    on : ended_of t.regs ≡ false

  along : (k : ℕ) → GoesOn kind k s → Along (steps kind k s)
  unfolding steps
  along zero g = record { registers = u.registers; few = u.few; on = lt-leb first_special (pc_of s.regs) (omega (arith, u.inside, u.few)) }
  along (suc k) g =
      let a = along k (λ j h. g j (omega arith)) in
      let t = steps kind k s in
      let c = g k (omega arith) in
      let long = lengths (effect_in t) t in
      let state = applied kind t (was_done kind t (ap done c)) in
      record {
        registers = rw state (long.0 ∙ a.registers);
        few = rw (state, long.1) a.few;
        on = goes_on kind t c;
      }

  exited : {n f : ℕ} {x : Said} → Ends kind n s f x → x.number ≡ 1 → (k : ℕ) × (f ≡ suc k) × Exits (steps kind k s)
  exited (spent g) e = absurd (omega (arith, e))
  exited (last k x h g c) e =
      let a = along k g in
      let t = steps kind k s in
      let free = was_done kind t (ap done c) in
      let ended = ended_by (effect_in t) t.regs (ap stop_in (sym (course_is kind t free) ∙ c) ∙ e) in
      (k, refl, by_writing t a.registers a.few kind free (leb-true first_special _ ended))
  exited (next k x h g c) e =
      let t = steps kind k s in
      absurd (rests kind t (along k g).on (refused_by_lem kind t x c ∙ ap some e))

  -- A run from PC below M that says 1 did a step at least, and the last one wrote R255.
  pub run_exits : (n : ℕ) → (run_of kind n s).said.number ≡ 1 → Exited kind s (run_of kind n s)
  unfolding listed
  run_exits n e = go (run_begins kind s) refl
    where
      go : (o : Option Said) → run_begins kind s ≡ o → Exited kind s (run_of kind n s)
      go (some x) h =
          let named = rw h at (run_begins_lem (12 ∷ 10 ∷ 11 ∷ 60 ∷ []) refl refl refl s kind (λ l q. refl)) in
          let one : x.number ≡ 1 = rw h at e in
          false_true (rw one at named)
      go none h =
          let x = exited (repeated kind n s h).ends e in
          record { before = x.0; count = x.1; last = x.2 }
