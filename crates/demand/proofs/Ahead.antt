-- One step of a rule that a profile allows: PC rises, the code stays as it is, and there is neither an INT nor float arithmetic nor a wild jump.
-- Assumes nothing.
use Prim.Native.Nat.{ℕ, ◌+◌, ◌%◌, ◌^◌, ◌≤◌, ◌<◌}
use mathlib.Core.Path.{◌≡◌, refl, sym, ap, ◌∙◌}
use mathlib.Core.Bool.{Bool, true, false, cond, ◌&&◌, ◌||◌}
use mathlib.Core.Option.{none}
use mathlib.Core.List.{List}
use native.Mathlib.Omega.{arith}
use lib.Dec.{leb, ltb, eqb}
use lib.ListN.{length, get_or, set, length-set}
use lib.Seq.{get_or-set_same}
use borrow.Author.Tests.{eqb-true, eqb-false, ne_eqb, ltb-false, lt-ltb, le-leb}
use Rattle.half.specs.Half.{se_of}
use Rattle.machine.specs.declared.Kind.TheVariants.{Profile}
use Rattle.machine.specs.State.{State, pc_of, most_cells}
use Rattle.machine.specs.Addresses.{mask_address, mode_address}
use Rattle.machine.proofs.Tests.{picked}
use Rattle.effect.specs.Parts.{Effect, Onward, Interrupt, still, store, load}
use Rattle.float.specs.declared.FloatOp.{FloatOp}
use Rattle.effect.specs.Action.{Action, Cpswp, Ldst, Put, Operate, Split, Bz, Int, Calculate, Float, Illegal, Value, R, Imm, Extended, Lower, Upper}
use Rattle.effect.specs.Operands.{reg, next_of, value_of}
use Rattle.effect.specs.Effect.{illegal_load, illegal_store, effect_of}
use Rattle.effect.specs.Refusal.{wild}
use Rattle.effect.proofs.Branch.{tame}
use Rattle.journal.specs.Journal.{writes_in, regs_after, cells_after}
use Rattle.journal.proofs.Lists.{miss}
use Rattle.journal.proofs.Undo.{length-cells}
use Rattle.profile.specs.declared.Flaw.TheVariants as flaw
use Rattle.std.specs.Prelude.{Result, Ok, Err, ⊤}
use Rattle.profile.specs.declared.Flaw.{Flaw}
use Rattle.profile.specs.Profile.{ends, into, judged_by, judged_of}
use Rattle.profile.specs.Profile as profile
use Rattle.step.specs.Step.{action_in, stores_into, refusal_of, effect_in}
use Rattle.step.proofs.Keeps.{past, clear_in}

-- what a profile says of a cell that it allows
abbrev pub fine : Result ⊤ Flaw
fine = Ok tt

-- the code of a rule: cells 0 to l-1 are there, and each is allowed
pub record Code (l : ℕ) (cells : List ℕ) : Type 0 where
  pub within : l ≤ length cells
  pub few : length cells ≤ most_cells
  pub allowed : (i : ℕ) → i < l → judged_of (get_or cells i 0) ≡ fine

flawed_allowed : {P : Type 0} {f : Flaw} → Err f ≡ fine → P
flawed_allowed h = absurd (cc)

pub false_true : {P : Type 0} → false ≡ true → P
false_true h = absurd (cc)

-- a target that is allowed is not R255
no_target : (t : Bool) (rest : Result ⊤ Flaw) → cond t (Err flaw.Target) rest ≡ fine → (t ≡ false) × (rest ≡ fine)
no_target true rest h = flawed_allowed h
no_target false rest h = (refl, h)

turned : (i : ℕ) → eqb i 255 ≡ false → eqb 255 i ≡ false
turned i h = ne_eqb 255 i (λ e. eqb-false i 255 h (sym e))

-- a branch that is allowed goes forward
goes_ahead : (imm : ℕ) → profile.ahead imm ≡ fine → imm < 32768
goes_ahead imm h = go (ltb 32767 imm) refl h
  where
    go : (t : Bool) → ltb 32767 imm ≡ t → cond t (Err flaw.Back) fine ≡ fine → imm < 32768
    go true e h = flawed_allowed h
    go false e h = omega (arith, ltb-false 32767 imm e)

-- LDUI with #65535 leads past all cells
high : (s : State) (v : Value) → ends v ≡ true → 0xFFFF0000 ≤ value_of s v
high s (Upper i x) h = let e = eqb-true x 65535 h in omega arith
high s (R i) h = false_true h
high s (Imm x) h = false_true h
high s (Extended e x) h = false_true h
high s (Lower i x) h = false_true h

-- R255 that no write names holds the effect's PC
pub pc_stays : (e : Effect) (regs : List ℕ) → (e.a.used && eqb 255 e.a.number) ≡ false → (e.b.used && eqb 255 e.b.number) ≡ false
    → length regs ≡ 256 → pc_of (regs_after e regs) ≡ e.pc
unfolding regs_after
pc_stays e regs p q long = go e.reversed
  where
    first : get_or (set regs 255 e.pc) 255 0 ≡ e.pc
    first = get_or-set_same regs 255 e.pc 0 (omega (arith, long))

    go : (f : Bool) → pc_of (writes_in f e.a e.b (set regs 255 e.pc)) ≡ e.pc
    go true = miss e.a.used _ e.a.number 255 e.a.value p ∙ miss e.b.used _ e.b.number 255 e.b.value q ∙ first
    go false = miss e.b.used _ e.b.number 255 e.b.value q ∙ miss e.a.used _ e.a.number 255 e.a.value p ∙ first

-- what a step does that an allowed action asks for
pub record Ahead (l : ℕ) (s : State) (e : Effect) : Type 0 where
  pub later : length s.regs ≡ 256 → pc_of s.regs < pc_of (regs_after e s.regs)
  pub kept : e.store.used ≡ true → l ≤ e.store.address

module _ (l : ℕ) (s : State) (low : pc_of s.regs < 65536) where
  -- the same where R255 is not written
  record Steady (e : Effect) : Type 0 where
    pc : pc_of s.regs < e.pc
    a : (e.a.used && eqb 255 e.a.number) ≡ false
    b : (e.b.used && eqb 255 e.b.number) ≡ false
    kept : e.store.used ≡ true → l ≤ e.store.address

  next : pc_of s.regs < next_of s.regs
  next = omega arith

  steadily : (e : Effect) → Steady e → Ahead l s e
  steadily e h = record {
    later = λ long. rw (pc_stays e s.regs h.a h.b long) h.pc;
    kept = h.kept;
  }

  steady : Steady (still s)
  steady = record { pc = next; a = refl; b = refl; kept = false_true }

  -- a store that is not into the code
  stored : (p v : ℕ) → (leb 1 p && ltb p l) ≡ false → Steady (store p v (still s))
  stored p v g =
      picked Steady (eqb p 0) _ _ (λ t. steady) (λ t.
      picked Steady (eqb p mask_address) _ _ (λ u. record { pc = next; a = refl; b = refl; kept = false_true }) (λ u.
      picked Steady (eqb p mode_address) _ _ (λ w. record { pc = next; a = refl; b = refl; kept = false_true }) (λ w. record {
        pc = next;
        a = refl;
        b = refl;
        kept = λ z. (let q = eqb-false p 0 t in let c : 1 ≤ p = omega (arith, q) in ltb-false p l (rw (le-leb 1 p c) at g));
      })))

  loaded : (p n v : ℕ) (e : Effect) → eqb n 255 ≡ false → Steady e → Steady (load p n v e)
  loaded p n v e h k = picked Steady (eqb p 0) _ _ (λ t. k) (λ t. record { pc = k.pc; a = turned n h; b = k.b; kept = k.kept })

  -- 3 to 7: LDUI R255, #65535, or another register
  puts : (t : Bool) (n : ℕ) (v : Value) → eqb n 255 ≡ t → cond (ends v) fine (into n fine) ≡ fine → Ahead l s (effect_of (Put n v) s)
  unfolding effect_of regs_after
  puts false n v e h = steadily _ (record { pc = next; a = turned n e; b = refl; kept = false_true })
  puts true n v e h = record {
    later = λ long. rw (eqb-true n 255 e, get_or-set_same (set s.regs 255 (next_of s.regs)) 255 (value_of s v) 0 (rw (length-set s.regs 255 (next_of s.regs)) (omega (arith, long))))
        (omega (arith, high s v (ends_it (ends v) (rw e at h))));
    kept = false_true;
  }
    where
      ends_it : (u : Bool) → cond u fine (Err flaw.Target) ≡ fine → u ≡ true
      ends_it true q = refl
      ends_it false q = flawed_allowed q

  -- 121: the branch goes forward
  branches : (imm : ℕ) → imm < 32768 → pc_of s.regs < (next_of s.regs + se_of imm) % 2 ^ 32
  unfolding se_of
  branches imm h = rw (lt-ltb imm 0x8000 h) (omega arith)

  ahead : (a : Action) → judged_by a ≡ fine → stores_into l a s ≡ false → Ahead l s (effect_of a s)
  unfolding effect_of judged_by stores_into
  ahead (Cpswp n m k) h g =
      let p = no_target (eqb n 255) _ h in
      let q = no_target (eqb k 255) _ p.1 in
      steadily _ (record { pc = next; a = turned n p.0; b = turned k q.0; kept = false_true })
  ahead (Ldst n m k) h g =
      let p = no_target (eqb n 255) _ h in
      steadily _ (picked Steady (illegal_load (reg s k) || illegal_store (reg s m) (reg s n)) _ _
      (λ t. record { pc = next; a = refl; b = refl; kept = false_true })
      (λ t. loaded (reg s k) n _ (store (reg s m) (reg s n) (still s)) p.0 (stored (reg s m) (reg s n) g)))
  ahead (Put n v) h g = puts (eqb n 255) n v refl h
  ahead (Operate op n x y) h g =
      let p = no_target (eqb n 255) _ h in
      steadily _ (record { pc = next; a = turned n p.0; b = refl; kept = false_true })
  ahead (Split x n m k) h g =
      let p = no_target (eqb m 255) _ h in
      let q = no_target (eqb k 255) _ p.1 in
      steadily _ (record { pc = next; a = turned m p.0; b = turned k q.0; kept = false_true })
  ahead (Bz n imm) h g =
      steadily _ (picked Steady (eqb (reg s n) 0) _ _
      (λ t. record { pc = branches imm (goes_ahead imm h); a = refl; b = refl; kept = false_true }) (λ t. steady))
  ahead (Int n imm) h g = flawed_allowed h
  ahead (Calculate op n x y) h g = flawed_allowed h
  ahead Float h g = flawed_allowed h
  ahead Illegal h g = flawed_allowed h

-- a write past the code keeps it
code_kept : (l : ℕ) (cells : List ℕ) (e : Effect) → (e.store.used ≡ true → l ≤ e.store.address) → Code l cells → Code l (cells_after e cells)
unfolding cells_after
code_kept l cells e kept c = record {
  within = rw (length-cells e cells) c.within;
  few = rw (length-cells e cells) c.few;
  allowed = λ i h. ap judged_of (miss e.store.used cells e.store.address i e.store.value (elsewhere e.store.used i h kept)) ∙ c.allowed i h;
}
  where
    elsewhere : (u : Bool) (i : ℕ) → i < l → (u ≡ true → l ≤ e.store.address) → (u && eqb i e.store.address) ≡ false
    elsewhere true i h f = ne_eqb i e.store.address (λ z. omega (arith, f refl, h, z))
    elsewhere false i h f = refl

-- the cell that a PC in the code fetches is allowed
pub allowed_in : (l : ℕ) (s : State) → Code l s.cells → pc_of s.regs < l → judged_by (action_in s) ≡ fine
unfolding judged_of
allowed_in l s c h = c.allowed (pc_of s.regs) h

-- an allowed action answers nothing of its own, and is neither float arithmetic nor a wild jump
module _ (s : State) where
  abbrev Silent : Effect → Type 0
  Silent e = e.answer ≡ Onward

  stores_on : (p v : ℕ) → Silent (store p v (still s))
  stores_on p v =
      picked Silent (eqb p 0) _ _ (λ t. refl) (λ t.
      picked Silent (eqb p mask_address) _ _ (λ t. refl) (λ t.
      picked Silent (eqb p mode_address) _ _ (λ t. refl) (λ t. refl)))

  loads_on : (p n v : ℕ) (e : Effect) → Silent e → Silent (load p n v e)
  loads_on p n v e h = picked Silent (eqb p 0) _ _ (λ t. h) (λ t. h)

  goes_on : (a : Action) → judged_by a ≡ fine → Silent (effect_of a s)
  unfolding effect_of judged_by
  goes_on (Cpswp n m k) h = refl
  goes_on (Ldst n m k) h =
      picked Silent (illegal_load (reg s k) || illegal_store (reg s m) (reg s n)) _ _ (λ t. refl)
      (λ t. loads_on (reg s k) n _ (store (reg s m) (reg s n) (still s)) (stores_on (reg s m) (reg s n)))
  goes_on (Put n v) h = refl
  goes_on (Operate op n x y) h = refl
  goes_on (Split x n m k) h = refl
  goes_on (Bz n imm) h = picked Silent (eqb (reg s n) 0) _ _ (λ t. refl) (λ t. refl)
  goes_on (Int n imm) h = flawed_allowed h
  goes_on (Calculate op n x y) h = flawed_allowed h
  goes_on Float h = flawed_allowed h
  goes_on Illegal h = flawed_allowed h

  pub no_interrupt : judged_by (action_in s) ≡ fine → (v i : ℕ) → (effect_in s).answer ≡ Interrupt v i → ⊥
  unfolding effect_in
  no_interrupt h v i e = let a = goes_on (action_in s) h in cc

  pub no_float : judged_by (action_in s) ≡ fine → action_in s ≡ Float → ⊥
  unfolding judged_by
  no_float h e = flawed_allowed (rw e at h)

  pub no_calculation : judged_by (action_in s) ≡ fine → (op : FloatOp) (n : ℕ) (x y : Value) → action_in s ≡ Calculate op n x y → ⊥
  unfolding judged_by
  no_calculation h op n x y e = flawed_allowed (rw e at h)

  pub no_wild : judged_by (action_in s) ≡ fine → (n imm : ℕ) → action_in s ≡ Bz n imm → wild s.regs n imm ≡ true → ⊥
  unfolding judged_by
  no_wild h n imm e w = let t = tame s.regs n imm (goes_ahead imm (rw e at h)) in false_true (sym t ∙ w)

-- a step of a profile run that is done
module _ (l : ℕ) (s : State) (code : Code l s.cells) (done : refusal_of (Profile l) s ≡ none) where
  pub inside : pc_of s.regs < l
  inside = omega (arith, (clear_in (Profile l) s done).inside)

  unguarded : stores_into l (action_in s) s ≡ false
  unguarded = (past (stores_into l (action_in s) s) 61 none (clear_in (Profile l) s done).guarded).0

  pub ahead_in : Ahead l s (effect_in s)
  unfolding effect_in
  ahead_in = ahead l s (omega (arith, inside, code.within, code.few)) (action_in s) (allowed_in l s code inside) unguarded

  pub code_after : Code l (cells_after (effect_in s) s.cells)
  code_after = code_kept l s.cells (effect_in s) ahead_in.kept code
