-- Which stops a step and the check of a call may name: each is on the list for the call, of document 01 or of document 02, 2026-02 and 2026-04.
-- Assumes nothing.
use Prim.Native.Nat.{ℕ, ◌≤◌, ◌<◌}
use mathlib.Core.Path.{◌≡◌, refl}
use mathlib.Core.Bool.{Bool, true, false, ◌&&◌, ◌||◌}
use mathlib.Core.Option.{Option, none, some, or_else}
use mathlib.Core.List.{List, [], ◌∷◌}
use lib.Dec.{leb, ltb, eqb}
use lib.ListN.{length}
use borrow.Author.Tests.{eqb-true, leb-true, leb-false}
use Rattle.effect.specs.Parts.{Answer, Onward, Interrupt, Effect}
use Rattle.machine.specs.declared.Kind.{Kind}
use Rattle.machine.specs.declared.Kind.TheVariants.{Plain, Profile}
use Rattle.machine.specs.declared.Settings.{Settings}
use Rattle.machine.specs.State.{pc_of, State, capacity_of, bad_cells, bad_settings}
use Rattle.float.specs.declared.FloatOp.{FloatOp}
use Rattle.effect.specs.Action.{Action, Cpswp, Ldst, Put, Operate, Split, Bz, Int, Calculate, Float, Illegal, Value}
use Rattle.effect.specs.Operands.{reg}
use Rattle.effect.specs.Refusal.{faults, wild, refused_by}
use Rattle.machine.proofs.Tests.{picked}
use Rattle.journal.specs.Journal.{ended_of, regs_after}
use Rattle.machine.specs.Stops.{Said, plainly}
use Rattle.std.specs.Prelude.{Result, Ok, Err, ⊤}
use Rattle.profile.specs.declared.BadRule.{BadRule}
use Rattle.profile.specs.declared.BadRule.TheVariants.{Length, Cell}
use Rattle.profile.specs.Profile.{rule_of}
use Rattle.profile.specs.Answers.{barred_by}
use Rattle.step.specs.Step.{Course, going, stopped, refused, code_of, outside, stores_into, guard_of, traps_of, answered, course_of, refusal_of, effect_in, action_in, moved, step_of}
use Rattle.step.proofs.Keeps.{clear_in}
use Rattle.call.specs.Calls.{Out, check_of, said_by, barred, back_begins, run_begins, called}
use Rattle.demand.specs.Demands.{listed}

-- what was named, if anything was, is in a list
abbrev pub Named : List ℕ → Option ℕ → Type 0
Named l none = Prim.Unit {0}
Named l (some k) = listed l k ≡ true

abbrev pub NamedBy : List ℕ → Option Said → Type 0
NamedBy l none = Prim.Unit {0}
NamedBy l (some x) = listed l x.number ≡ true

abbrev pub Fine : List ℕ → Course → Type 0
Fine l going = Prim.Unit {0}
Fine l (stopped x) = listed l x.number ≡ true
Fine l (refused x) = listed l x.number ≡ true

-- a list has all that a step from s may name
pub record Has (l : List ℕ) (kind : Kind) (s : State) : Type 0 where
  pub ended : listed l 1 ≡ true
  pub trap : listed l 2 ≡ true
  pub int : pc_of s.regs < code_of kind (length s.cells) → (v i : ℕ) → (effect_in s).answer ≡ Interrupt v i → listed l 3 ≡ true
  pub off : listed l (outside kind) ≡ true
  pub fault : listed l 5 ≡ true
  pub float : pc_of s.regs < code_of kind (length s.cells) → action_in s ≡ Float → listed l 6 ≡ true
  pub calculate : pc_of s.regs < code_of kind (length s.cells) → (op : FloatOp) (n : ℕ) (x y : Value) → action_in s ≡ Calculate op n x y → listed l 6 ≡ true
  pub wild : pc_of s.regs < code_of kind (length s.cells) → (n imm : ℕ) → action_in s ≡ Bz n imm → wild s.regs n imm ≡ true → listed l 13 ≡ true
  pub full : pc_of s.regs < code_of kind (length s.cells) → capacity_of s.journal ≤ s.depth → listed l 7 ≡ true
  pub guard : Named l (guard_of kind (action_in s) s)

pub by_action : (l : List ℕ) (s : State) → listed l 5 ≡ true → (a : Action) → (a ≡ Float → listed l 6 ≡ true)
    → ((op : FloatOp) (n : ℕ) (x y : Value) → a ≡ Calculate op n x y → listed l 6 ≡ true)
    → ((n imm : ℕ) → a ≡ Bz n imm → wild s.regs n imm ≡ true → listed l 13 ≡ true) → Named l (refused_by a s)
unfolding refused_by
by_action l s h (Cpswp n m k) f g w = tt
by_action l s h (Ldst n m k) f g w =
    picked (Named l) (faults (length s.cells) (reg s k) || faults (length s.cells) (reg s m)) _ _ (λ t. h) (λ t. tt)
by_action l s h (Put n v) f g w = tt
by_action l s h (Operate op n x y) f g w = tt
by_action l s h (Split x n m k) f g w = tt
by_action l s h (Bz n imm) f g w = picked (Named l) (wild s.regs n imm) _ _ (w n imm refl) (λ t. tt)
by_action l s h (Int n imm) f g w = tt
by_action l s h (Calculate op n x y) f g w = picked (Named l) (eqb s.settings.mode 3) _ _ (λ t. tt) (λ t. g op n x y refl)
by_action l s h Float f g w = f refl
by_action l s h Illegal f g w = tt

pub either_named : (l : List ℕ) (o p : Option ℕ) → Named l o → Named l p → Named l (or_else o p)
unfolding or_else
either_named l none p f g = g
either_named l (some k) p f g = f

refusal_named : (l : List ℕ) (kind : Kind) (s : State) → Has l kind s → Named l (refusal_of kind s)
unfolding refusal_of
refusal_named l kind s h =
    picked (Named l) (ended_of s.regs) _ _ (λ t. h.ended) (λ t.
    picked (Named l) (leb (code_of kind (length s.cells)) (pc_of s.regs)) _ _ (λ t. h.off) (λ u.
    picked (Named l) (leb (capacity_of s.journal) s.depth) _ _ (λ t. h.full (leb-false _ _ u) (leb-true _ _ t)) (λ t.
    either_named l _ _ (by_action l s h.fault (action_in s) (h.float (leb-false _ _ u)) (h.calculate (leb-false _ _ u)) (h.wild (leb-false _ _ u))) h.guard)))

answer_fine : (l : List ℕ) (a : Answer) (e : Effect) → listed l 2 ≡ true → ((v i : ℕ) → a ≡ Interrupt v i → listed l 3 ≡ true) → Fine l (answered a e)
answer_fine l Onward e h f = picked (Fine l) (traps_of e) _ _ (λ t. h) (λ t. tt)
answer_fine l (Interrupt v i) e h f = f v i refl

moved_fine : (l : List ℕ) (kind : Kind) (s : State) (o : Option ℕ) → refusal_of kind s ≡ o → Has l kind s → Named l o → Fine l (moved o s).course
unfolding course_of
moved_fine l kind s (some k) q h n = n
moved_fine l kind s none q h n =
    let e = effect_in s in
    picked (Fine l) (ended_of (regs_after e s.regs)) _ _ (λ t. h.ended) (λ t. answer_fine l e.answer e h.trap (h.int (clear_in kind s q).inside))

pub step_fine : (l : List ℕ) (kind : Kind) (s : State) → Has l kind s → Fine l (step_of kind s).course
unfolding step_of
step_fine l kind s h = moved_fine l kind s (refusal_of kind s) refl h (refusal_named l kind s h)

-- all numbers of a list are on another
abbrev pub within : List ℕ → List ℕ → Bool
within [] r = true
within (y ∷ l) r = listed r y && within l r

both : (a b : Bool) → (a && b) ≡ true → (a ≡ true) × (b ≡ true)
both true b h = (refl, h)
both false b h = absurd (cc)

-- the stops that hang on the kind of run: PC outside the cells or the code, a store into the code
abbrev pub kind_stops : Kind → List ℕ
kind_stops Plain = 4 ∷ []
kind_stops (Profile l) = 62 ∷ 61 ∷ []

pub by_kind : (l : List ℕ) (kind : Kind) (s : State) → within (kind_stops kind) l ≡ true → (listed l (outside kind) ≡ true) × Named l (guard_of kind (action_in s) s)
by_kind l Plain s h = ((both (listed l 4) true h).0, tt)
by_kind l (Profile k) s h =
    let a = both (listed l 62) (listed l 61 && true) h in
    (a.0, picked (Named l) (stores_into k (action_in s) s) _ _ (λ t. (both (listed l 61) true a.1).0) (λ t. tt))

-- the stops that a step of a run names from whatever state
abbrev pub step_stops : Kind → List ℕ
step_stops kind = 1 ∷ 2 ∷ 3 ∷ 5 ∷ 6 ∷ 7 ∷ 13 ∷ kind_stops kind

of_the_kind : (kind : Kind) → within (kind_stops kind) (step_stops kind) ≡ true
unfolding listed
of_the_kind Plain = refl
of_the_kind (Profile l) = refl

pub any_step : (kind : Kind) (s : State) → Has (step_stops kind) kind s
unfolding listed
any_step kind s = record {
  ended = refl;
  trap = refl;
  int = λ q v i e. refl;
  off = (by_kind (step_stops kind) kind s (of_the_kind kind)).0;
  fault = refl;
  float = λ q e. refl;
  calculate = λ q op n x y e. refl;
  wild = λ q n imm e t. refl;
  full = λ q e. refl;
  guard = (by_kind (step_stops kind) kind s (of_the_kind kind)).1;
}

-- what is on a list is on one that has all its numbers
either_way : (t : Bool) {a b : Bool} → (t ≡ true → b ≡ true) → (a ≡ true → b ≡ true) → (t || a) ≡ true → b ≡ true
either_way true f g h = f refl
either_way false f g h = g h

same_number : (x y : ℕ) (r : List ℕ) → listed r y ≡ true → eqb x y ≡ true → listed r x ≡ true
same_number x y r h e = rw (eqb-true x y e) h

pub widen : (l r : List ℕ) → within l r ≡ true → (k : ℕ) → listed l k ≡ true → listed r k ≡ true
unfolding listed
widen [] r w k h = absurd (cc)
widen (y ∷ l) r w k h = let b = both (listed r y) (within l r) w in either_way (eqb k y) (same_number k y r b.0) (widen l r b.1 k) h

-- no step names 0
pub not_zero : (kind : Kind) (x : Said) → listed (step_stops kind) x.number ≡ true → x ≡ plainly 0 → ⊥
unfolding listed
not_zero Plain x h e =
    let z : false ≡ true = rw e at h in
    cc
not_zero (Profile l) x h e =
    let z : false ≡ true = rw e at h in
    cc

-- what keeps a call from beginning
by_number : (l : List ℕ) (o : Option ℕ) → Named l o → NamedBy l (said_by o)
by_number l none h = tt
by_number l (some k) h = h

check_named : (l : List ℕ) (m : ℕ) (t : Settings) (j depth : ℕ) → listed l 12 ≡ true → listed l 10 ≡ true → listed l 11 ≡ true → NamedBy l (said_by (check_of m t j depth))
unfolding check_of
check_named l m t j depth a b c =
    by_number l (check_of m t j depth)
    (picked (Named l) (bad_cells m) _ _ (λ z. a) (λ z.
    picked (Named l) (bad_settings t) _ _ (λ z. b) (λ z.
    picked (Named l) (ltb j depth) _ _ (λ z. c) (λ z. tt))))

rule_named : (l : List ℕ) → listed l 60 ≡ true → (r : Result ⊤ BadRule) → NamedBy l (barred_by r)
rule_named l h (Ok done) = tt
rule_named l h (Err Length) = h
rule_named l h (Err (Cell place flaw)) = h

barred_named : (r : List ℕ) (kind : Kind) (cells : List ℕ) → ((l : ℕ) → kind ≡ Profile l → listed r 60 ≡ true) → NamedBy r (barred kind cells)
barred_named r Plain cells f = tt
barred_named r (Profile l) cells f = rule_named r (f l refl) (rule_of l cells)

either_said : (l : List ℕ) (o p : Option Said) → NamedBy l o → NamedBy l p → NamedBy l (or_else o p)
unfolding or_else
either_said l none p f g = g
either_said l (some x) p f g = f

module _ (l : List ℕ) (a : listed l 12 ≡ true) (b : listed l 10 ≡ true) (c : listed l 11 ≡ true) (s : State) where
  pub back_begins_lem : NamedBy l (back_begins s)
  back_begins_lem = check_named l (length s.cells) s.settings (capacity_of s.journal) s.depth a b c

  pub run_begins_lem : (kind : Kind) → ((n : ℕ) → kind ≡ Profile n → listed l 60 ≡ true) → NamedBy l (run_begins kind s)
  run_begins_lem kind f = either_said l _ _ back_begins_lem (barred_named l kind s.cells f)

-- what a call says is on a list if what keeps it from beginning is, and what it says if nothing does
pub call_said : (l : List ℕ) (o : Option Said) (body : ℕ → ℕ → State → Out) (n : ℕ) (s : State) → NamedBy l o
    → (o ≡ none → listed l (called o body n s).said.number ≡ true) → listed l (called o body n s).said.number ≡ true
call_said l (some x) body n s h f = h
call_said l none body n s h f = f refl
