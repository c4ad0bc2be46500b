-- Demands 1 and 2: what each call may say; that a run, plain or of a profile, is the definition's step repeated, and a going back its step
-- back, until one of the stops of document 01, 'Stops of step, run and back', and of document 02, 2026-02 and 2026-04.
use Rattle.std.specs.Prelude.{ℕ, suc, ◌+◌, ◌/◌, ◌%◌, ◌<◌, ◌≡◌, Bool, true, false, ◌||◌, List, [], ◌∷◌, eqb}
use Rattle.std.proofs.Math.Option.{Option, none, some}
use Rattle.machine.specs.State.{State}
use Rattle.machine.specs.declared.Kind.{Kind}
use Rattle.machine.specs.declared.Kind.TheVariants.{Plain, Profile}
use Rattle.machine.specs.Stops.{Said, plainly}
use Rattle.journal.specs.Undos.{undos, damaged_in, Undoable}
use Rattle.step.specs.Step.{going, stopped, refused}
use Rattle.step.specs.Steps.{steps, course_after}
use Rattle.call.specs.Calls.{Out, stop_at}

-- x is one of the list
unfoldable pub listed : List ℕ → ℕ → Bool
listed [] x = false
listed (y ∷ ys) x = eqb x y || listed ys x

-- the numbers of step and run, of a profile run, and of back
abbrev pub run_stops : Kind → List ℕ
run_stops Plain = 0 ∷ 1 ∷ 2 ∷ 3 ∷ 4 ∷ 5 ∷ 6 ∷ 7 ∷ 10 ∷ 11 ∷ 12 ∷ 13 ∷ []
run_stops (Profile l) = 0 ∷ 1 ∷ 2 ∷ 62 ∷ 7 ∷ 5 ∷ 61 ∷ 10 ∷ 11 ∷ 12 ∷ 60 ∷ []

abbrev pub back_stops : List ℕ
back_stops = 0 ∷ 8 ∷ 9 ∷ 10 ∷ 11 ∷ 12 ∷ []

-- the numbers of encoding, printing, reading, loading and saving, after 0, which says that it was done
abbrev pub encode_says : List ℕ
encode_says = 0 ∷ 21 ∷ 22 ∷ []

abbrev pub print_says : List ℕ
print_says = 0 ∷ 31 ∷ []

abbrev pub read_says : List ℕ
read_says = 0 ∷ 30 ∷ []

abbrev pub load_says : List ℕ
load_says = 0 ∷ 12 ∷ 41 ∷ 42 ∷ 43 ∷ 44 ∷ 46 ∷ 45 ∷ 10 ∷ 47 ∷ []

abbrev pub save_says : List ℕ
save_says = 0 ∷ 12 ∷ 10 ∷ 48 ∷ []

-- flag 128, illegal, of a state: 1 or 0
abbrev pub illegal_in : State → ℕ
illegal_in s = s.settings.flags / 128 % 2

-- each of the first k steps is done and goes on
abbrev pub GoesOn : Kind → ℕ → State → Type 0
GoesOn kind k s = (j : ℕ) → j < k → course_after kind j s ≡ going

-- When a run of budget n from s ends, with how many steps done, and what it says.
pub data Ends (kind : Kind) (n : ℕ) (s : State) : ℕ → Said → Type 0 where
  -- all n steps went on: 0
  spent : GoesOn kind n s → Ends kind n s n (plainly 0)
  -- the last step that was done named the stop
  last : (k : ℕ) (x : Said) → k < n → GoesOn kind k s → course_after kind k s ≡ stopped x → Ends kind n s (suc k) x
  -- the step after the last one done is refused with it
  next : (k : ℕ) (x : Said) → k < n → GoesOn kind k s → course_after kind k s ≡ refused x → Ends kind n s k x

-- A run of budget n from s that left o: as many steps of the definition as it counts; it ends where they do; 0 says that all n are done;
-- the count is the rise of depth.
pub record Repeated (kind : Kind) (n : ℕ) (s : State) (o : Out) : Type 0 where
  pub state : o.state ≡ steps kind o.count s
  pub ends : Ends kind n s o.count o.said
  pub full : o.said ≡ plainly 0 → o.count ≡ n
  pub rise : o.state.depth ≡ s.depth + o.count

-- each of the first k steps back finds a step to take back, and an entry that can be one
abbrev pub FallsOn : ℕ → State → Type 0
FallsOn k s = (j : ℕ) → j < k → Undoable (undos j s)

-- When a going back by n from s ends, with how many steps taken back, and what it says.
pub data Falls (n : ℕ) (s : State) : ℕ → Said → Type 0 where
  -- all n were taken back: 0
  spent : FallsOn n s → Falls n s n (plainly 0)
  -- no step is left to take back: 8
  start : (k : ℕ) → k < n → FallsOn k s → (undos k s).depth ≡ 0 → Falls n s k (plainly 8)
  -- there is one, and its entry cannot be one: 9
  damaged : (k : ℕ) → k < n → FallsOn k s → ((undos k s).depth ≡ 0 → ⊥) → damaged_in (undos k s) ≡ true → Falls n s k (plainly 9)

-- Going back by n from s that left o: as many steps back as it counts; it ends where they do; the count is the fall of depth.
pub record Returned (n : ℕ) (s : State) (o : Out) : Type 0 where
  pub state : o.state ≡ undos o.count s
  pub ends : Falls n s o.count o.said
  pub fall : o.count + o.state.depth ≡ s.depth

-- A whole call on s that left o: refused at once with what keeps it from beginning, and nothing done; or what the call is for.
pub record Called (begins : Option Said) (Done : Out → Type 0) (s : State) (o : Out) : Type 0 where
  pub refusal : (x : Said) → begins ≡ some x → o ≡ stop_at x 0 s
  pub else : begins ≡ none → Done o
