-- The calls step, run, profile run and back with their stops: document 01, 'Stops of step, run and back'; document 02, 2026-02.
use Rattle.std.specs.Prelude.{ℕ, zero, suc, ◌+◌, cond, List, ltb, eqb, length}
use Rattle.std.proofs.Math.Option.{Option, none, some, or_else}
use Rattle.machine.specs.declared.Settings.{Settings}
use Rattle.machine.specs.declared.Kind.{Kind}
use Rattle.machine.specs.declared.Kind.TheVariants.{Plain, Profile}
use Rattle.profile.specs.Profile.{rule_of}
use Rattle.profile.specs.Answers.{barred_by}
use Rattle.machine.specs.State.{State, capacity_of, bad_cells, bad_settings}
use Rattle.journal.specs.Journal.{last_of, damaged_of, undo_of}
use Rattle.machine.specs.Stops.{Said, plainly}
use Rattle.step.specs.Step.{Course, going, stopped, refused, step_of}

-- All that a call leaves: the state, what it says, and how many steps it did.
pub record Out : Type 0 where
  pub state : State
  pub said : Said
  pub count : ℕ

abbrev pub stop_at : Said → ℕ → State → Out
stop_at x k s = record { state = s; said = x; count = k }

-- after a step: the rest of the run, or its end
abbrev pub go_on : (ℕ → State → Out) → Course → ℕ → State → Out
go_on rest going k s = rest (k + 1) s
go_on rest (stopped x) k s = stop_at x (k + 1) s
go_on rest (refused x) k s = stop_at x k s

-- A run with n steps to do and k done: the number is looked at before each step.
unfoldable pub run_from : Kind → ℕ → ℕ → State → Out
run_from kind zero k s = stop_at (plainly 0) k s
run_from kind (suc n) k s = go_on (run_from kind n) (step_of kind s).course k (step_of kind s).state

-- The same back: the number, then depth 0, then a damaged entry.
unfoldable pub back_from : ℕ → ℕ → State → Out
back_from zero k s = stop_at (plainly 0) k s
back_from (suc n) k s =
    cond (eqb s.depth 0) (stop_at (plainly 8) k s)
    (cond (damaged_of (length s.cells) (last_of s.journal s.depth)) (stop_at (plainly 9) k s)
    (back_from n (k + 1) (undo_of s)))

-- What keeps a call from beginning, or none: M, then the settings, then a depth above J.
unfoldable pub check_of : ℕ → Settings → ℕ → ℕ → Option ℕ
check_of m s j depth =
    cond (bad_cells m) (some 12)
    (cond (bad_settings s) (some 10)
    (cond (ltb j depth) (some 11) none))

-- a stop that is named by its number
abbrev pub said_by : Option ℕ → Option Said
said_by none = none
said_by (some k) = some (plainly k)

-- what keeps a rule from being run: a profile run repeats its check of the code at each call
abbrev pub barred : Kind → List ℕ → Option Said
barred Plain cells = none
barred (Profile l) cells = barred_by (rule_of l cells)

-- .. and what keeps a run from beginning: the stops of every call, then the rule
abbrev pub begins_of : Kind → List ℕ → Settings → ℕ → ℕ → Option Said
begins_of kind cells s j depth = or_else (said_by (check_of (length cells) s j depth)) (barred kind cells)

-- the same, for a run and for a going back on s
abbrev pub run_begins : Kind → State → Option Said
run_begins kind s = begins_of kind s.cells s.settings (capacity_of s.journal) s.depth

abbrev pub back_begins : State → Option Said
back_begins s = said_by (check_of (length s.cells) s.settings (capacity_of s.journal) s.depth)

abbrev pub called : Option Said → (ℕ → ℕ → State → Out) → ℕ → State → Out
called (some x) body n s = stop_at x 0 s
called none body n s = body n 0 s

-- the calls, by a budget and by a number of steps; a step is a plain run of budget 1
abbrev pub run_of : Kind → ℕ → State → Out
run_of kind n s = called (run_begins kind s) (run_from kind) n s

abbrev pub back_of : ℕ → State → Out
back_of n s = called (back_begins s) back_from n s
