-- Load a job, then step forward and back in any sequence of calls.
use Rattle.std.specs.Prelude.{ℕ, ◌+◌, ◌-◌, ◌≤◌, ◌≡◌, List, [], ◌∷◌}
use Rattle.machine.specs.declared.Settings.{Settings}
use Rattle.machine.specs.State.{State, state_of}
use Rattle.machine.specs.Stops.{plainly}
use Rattle.machine.specs.declared.Kind.TheVariants as kind
use Rattle.step.specs.Steps.{steps}
use Rattle.call.specs.Calls.{Out, run_of, back_of}
use Rattle.job.specs.Job.{load_of}

-- A call: a step, a run of a budget, a profile run of a rule's length and a budget, or back by a number.
pub data Call : Type 0 where
  Step : Call
  Run : ℕ → Call
  ProfileRun : ℕ → ℕ → Call
  Back : ℕ → Call

-- A machine with its cells and journal, and how many steps were done forward and back.
pub record Trip : Type 0 where
  pub state : State
  pub ahead : ℕ
  pub behind : ℕ

abbrev pub set_out : State → Trip
set_out s = record { state = s; ahead = 0; behind = 0 }

-- what a call that went forward, or back, makes of the trip: its count is the steps done
abbrev pub forward : Out → Trip → Trip
forward o w = record { state = o.state; ahead = w.ahead + o.count; behind = w.behind }

abbrev pub backward : Out → Trip → Trip
backward o w = record { state = o.state; ahead = w.ahead; behind = w.behind + o.count }

abbrev pub call : Call → Trip → Trip
call Step w = forward (run_of kind.Plain 1 w.state) w
call (Run n) w = forward (run_of kind.Plain n w.state) w
call (ProfileRun l n) w = forward (run_of (kind.Profile l) n w.state) w
call (Back n) w = backward (back_of n w.state) w

-- each call is given the machine the last one left, with the same cells and journal
unfoldable pub travel : List Call → Trip → Trip
travel [] w = w
travel (c ∷ cs) w = travel cs (call c w)

-- registers, settings and cells
pub record Seen : Type 0 where
  pub regs : List ℕ
  pub settings : Settings
  pub cells : List ℕ

abbrev pub seen : State → Seen
seen s = record { regs = s.regs; settings = s.settings; cells = s.cells }

-- the job loaded with the host's words, and the journal that the host lends
abbrev pub loaded : List ℕ → List ℕ → List ℕ → List ℕ → State
loaded job host cells journal = state_of (load_of job host cells).machine (load_of job host cells).cells journal

-- Where a trip from s, at depth 0, has come to, with f steps forward and b back: to what f - b steps of the definition show, each of them
-- done, with the host's words that s has. One step back is refused with 8 where f = b, and taken, which says 0, wherever else.
pub record Arrived (s : State) (w : Trip) : Type 0 where
  pub fewer : w.behind ≤ w.ahead
  pub sight : seen w.state ≡ seen (steps kind.Plain (w.ahead - w.behind) s)
  pub host : w.state.host ≡ s.host
  pub depth : w.state.depth ≡ w.ahead - w.behind
  pub taken : (steps kind.Plain (w.ahead - w.behind) s).depth ≡ w.ahead - w.behind
  pub start : w.ahead ≡ w.behind → (back_of 1 w.state).said ≡ plainly 8
  pub elsewhere : (w.ahead ≡ w.behind → ⊥) → (back_of 1 w.state).said ≡ plainly 0
