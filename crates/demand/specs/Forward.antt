-- Rules that only go forward, document 02, 2026-02: what a steward may count on.
use Rattle.std.specs.Prelude.{ℕ, ◌+◌, ◌-◌, ◌≤◌, ◌<◌, ◌≡◌, true, List, [], ◌∷◌, length}
use Rattle.std.proofs.Math.Option.{none}
use Rattle.machine.specs.declared.Kind.TheVariants.{Profile}
use Rattle.machine.specs.State.{State, pc_of, capacity_of}
use Rattle.call.specs.Calls.{Out, run_begins}
use Rattle.demand.specs.Demands.{listed}
use Rattle.demand.specs.Journey.{Call, ProfileRun, Trip}

-- profile runs with the same L, by their budgets; nothing is called in between
unfoldable pub profile_runs : ℕ → List ℕ → List Call
profile_runs l [] = []
profile_runs l (n ∷ ns) = ProfileRun l n ∷ profile_runs l ns

-- Where such calls from s have come to: at most L steps are done in all, and no more than there are cells of the code from PC on.
pub record Forward (l : ℕ) (s : State) (w : Trip) : Type 0 where
  pub few : w.ahead ≤ l
  pub fewer : w.ahead ≤ l - pc_of s.regs

-- A profile run from a PC in the code, with a budget above L and room for L entries more.
pub record Ample (l n : ℕ) (s : State) : Type 0 where
  pub registers : length s.regs ≡ 256
  pub start : pc_of s.regs < l
  pub budget : l < n
  pub room : s.depth + l ≤ capacity_of s.journal

-- its stops, if it is not refused at once: an end, a trap, a fault, a store into the code, PC outside the code
abbrev pub end_stops : List ℕ
end_stops = 1 ∷ 2 ∷ 5 ∷ 61 ∷ 62 ∷ []

-- It comes to one of these, and never to the end of its budget or of the journal.
pub record Concludes (l : ℕ) (s : State) (o : Out) : Type 0 where
  pub said : run_begins (Profile l) s ≡ none → listed end_stops o.said.number ≡ true
  pub not_spent : o.said.number ≡ 0 → ⊥
  pub not_full : o.said.number ≡ 7 → ⊥
