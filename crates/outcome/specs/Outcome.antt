-- What becomes of a job that `runjob` runs: document 01, 'Lines and jobs', its last part; the host's words: document 02, 2026-05.
use Rattle.std.specs.Prelude.{cond, List, ℕ, eqb}
use Rattle.machine.specs.declared.Machine.{Machine}
use Rattle.machine.specs.declared.Kind.TheVariants.{Plain}
use Rattle.machine.specs.State.{fresh_machine, machine_of, state_of}
use Rattle.machine.specs.Stops.{Said}
use Rattle.intake.specs.Intake.{taken_of}
use Rattle.call.specs.Calls.{Out, run_of}
use Rattle.job.specs.Job.{Load}

-- what is lent and granted: entries of eight words, and the budget
abbrev pub entry_count : ℕ
entry_count = 400

abbrev pub budget : ℕ
budget = 400

-- a job is refused, with a number and an offset; or run, with the stop and the count
pub data End : Type 0 where
  refused : ℕ → ℕ → End
  ran : Said → ℕ → End

-- all that is left of a job: its end, the machine, the cells and the journal
pub record Outcome : Type 0 where
  pub end : End
  pub machine : Machine
  pub cells : List ℕ
  pub journal : List ℕ

-- a refused job leaves a fresh machine, and cells and journal as they were
abbrev pub refused_to : ℕ → ℕ → List ℕ → List ℕ → Outcome
refused_to number offset cells journal = record { end = refused number offset; machine = fresh_machine; cells = cells; journal = journal }

abbrev pub ran_to : Out → Outcome
ran_to o = record {
  end = ran o.said o.count;
  machine = machine_of o.state;
  cells = o.state.cells;
  journal = o.state.journal;
}

-- a job that a load refuses is refused; else it is run
abbrev pub loaded_to : Load → List ℕ → Outcome
loaded_to l journal =
    cond (eqb l.said.number 0) (ran_to (run_of Plain budget (state_of l.machine l.cells journal)))
    (refused_to l.said.number l.said.offset l.cells journal)

-- an input that is not taken in is refused; else its job is run
unfoldable pub outcome_of : List ℕ → List ℕ → List ℕ → Outcome
outcome_of input cells journal = loaded_to (taken_of input cells) journal
