-- What the code answers, as the definitions say it: nothing here is a rule.
use Rattle.std.specs.Prelude.{List, ℕ, Result, Ok, Err}
use Rattle.machine.specs.declared.Machine.{Machine}
use Rattle.machine.specs.State.{fresh_machine}
use Rattle.machine.specs.Stops.{said_of}
use Rattle.call.specs.declared.Ran.{Ran}
use Rattle.intake.specs.declared.Refused.{Refused}
use Rattle.outcome.specs.Outcome.{End, refused, ran, Outcome}

-- how a job ended, with the stop's number and values
abbrev pub end_of : Result Ran Refused → End
end_of (Ok r) = ran (said_of r.stop) r.count
end_of (Err r) = refused r.number r.offset

-- the machine of a refused job is the one that `intake::Refused::machine` answers
abbrev pub machine_in : Result Ran Refused → Machine
machine_in (Ok r) = r.machine
machine_in (Err r) = fresh_machine

-- what became of a job, with the cells and the journal that it left
abbrev pub outcome_with : Result Ran Refused → List ℕ → List ℕ → Outcome
outcome_with r cells journal = record { end = end_of r; machine = machine_in r; cells = cells; journal = journal }
