-- What the code of taking in answers, with the cells that it leaves: nothing here is a rule.
use Rattle.std.specs.Prelude.{List, ℕ, Result, Ok, Err}
use Rattle.machine.specs.declared.Machine.{Machine}
use Rattle.machine.specs.State.{fresh_machine}
use Rattle.job.specs.Job.{Load}
use Rattle.intake.specs.declared.Refused.{Refused}

-- the machine of an input that is refused is the one that `Refused::machine` answers
abbrev pub taken_with : Result Machine Refused → List ℕ → Load
taken_with (Ok m) cells = record { machine = m; cells = cells; said = record { number = 0; offset = 0 } }
taken_with (Err r) cells = record { machine = fresh_machine; cells = cells; said = record { number = r.number; offset = r.offset } }
