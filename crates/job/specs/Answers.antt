-- What the code of loading answers, with the numbers of document 01 and the cells that it leaves: nothing here is a rule.
use Rattle.std.specs.Prelude.{List, ℕ, Result, Ok, Err}
use Rattle.machine.specs.declared.Machine.{Machine}
use Rattle.machine.specs.State.{fresh_machine}
use Rattle.job.specs.declared.Refused.{Refused}
use Rattle.refusal.specs.Refusal.{number_of}
use Rattle.job.specs.Job.{Notice, Load}

abbrev pub notice_of : Refused → Notice
notice_of r = record { number = number_of r.why; offset = r.offset }

-- the machine of a load that is refused is the one that `Refused::machine` answers
abbrev pub load_with : Result Machine Refused → List ℕ → Load
load_with (Ok m) cells = record { machine = m; cells = cells; said = record { number = 0; offset = 0 } }
load_with (Err r) cells = record { machine = fresh_machine; cells = cells; said = notice_of r }
