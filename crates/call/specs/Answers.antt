-- What a call and its check answer, from the code's answers: document 01's numbers of the stops.
use Rattle.std.specs.Prelude.{ℕ, List, Result, Ok, Err, ⊤}
use Rattle.std.proofs.Math.Option.{Option, none, some}
use Rattle.machine.specs.State.{state_of}
use Rattle.machine.specs.Stops.{Said, said_of}
use Rattle.call.specs.declared.Ran.{Ran}
use Rattle.machine.specs.declared.Stop.{Stop}
use Rattle.call.specs.Calls.{Out}

abbrev pub out_of : Ran → List ℕ → List ℕ → Out
out_of r cells journal = record { state = state_of r.machine cells journal; said = said_of r.stop; count = r.count }

-- a call can begin, or a stop keeps it from that
abbrev pub checked_of : Result ⊤ Stop → Option Said
checked_of (Ok _) = none
checked_of (Err x) = some (said_of x)
