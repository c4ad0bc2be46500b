-- What a rule's check says, as a stop of a profile run: 60 with the place of the first bad cell, which is 0 for a bad L; or none.
use Rattle.std.specs.Prelude.{Result, Ok, Err, ⊤}
use Rattle.std.proofs.Math.Option.{Option, none, some}
use Rattle.machine.specs.Stops.{Said, barred_at}
use Rattle.profile.specs.declared.BadRule.{BadRule}
use Rattle.profile.specs.declared.BadRule.TheVariants.{Length, Cell}

abbrev pub barred_by : Result ⊤ BadRule → Option Said
barred_by (Ok _) = none
barred_by (Err Length) = some (barred_at 0)
barred_by (Err (Cell place flaw)) = some (barred_at place)
