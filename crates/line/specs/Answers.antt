-- What the code of printing answers, with the number of document 01 and the room that it leaves: nothing here is a rule.
use Rattle.std.specs.Prelude.{List, ℕ, Result, Ok, Err}
use Rattle.line.specs.declared.NoRoom.{NoRoom}
use Rattle.line.specs.Line.{Shown}

abbrev pub shown_of : Result ℕ NoRoom → List ℕ → Shown
shown_of (Ok n) room = record { number = 0; size = n; room = room }
shown_of (Err _) room = record { number = 31; size = 0; room = room }
