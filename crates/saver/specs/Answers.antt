-- What the code of saving answers, with the numbers of document 01 and the room that it leaves: nothing here is a rule.
use Rattle.std.specs.Prelude.{List, ℕ, Result, Ok, Err}
use Rattle.refusal.specs.declared.Refusal.{Refusal}
use Rattle.refusal.specs.Refusal.{number_of}
use Rattle.saver.specs.Saving.{Save}

abbrev pub save_with : Result ℕ Refusal → List ℕ → Save
save_with (Ok n) room = record { room = room; number = 0; length = n }
save_with (Err why) room = record { room = room; number = number_of why; length = 0 }
