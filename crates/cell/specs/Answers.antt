-- What the code of encoding answers, with the numbers of document 01: nothing here is a rule.
use Rattle.std.specs.Prelude.{ℕ, Result, Ok, Err}
use Rattle.cell.specs.declared.EncodeError.{EncodeError}
use Rattle.cell.specs.declared.EncodeError.TheVariants.{ReservedOpcode, OtherForm}
use Rattle.cell.specs.Cell.{Reply}

abbrev pub encoded_reply : Result ℕ EncodeError → Reply
encoded_reply (Ok c) = record { number = 0; cell = c }
encoded_reply (Err ReservedOpcode) = record { number = 21; cell = 0 }
encoded_reply (Err OtherForm) = record { number = 22; cell = 0 }
