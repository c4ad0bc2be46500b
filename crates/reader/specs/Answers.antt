-- What the code of reading answers, with the number of document 01: nothing here is a rule.
use Rattle.std.specs.Prelude.{ℕ, ◌^◌, ◌<◌, Result, Ok, Err}
use Rattle.cell.specs.Cell.{Reply}
use Rattle.reader.specs.declared.NoLine.{NoLine}

abbrev pub read_reply : Result ℕ NoLine → Reply
read_reply (Ok c) = record { number = 0; cell = c }
read_reply (Err _) = record { number = 30; cell = 0 }

-- an answer's cell has 32 bits, as its type says
abbrev pub Small : Result ℕ NoLine → Type 0
Small (Ok c) = c < 2 ^ 32
Small (Err _) = Prim.Unit {0}
