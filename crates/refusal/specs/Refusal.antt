-- The numbers of the refusals of load and save: document 01, 'Lines and jobs'.
use Rattle.std.specs.Prelude.{ℕ}
use Rattle.refusal.specs.declared.Refusal.{Refusal}
use Rattle.refusal.specs.declared.Refusal.TheVariants.{Unsettled, Cells, Short, Unknown, Length, Cut, Space, Order, After, Room}

abbrev pub number_of : Refusal → ℕ
-- as for the calls: settings out of range, and M
number_of Unsettled = 10
number_of Cells = 12
-- a record without a whole head, of no kind, of a length that its kind has not, without a whole payload, with cells past M, out of order
number_of Short = 41
number_of Unknown = 42
number_of Length = 43
number_of Cut = 44
number_of Space = 45
number_of Order = 46
-- bytes after the last record
number_of After = 47
-- too little room for a save
number_of Room = 48
