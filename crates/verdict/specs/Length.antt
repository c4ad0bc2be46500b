-- L, the number of cells that are a rule's code: what an argument says, or the cells of a job's first record.
use Rattle.std.specs.Prelude.{Bool, cond, ◌&&◌, List, [], ◌∷◌, ℕ, ◌+◌, ◌-◌, ◌*◌, ◌/◌, leb, ltb, eqb}
use Rattle.cell.specs.Cell.{within}
use Rattle.lent.specs.Little.{number_at}
use Rattle.job.specs.Job.{size_of}

-- the number that a digit makes after v
abbrev pub grown : ℕ → ℕ → ℕ
grown v b = 10 * v + (b - 48)

-- b is a digit, and makes a number from 1 to most: so none begins with 0
abbrev pub goes_on : ℕ → ℕ → ℕ → Bool
goes_on most v b = within 48 57 b && ltb 0 (grown v b) && leb (grown v b) most

-- the number that a text's digits make after v; 0 if there is another byte, a 0 at the front, or a number above the most
unfoldable pub number_from : ℕ → ℕ → List ℕ → ℕ
number_from most v [] = v
number_from most v (b ∷ text) = cond (goes_on most v b) (number_from most (grown v b) text) 0

-- what an argument says
abbrev pub length_in : ℕ → List ℕ → ℕ
length_in most argument = number_from most 0 argument

-- a job's first record is of kind 1, in bytes 4 and 5, and its base, in bytes 6 and 7, is cell 0
abbrev pub starts_at_zero : List ℕ → Bool
starts_at_zero job = eqb (number_at 4 2 job) 1 && eqb (number_at 6 2 job) 0

-- its cells: the payload has the base in 2 bytes, and cells in 4 each
abbrev pub first_count : List ℕ → ℕ
first_count job = (size_of job - 2) / 4
