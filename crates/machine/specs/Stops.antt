-- What a call says at its end: document 01, 'Stops of step, run and back'; 60 to 62 are those of 2026-02, 13 is that of 2026-04.
use Rattle.std.specs.Prelude.{ℕ}
use Rattle.machine.specs.declared.Stop.{Stop}
use Rattle.machine.specs.declared.Stop.TheVariants.{Done, Ended, Trap, Int, Fetch, Fault, Float, Full, Start, Damaged, Unsettled, Deep, Cells, Wild, Barred, Overwrite, Outside}

-- A stop as it is answered: its number, two values, which only INT fills, and a place, which only 60 fills.
pub record Said : Type 0 where
  pub number : ℕ
  pub value : ℕ
  pub imm : ℕ
  pub place : ℕ

abbrev pub plainly : ℕ → Said
plainly k = record { number = k; value = 0; imm = 0; place = 0 }

abbrev pub interrupted : ℕ → ℕ → Said
interrupted value imm = record { number = 3; value = value; imm = imm; place = 0 }

abbrev pub barred_at : ℕ → Said
barred_at place = record { number = 60; value = 0; imm = 0; place = place }

abbrev pub said_of : Stop → Said
said_of Done = plainly 0
said_of Ended = plainly 1
said_of Trap = plainly 2
said_of (Int value imm) = interrupted value imm
said_of Fetch = plainly 4
said_of Fault = plainly 5
said_of Float = plainly 6
said_of Full = plainly 7
said_of Start = plainly 8
said_of Damaged = plainly 9
said_of Unsettled = plainly 10
said_of Deep = plainly 11
said_of Cells = plainly 12
said_of Wild = plainly 13
said_of (Barred place) = barred_at place
said_of Overwrite = plainly 61
said_of Outside = plainly 62
