-- A stop's number and values determine the stop: a promise that speaks of them leaves one possible answer.
-- Assumes nothing.
use mathlib.Core.Path.{◌≡◌, refl, sym, ap, ◌∙◌}
use mathlib.Core.Bool.{cond}
use lib.Dec.{eqb}
use Rattle.machine.specs.declared.Stop.{Stop}
use Rattle.machine.specs.declared.Stop.TheVariants.{Done, Ended, Trap, Int, Fetch, Fault, Float, Full, Start, Damaged, Unsettled, Deep, Cells, Wild, Barred, Overwrite, Outside}
use Rattle.machine.specs.Stops.{Said, said_of}

-- the stop that was said
abbrev pub heard : Said → Stop
heard x =
    cond (eqb x.number 0) Done
    (cond (eqb x.number 1) Ended
    (cond (eqb x.number 2) Trap
    (cond (eqb x.number 3) (Int x.value x.imm)
    (cond (eqb x.number 4) Fetch
    (cond (eqb x.number 5) Fault
    (cond (eqb x.number 6) Float
    (cond (eqb x.number 7) Full
    (cond (eqb x.number 8) Start
    (cond (eqb x.number 9) Damaged
    (cond (eqb x.number 10) Unsettled
    (cond (eqb x.number 11) Deep
    (cond (eqb x.number 12) Cells
    (cond (eqb x.number 13) Wild
    (cond (eqb x.number 60) (Barred x.place)
    (cond (eqb x.number 61) Overwrite Outside)))))))))))))))

pub heard_said : (x : Stop) → heard (said_of x) ≡ x
heard_said Done = refl
heard_said Ended = refl
heard_said Trap = refl
heard_said (Int v i) = refl
heard_said Fetch = refl
heard_said Fault = refl
heard_said Float = refl
heard_said Full = refl
heard_said Start = refl
heard_said Damaged = refl
heard_said Unsettled = refl
heard_said Deep = refl
heard_said Cells = refl
heard_said Wild = refl
heard_said (Barred p) = refl
heard_said Overwrite = refl
heard_said Outside = refl

pub said_once : (a b : Stop) → said_of a ≡ said_of b → a ≡ b
said_once a b e = sym (heard_said a) ∙ ap heard e ∙ heard_said b
