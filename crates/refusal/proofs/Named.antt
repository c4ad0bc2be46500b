-- A refusal's number determines the refusal, and is not 0.
-- Assumes nothing.
use Prim.Native.Nat.{ℕ}
use mathlib.Core.Path.{◌≡◌, refl}
use mathlib.Core.Bool.{Bool, true, false, cond}
use mathlib.Core.Option.{Option, none, some}
use native.Mathlib.Omega.{arith}
use lib.Dec.{eqb}
use Rattle.refusal.specs.declared.Refusal.{Refusal}
use Rattle.refusal.specs.declared.Refusal.TheVariants.{Unsettled, Cells, Short, Unknown, Length, Cut, Space, Order, After, Room}
use Rattle.refusal.specs.Refusal.{number_of}

-- the refusal of a job by its number, if it is one
abbrev pub heard : ℕ → Option Refusal
heard k =
    cond (eqb k 0) none
    (some (cond (eqb k 10) Unsettled
    (cond (eqb k 12) Cells
    (cond (eqb k 41) Short
    (cond (eqb k 42) Unknown
    (cond (eqb k 43) Length
    (cond (eqb k 44) Cut
    (cond (eqb k 45) Space
    (cond (eqb k 46) Order
    (cond (eqb k 47) After Room))))))))))

pub heard_number : (why : Refusal) → heard (number_of why) ≡ some why
heard_number Unsettled = refl
heard_number Cells = refl
heard_number Short = refl
heard_number Unknown = refl
heard_number Length = refl
heard_number Cut = refl
heard_number Space = refl
heard_number Order = refl
heard_number After = refl
heard_number Room = refl

not_none : (t : Bool) (o : Option Refusal) (why : Refusal) → cond t none o ≡ some why → t ≡ false
not_none true o why e = let z : ◌≡◌ {A = ℕ} 0 1 = cc in absurd (omega arith)
not_none false o why e = refl

pub numbered : (why : Refusal) → eqb (number_of why) 0 ≡ false
numbered why = not_none (eqb (number_of why) 0) _ why (heard_number why)
