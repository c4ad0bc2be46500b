-- Rules that only go forward: document 02, 2026-02.
use Rattle.std.specs.Prelude.{ℕ, zero, suc, ◌+◌, Bool, false, cond, ◌||◌, List, ltb, eqb, get_or, length, Result, Ok, Err, ⊤}
use Rattle.cell.specs.Cell.{decode_of}
use Rattle.effect.specs.Action.{Action, Cpswp, Ldst, Put, Operate, Split, Bz, Int, Calculate, Float, Illegal, action_of, Value, R, Imm, Extended, Lower, Upper}
use Rattle.profile.specs.declared.Flaw.TheVariants as flaw
use Rattle.profile.specs.declared.Flaw.{Flaw}
use Rattle.profile.specs.declared.BadRule.{BadRule}
use Rattle.profile.specs.declared.BadRule.TheVariants.{Length, Cell}

-- register i is a target, which R255 may not be; of another the rest is asked
abbrev pub into : ℕ → Result ⊤ Flaw → Result ⊤ Flaw
into i rest = cond (eqb i 255) (Err flaw.Target) rest

-- LDUI with #65535: in R255 it ends the run
abbrev pub ends : Value → Bool
ends (Upper i x) = eqb x 65535
ends (R i) = false
ends (Imm x) = false
ends (Extended e x) = false
ends (Lower i x) = false

-- a branch by imm, which may not go back
abbrev pub ahead : ℕ → Result ⊤ Flaw
ahead imm = cond (ltb 32767 imm) (Err flaw.Back) (Ok tt)

-- What a profile says of an action. Targets are the journal's a and b, and LDST's n, whether it loads or not.
unfoldable pub judged_by : Action → Result ⊤ Flaw
judged_by (Cpswp n m l) = into n (into l (Ok tt))
judged_by (Ldst n m l) = into n (Ok tt)
judged_by (Put n v) = cond (ends v) (Ok tt) (into n (Ok tt))
judged_by (Operate op n x y) = into n (Ok tt)
judged_by (Split x n m l) = into m (into l (Ok tt))
judged_by (Bz n imm) = ahead imm
judged_by (Int n imm) = Err flaw.Int
judged_by (Calculate op n x y) = Err flaw.Float
judged_by Float = Err flaw.Float
judged_by Illegal = Err flaw.Reserved

-- .. and of a cell
unfoldable pub judged_of : ℕ → Result ⊤ Flaw
judged_of c = judged_by (action_of (decode_of c))

-- the first of n cells from a place on that is not allowed
abbrev pub or_bad : Result ⊤ Flaw → ℕ → Result ⊤ BadRule → Result ⊤ BadRule
or_bad (Ok _) place rest = rest
or_bad (Err f) place rest = Err (Cell place f)

unfoldable pub first_bad : ℕ → ℕ → List ℕ → Result ⊤ BadRule
first_bad zero place cells = Ok tt
first_bad (suc n) place cells = or_bad (judged_of (get_or cells place 0)) place (first_bad n (place + 1) cells)

-- L is 0 or above M
abbrev pub bad_length : ℕ → ℕ → Bool
bad_length l m = eqb l 0 || ltb m l

-- what a profile says of cells 0 to L-1
unfoldable pub rule_of : ℕ → List ℕ → Result ⊤ BadRule
rule_of l cells = cond (bad_length l (length cells)) (Err Length) (first_bad l 0 cells)
