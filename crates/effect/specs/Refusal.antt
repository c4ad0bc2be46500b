-- The stops that the instruction itself names: document 01, 'Stops of step, run and back'; 13 is that of document 02, 2026-04, and floats run by 2026-06.
use Rattle.std.specs.Prelude.{ℕ, Bool, cond, ◌&&◌, ◌||◌, List, leb, ltb, eqb, ℤ, pos, ◌+ℤ◌, length}
use Rattle.std.proofs.Math.Option.{Option, none, some}
use Rattle.std.specs.Int.Signed.{lt_z}
use Rattle.std.specs.Int.{w16}
use Rattle.std.proofs.Common.{to_z}
use Rattle.machine.specs.State.{State, first_special, pc_of}
use Rattle.effect.specs.Action.{Action, Cpswp, Ldst, Put, Operate, Split, Bz, Int, Calculate, Float, Illegal}
use Rattle.effect.specs.Operands.{operand_of, reg}

-- a pointer past the M cells and below the special addresses
abbrev pub faults : ℕ → ℕ → Bool
faults m p = leb m p && ltb p first_special

-- where a branch leads, reckoned without wrapping: PC + 1 + the signed imm, a whole number that may be below zero
abbrev pub target_of : ℕ → ℕ → ℤ
target_of pc imm = pos pc +ℤ pos 1 +ℤ to_z w16 imm

abbrev pub below_zero : ℤ → Bool
below_zero z = lt_z z (pos 0)

-- a branch that is taken, to a target below zero
unfoldable pub wild : List ℕ → ℕ → ℕ → Bool
wild regs n imm = eqb (operand_of regs n) 0 && below_zero (target_of (pc_of regs) imm)

unfoldable pub refused_by : Action → State → Option ℕ
-- 5: either pointer, whatever the other one is
refused_by (Ldst n m l) s = cond (faults (length s.cells) (reg s l) || faults (length s.cells) (reg s m)) (some 5) none
-- 6: float arithmetic that is out, and all of it where the rounding mode is another than 3
refused_by Float s = some 6
refused_by (Calculate op n x y) s = cond (eqb s.settings.mode 3) none (some 6)
-- 13: a wild jump
refused_by (Bz n imm) s = cond (wild s.regs n imm) (some 13) none
-- all others are done
refused_by (Cpswp n m l) s = none
refused_by (Put n v) s = none
refused_by (Operate op n x y) s = none
refused_by (Split x n m l) s = none
refused_by (Int n imm) s = none
refused_by Illegal s = none
