-- The second value of a float opcode, read with the PC moved on.
-- Assumes nothing.
use Prim.Native.Nat.{ℕ}
use mathlib.Core.Path.{◌≡◌, refl}
use mathlib.Core.Bool.{Bool, true, false, cond}
use mathlib.Core.List.{List}
use lib.ListN.{length, get_or, set}
use Rattle.half.specs.declared.Extension.TheVariants.{Ex}
use Rattle.half.specs.Half.{ex_of}
use Rattle.cell.specs.Cell.{l_of, imm_of}
use Rattle.effect.specs.Action.{R, Extended}
use Rattle.effect.specs.Operands.{next_of, value_of}
use Rattle.carried.specs.Left.{before}
use Rattle.carried.proofs.Results.{reads}
use Rattle.calculation.specs.Operands.{on_registers, second_of}

pub second_is : (cell s : ℕ) (regs part host cells : List ℕ) {mid : List ℕ} → length regs ≡ 256 → mid ≡ set regs 255 (next_of regs)
    → value_of (before regs s host cells part) (second_of cell) ≡ cond (on_registers cell) (get_or mid (l_of cell) 0) (ex_of (imm_of cell))
second_is cell s regs part host cells {mid} long on = go (on_registers cell)
  where
    go : (t : Bool) → value_of (before regs s host cells part) (cond t (R (l_of cell)) (Extended Ex (imm_of cell))) ≡ cond t (get_or mid (l_of cell) 0) (ex_of (imm_of cell))
    go true = reads regs long on refl
    go false = refl
