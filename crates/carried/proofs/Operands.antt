-- Operands as they are read: from registers whose PC has moved on, and by a number taken modulo 256.
-- Assumes nothing.
use Rattle.std.proofs.Common.{◌≡◌, ℕ, ◌%◌, ◌<◌, Bool, true, false, cond, eqb, List, length, get_or, set, refl, ap, arith, get_or-set_other, get_or-set_same, eqb-true}
use borrow.Author.Tests.{eqb-false}
use Rattle.effect.specs.Operands.{next_of, operand_of}

pub read : (regs : List ℕ) → length regs ≡ 256 → (i : ℕ) → get_or (set regs 255 (next_of regs)) i 0 ≡ operand_of regs i
unfolding operand_of
read regs long i = go (eqb i 255) refl
  where
    go : (t : Bool) → eqb i 255 ≡ t → get_or (set regs 255 (next_of regs)) i 0 ≡ cond t (next_of regs) (get_or regs i 0)
    go true h = rw (eqb-true i 255 h) (get_or-set_same regs 255 (next_of regs) 0 (omega arith))
    go false h = get_or-set_other regs 255 i (next_of regs) 0 (eqb-false i 255 h)

-- a number below 256 is what it is modulo 256
pub within : (regs : List ℕ) (i : ℕ) → i < 256 → operand_of regs (i % 256) ≡ operand_of regs i
within regs i h = ap (operand_of regs) (omega arith)
