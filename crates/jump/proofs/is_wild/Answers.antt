-- `jump::is_wild` meets its contract: the test on the target picks the case.
-- Assumes nothing.
use Rattle.cell.specs.Cell.{n_of, imm_of}
use Rattle.effect.proofs.Branch.{below, above}
use Rattle.carried.proofs.Operands.{within}
use Rattle.jump.proofs.is_wild.Goals as goal

pub returns-then-is_below_zero : goal.returns-then-is_below_zero
returns-then-is_below_zero c =
    let a = c.args in
    let n = c.n_of.ensures in
    let low = rw (c.is_below_zero.ensures, c.imm_of.ensures) at c.if-is_below_zero.true in
    rw (c.operand.ensures, n.0, within a.regs.now (n_of a.cell) (rw (← n.0) n.1), below a.regs.now (n_of a.cell) (imm_of a.cell) low)

pub returns-else-is_below_zero : goal.returns-else-is_below_zero
returns-else-is_below_zero c =
    let a = c.args in
    let high = rw (c.is_below_zero.ensures, c.imm_of.ensures) at c.if-is_below_zero.false in
    rw (c.if-is_below_zero.false, above a.regs.now (n_of a.cell) (imm_of a.cell) high)
