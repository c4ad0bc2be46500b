-- `jump::branch` meets its contract: each way of its two tests is a law.
-- Assumes nothing.
use Rattle.std.proofs.Common.{sym, ◌∙◌}
use Rattle.cell.specs.Cell.{n_of, imm_of}
use Rattle.jump.proofs.Branches.{runs_wild, jumps, stays}
use Rattle.jump.proofs.branch.Goals as goal

pub returns-then-is_wild-clause-left : goal.returns-then-is_wild-clause-left
returns-then-is_wild-clause-left c = λ host. λ cells.
    let a = c.args in
    let r = c.refuse.ensures in
    rw (r.regs, r.part, r.settings, r.told)
    (runs_wild (n_of a.cell) (imm_of a.cell) a.step.now.settings _ a.step.now.regs.now host cells a.step.now.part.now r.small (sym c.is_wild.ensures ∙ c.if-is_wild.true))

pub returns-then-step-n_of-eq0-clause-left : goal.returns-then-step-n_of-eq0-clause-left
returns-then-step-n_of-eq0-clause-left c = λ host. λ cells.
    let a = c.args in
    let m = c.move_on.ensures in
    let tame = sym c.is_wild.ensures ∙ c.if-is_wild.false in
    let zero = rw (m.moved, c.n_of.ensures.0) at c.if-step-n_of-eq0.true in
    rw (c.se.ensures, c.imm_of.ensures, m.moved, m.settled.0, m.settled.1)
    (jumps (n_of a.cell) (imm_of a.cell) a.step.now.settings _ a.step.now.regs.now host cells a.step.now.part.now _ m.typed.1 m.typed.0 tame m.entry zero)

pub returns-else-step-n_of-eq0-clause-left : goal.returns-else-step-n_of-eq0-clause-left
returns-else-step-n_of-eq0-clause-left c = λ host. λ cells.
    let a = c.args in
    let m = c.move_on.ensures in
    let tame = sym c.is_wild.ensures ∙ c.if-is_wild.false in
    let other = rw (m.moved, c.n_of.ensures.0) at c.if-step-n_of-eq0.false in
    rw (m.moved, m.settled.0, m.settled.1)
    (stays (n_of a.cell) (imm_of a.cell) a.step.now.settings _ a.step.now.regs.now host cells a.step.now.part.now _ m.typed.1 m.typed.0 tame m.entry other)
