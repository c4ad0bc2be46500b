-- `calculation::calculated` meets its contract: what is refused is told, and what is done is put.
-- Assumes nothing.
use Prim.Native.Nat.{◌%◌}
use mathlib.Core.Path.{◌≡◌, sym, ◌∙◌}
use native.Mathlib.Omega.{arith}
use Rattle.cell.specs.Cell.{opcode_of}
use Rattle.calculation.specs.Operands.{calculation_of}
use Rattle.carried.proofs.Results.{reads, resulted}
use Rattle.calculation.proofs.Refusals.{refuses, allows, nothing_done}
use Rattle.calculation.proofs.Done.{second_is}
use Rattle.calculation.proofs.calculated.Goals as goal

pub returns-then-mode_of-runs-clause-left : goal.returns-then-mode_of-runs-clause-left
returns-then-mode_of-runs-clause-left c = λ host cells.
    let a = c.args in
    let r = c.refuse.ensures in
    let h = rw (c.mode_of.ensures, c.runs.ensures, c.opcode_of-opcode.ensures.0) at c.if-mode_of-runs.true in
    rw (r.regs, r.part, r.settings, r.told)
    (nothing_done _ a.step.now.settings _ host cells _ (calculation_of a.cell) r.small (refuses (opcode_of a.cell) _ _ _ _ h))

pub returns-clause-left : goal.returns-clause-left
returns-clause-left c = λ host cells.
    let a = c.args in
    let s = a.step.now in
    let o = c.opcode_of-opcode.ensures.0 in
    let kept = c.keep_n-n.ensures in
    let w = rw o at c.written.ensures in
    let x = reads _ kept.typed.0 kept.moved c.first.ensures.0 in
    let y = second_is a.cell s.settings s.regs.now s.part.now host cells kept.typed.0 kept.moved ∙ sym c.second-y.ensures in
    let free = allows _ _ (rw (c.mode_of.ensures, c.runs.ensures, o) at c.if-mode_of-runs.false) in
    let put = c.put.ensures in
    let n : c.keep_n-n.result % 256 ≡ c.keep_n-n.result = omega (arith, kept.number.1) in
    rw put.part
    (resulted s.settings s.regs.now s.part.now host cells _ kept.typed.1 (kept.number, (kept.entry, kept.moved)) w.governed w.raised (calculation_of a.cell)
    (record { wrote = rw n at put.wrote; settled = rw kept.settled.0 at put.settled; raised = rw kept.settled.1 at put.told })
    (w.done _ _ _ _ x y free.1 free.0))
