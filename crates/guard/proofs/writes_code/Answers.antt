-- `guard::writes_code` meets its contract: each test that fails is one of the definition's.
use mathlib.Core.Path.{◌≡◌, sym, ◌∙◌}
use mathlib.Core.Bool.{◌||◌}
use Rattle.effect.specs.Refusal.{faults}
use mathlib.Core.Logic.{inl, inr}
use Rattle.carried.proofs.Operands.{within}
use Rattle.guard.proofs.Guarded.{unguarded, other_opcode, not_below, below}
use Rattle.guard.proofs.writes_code.Goals as goal
use Rattle.guard.proofs.writes_code.Goals.{then-x-eq0-via-then-x-eq0, then-x-eq0-via-else-x-eq0+then-guard-x, then-is_fault, else-is_fault, then-guard-eq0-via-then-guard-eq0, then-guard-eq0-via-else-guard-eq0+then-opcode_of-ne1}

pub returns-then-guard-eq0 : goal.returns-then-guard-eq0
returns-then-guard-eq0 c =
    let a = c.args in
    elim c.then-guard-eq0.branch [
      | then-guard-eq0-via-then-guard-eq0 w ↦ rw w.if-guard-eq0.true (sym (unguarded a.size a.regs.now a.cell))
      | then-guard-eq0-via-else-guard-eq0+then-opcode_of-ne1 w ↦ sym (other_opcode a.guard a.size a.regs.now a.cell (rw w.opcode_of.ensures.0 at w.if-opcode_of-ne1.true))
    ]

pub returns-then-x-eq0 : goal.returns-then-x-eq0
returns-then-x-eq0 c =
    let a = c.args in
    let m = c.m_of.ensures in
    let x = rw m.0 at (c.operand-x.ensures ∙ within _ _ m.1) in
    elim c.then-x-eq0.branch [
      | then-x-eq0-via-then-x-eq0 w ↦ sym (not_below a.guard a.size a.regs.now a.cell (inl (sym x ∙ w.if-x-eq0.true)))
      | then-x-eq0-via-else-x-eq0+then-guard-x w ↦ sym (not_below a.guard a.size a.regs.now a.cell (inr (rw x at w.if-guard-x.true)))
    ]

pub returns : goal.returns
returns c =
    let a = c.args in
    let m = c.m_of.ensures in
    let l = c.l_of.ensures in
    let x = rw m.0 at (c.operand-x.ensures ∙ within _ _ m.1) in
    let y = rw l.0 at (c.operand-y.ensures ∙ within _ _ l.1) in
    let either : c.if-is_fault.result ≡ (c.is_fault.result || faults a.size c.operand-x.result) =
    elim c.if-is_fault.branch [
      | then-is_fault w ↦ rw (w.result-is, w.if-is_fault.true)
      | else-is_fault w ↦ rw (w.result-is, w.if-is_fault.false, ← w.is_fault-else-is_fault.ensures)
    ] in
    rw (
      below a.guard a.size a.regs.now a.cell (sym c.opcode_of.ensures.0 ∙ c.if-opcode_of-ne1.false) (λ z. c.if-x-eq0.false (x ∙ z)) (rw x at c.if-guard-x.false),
      ← x,
      ← y,
      ← c.is_fault.ensures,
      either,
    )
