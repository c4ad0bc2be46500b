-- `ldst::transfer_any` meets its contract: the tests on both pointers pick the case.
use mathlib.Core.Path.{◌∙◌}
use Rattle.cell.specs.Cell.{n_of, m_of, l_of}
use Rattle.packed.proofs.Laws.{packed_unpacked}
use Rattle.carried.specs.Step.{before_in}
use Rattle.carried.proofs.Operands.{within}
use Rattle.ldst.proofs.Cases.{Known, faulted, barred, done}
use Rattle.ldst.proofs.transfer_any.Goals as goal
use Rattle.ldst.proofs.transfer_any.Goals.{After-is_fault-2}

known : (d : After-is_fault-2) → let a = d.args in
    Known (n_of a.cell) (m_of a.cell) (l_of a.cell) d.n_of-n.result d.m_of.result d.l_of.result
    d.operand-v.result d.operand-x.result d.operand-y.result d.is_fault.result d.is_fault-2.result
    (before_in a.step.now a.host.now a.cells.now)
known d = record {
  n_is = d.n_of-n.ensures.0;
  m_is = d.m_of.ensures.0;
  l_is = d.l_of.ensures.0;
  v_is = d.operand-v.ensures ∙ within _ _ d.n_of-n.ensures.1;
  x_is = d.operand-x.ensures ∙ within _ _ d.m_of.ensures.1;
  y_is = d.operand-y.ensures ∙ within _ _ d.l_of.ensures.1;
  a_is = d.is_fault.ensures;
  b_is = d.is_fault-2.ensures;
}

pub returns-then-is_fault-clause-left : goal.returns-then-is_fault-clause-left
returns-then-is_fault-clause-left c =
    let r = c.refuse.ensures in
    rw (r.regs, r.part, r.settings, r.told, faulted (known (goal.at.returns-then-is_fault-clause-left c).After-is_fault-2) _ c.if-is_fault.true, packed_unpacked _ r.small)

pub returns-then-illegal_load-illegal_store-clause-left : goal.returns-then-illegal_load-illegal_store-clause-left
returns-then-illegal_load-illegal_store-clause-left c =
    let d = (goal.at.returns-then-illegal_load-illegal_store-clause-left c).After-is_fault-2 in
    rw (barred (known d) c.illegal_load.ensures c.illegal_store.ensures c.if-is_fault.false _ c.if-illegal_load-illegal_store.true) (c.illegal.ensures.left _ _)

pub returns-clause-left : goal.returns-clause-left
returns-clause-left c =
    let d = (goal.at.returns-clause-left c).After-is_fault-2 in
    rw (done (known d) c.illegal_load.ensures c.illegal_store.ensures c.if-is_fault.false _ c.if-illegal_load-illegal_store.false) c.store_and_load.ensures.left
