-- `ldst::transfer` meets its contract: the tests on both pointers pick the way.
use Rattle.std.proofs.Common.{rules}
use Rattle.cell.specs.Cell.{n_of, m_of, l_of}
use Rattle.ldst.proofs.Short.{Moved, loads, stores, back_again}
use Rattle.ldst.proofs.transfer.Goals as goal
use Rattle.ldst.proofs.transfer.Goals.{After-memory-size}

-- what is known before the first test
moved : (d : After-memory-size) → let a = d.args in
    Moved (n_of a.cell) (m_of a.cell) (l_of a.cell) d.n_of-n.result d.m_of-m.result d.l_of-l.result d.memory-size.result a.step.now.regs.now
    d.advance-pc.new.regs a.cells.now
moved d = record {
  n_is = d.n_of-n.ensures.0;
  m_is = d.m_of-m.ensures.0;
  l_is = d.l_of-l.ensures.0;
  on_is = d.advance-pc.ensures.moved;
  size_is = d.memory-size.ensures;
}

pub returns-then-k-size-clause-left : goal.returns-then-k-size-clause-left
returns-then-k-size-clause-left c =
    let d = (goal.at.returns-then-k-size-clause-left c).After-memory-size in
    let pc = c.advance-pc.ensures in
    loads (moved d) _ _ _ c.args.host.now c.args.step.now.part.now _ pc.long (search rules) c.if-x-eq0.true c.index_of-k.ensures c.if-k-gt0.true
    c.if-k-size.true (rw (c.entry_at.ensures, pc.was) at c.enter.ensures)

pub returns-then-k-size-2-clause-left : goal.returns-then-k-size-2-clause-left
returns-then-k-size-2-clause-left c =
    let d = (goal.at.returns-then-k-size-2-clause-left c).After-memory-size in
    let pc = c.advance-pc.ensures in
    stores (moved d) _ _ _ c.args.host.now c.args.step.now.part.now _ pc.long (search rules) c.if-x-eq0.false c.if-y-eq0.true
    c.index_of-k-then-y-eq0.ensures c.if-k-size-2.true (rw (c.entry_at-then-k-size-2.ensures, pc.was) at c.enter-then-k-size-2.ensures)

pub returns-clause-left : goal.returns-clause-left
returns-clause-left c = rw (back_again c.args.step.now.regs.now c.advance-pc.ensures.moved c.advance-pc.ensures.was) at c.transfer_any.ensures.left
