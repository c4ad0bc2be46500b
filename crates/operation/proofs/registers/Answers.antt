-- `operation::registers` meets its contract: Rm and Rl are read with the PC moved on, as operands are.
use Rattle.carried.proofs.Results.{reads}
use Rattle.operation.proofs.Operations.{operated}
use Rattle.operation.proofs.registers.Goals as goal

pub returns-clause-left : goal.returns-clause-left
returns-clause-left c = λ host. λ cells.
    let a = c.args in
    let kept = c.keep_n-n.ensures in
    let put = rw (kept.settled.0, kept.settled.1) at c.finish.ensures.operated in
    let m = reads _ kept.typed.0 kept.moved c.m_of.ensures.0 in
    let l = reads _ kept.typed.0 kept.moved c.l_of.ensures.0 in
    rw c.finish.ensures.part
    (operated a.step.now.settings _ _ host cells a.op _ _ kept.typed.0 kept.typed.1 (kept.number, (kept.entry, kept.moved)) m l put)
