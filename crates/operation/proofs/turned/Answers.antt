-- `operation::turned` meets its contract: the values of an immediate form, the second one first.
use mathlib.Core.Path.{sym}
use Rattle.carried.proofs.Results.{reads}
use Rattle.operation.proofs.Operations.{operated}
use Rattle.operation.proofs.turned.Goals as goal

pub returns-clause-left : goal.returns-clause-left
returns-clause-left c = λ host. λ cells.
    let a = c.args in
    let kept = c.keep_n-n.ensures in
    let put = rw (kept.settled.0, kept.settled.1) at c.finish.ensures.operated in
    let n = reads _ kept.typed.0 kept.moved kept.number.0 in
    let imm = c.imm_of.ensures in
    let se = sym (rw imm at c.se.ensures) in
    rw c.finish.ensures.part
    (operated a.step.now.settings _ _ host cells a.op _ _ kept.typed.0 kept.typed.1 (kept.number, (kept.entry, kept.moved)) se n put)
