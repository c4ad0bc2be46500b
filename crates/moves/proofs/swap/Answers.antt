-- `moves::swap` meets its contract: after PC has moved on, registers read as operands, and l is written before n.
use Rattle.packed.proofs.Laws.{packed_unpacked}
use Rattle.effect.specs.Effect.{effect_of}
use Rattle.effect.specs.Refusal.{refused_by}
use Rattle.effect.specs.Becomes.{became_of}
use Rattle.journal.specs.Journal.{regs_after, cells_after, entry_of}
use Rattle.carried.specs.Left.{left_of}
use Rattle.carried.proofs.Operands.{read}
use Rattle.moves.proofs.swap.Goals as goal

pub returns-clause-left : goal.returns-clause-left
unfolding left_of became_of refused_by effect_of regs_after cells_after entry_of
returns-clause-left c = λ host. λ cells.
    let a = c.args in
    let n = c.n_of-n in
    let m = c.m_of in
    let l = c.l_of-l in
    let k = c.keep_two.ensures in
    rw (k.entry, k.moved, read _ k.typed.0 n.result, read _ k.typed.0 m.result, n.ensures.0, m.ensures.0, l.ensures.0, k.settled.0, k.settled.1, packed_unpacked a.step.now.settings k.typed.1)
