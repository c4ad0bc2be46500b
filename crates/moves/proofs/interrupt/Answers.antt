-- `moves::interrupt` meets its contract: PC moves on, and INT is told.
use Rattle.packed.proofs.Laws.{packed_unpacked}
use Rattle.effect.specs.Effect.{effect_of}
use Rattle.effect.specs.Refusal.{refused_by}
use Rattle.effect.specs.Becomes.{became_of}
use Rattle.journal.specs.Journal.{regs_after, cells_after, entry_of}
use Rattle.carried.specs.Left.{left_of}
use Rattle.moves.proofs.interrupt.Goals as goal

pub returns-clause-left : goal.returns-clause-left
unfolding left_of became_of refused_by effect_of regs_after cells_after entry_of
returns-clause-left c = λ host. λ cells.
    let a = c.args in
    let m = c.move_on.ensures in
    rw (m.entry, m.moved, m.settled.0, packed_unpacked a.step.now.settings m.typed.1)
