-- `moves::load` meets its contract: the value made is the definition's, over the registers before.
use mathlib.Core.Path.{sym}
use Rattle.cell.specs.Cell.{n_of}
use Rattle.packed.proofs.Laws.{packed_unpacked}
use Rattle.effect.specs.Effect.{effect_of}
use Rattle.effect.specs.Refusal.{refused_by}
use Rattle.effect.specs.Becomes.{became_of}
use Rattle.journal.specs.Journal.{regs_after, cells_after, entry_of}
use Rattle.carried.specs.Left.{left_of}
use Rattle.carried.specs.Step.{before_in}
use Rattle.carried.proofs.Operands.{read}
use Rattle.moves.proofs.load.Goals as goal

pub returns-clause-left : goal.returns-clause-left
unfolding left_of became_of refused_by effect_of regs_after cells_after entry_of
returns-clause-left c = λ host. λ cells.
    let a = c.args in
    let k = c.keep_n-n.ensures in
    let n = k.number.0 in
    let value = c.value_of.ensures (before_in a.step.now host cells) (n_of a.cell) (rw (k.moved, n) (sym (read a.step.now.regs.now k.typed.0 (n_of a.cell)))) in
    rw (value, k.entry, k.moved, n, c.imm_of.ensures, k.settled.0, k.settled.1, packed_unpacked a.step.now.settings k.typed.1)
