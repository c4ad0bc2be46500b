use Rattle.std.proofs.Common.{rules}
use Rattle.std.proofs.Common.{arith}
use Rattle.effect.specs.Effect.{effect_of}
use Rattle.effect.specs.Refusal.{refused_by}
use Rattle.effect.specs.Becomes.{became_of}
use Rattle.journal.specs.Journal.{regs_after, cells_after, entry_of}
use Rattle.carried.proofs.Flags.{raises}
use Rattle.carried.specs.Left.{left_of}
use Rattle.carried.proofs.Step.illegal.Goals as goal

pub returns-clause-left : goal.returns-clause-left
unfolding left_of became_of refused_by effect_of regs_after cells_after entry_of
returns-clause-left c = λ host. λ cells.
    let m = c.move_on.ensures in
    rw (m.entry, m.moved, m.settled.0, raises c.args.self.now.settings 128 (search rules) (omega arith))
