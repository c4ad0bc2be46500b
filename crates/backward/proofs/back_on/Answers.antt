-- `backward::back_on` meets its contract: the machine that lent its registers is the one that going back is told of.
use Rattle.backward.proofs.Turns.{lent}
use Rattle.backward.proofs.back_on.Goals as goal

pub returns : goal.returns
returns c =
    let a = c.args in
    let u = c.back_over-undone in
    rw (c.machine_after.ensures u.new.cells, lent a.m u.new.regs u.new.cells a.journal.now u.result.count u.ensures.none) (u.ensures.left a.m.settings a.m.host)
