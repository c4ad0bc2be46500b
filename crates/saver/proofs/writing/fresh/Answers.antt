-- `fresh` meets its contract: the parts of fresh settings are compared.
use Rattle.std.proofs.Common.{rules}
use Rattle.machine.specs.State.{fresh_machine}
use Rattle.saver.proofs.writing.fresh.Goals as goal

pub returns : goal.returns
unfolding fresh_machine
returns c = let e = rw c.fresh.ensures at c.eq.ensures in search rules
