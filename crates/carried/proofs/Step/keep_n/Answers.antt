-- `carried::Step::keep_n` meets its contract: the entry's settings are the word unpacked, its one write is of register n.
use Rattle.std.proofs.Common.{rules, refl, add-zero}
use Rattle.packed.proofs.Laws.{packed_unpacked}
use Rattle.carried.proofs.Step.keep_n.Goals as goal

pub returns-clause-entry : goal.returns-clause-entry
returns-clause-entry c =
    rw (c.keep.ensures.entry, c.entry_at.ensures, c.n_of-n.ensures.0, packed_unpacked c.args.self.now.settings (search rules), add-zero) refl
