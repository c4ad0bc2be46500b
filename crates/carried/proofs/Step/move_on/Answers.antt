-- `carried::Step::move_on` meets its contract: the entry's settings are the word unpacked.
use Rattle.std.proofs.Common.{rules, refl}
use Rattle.packed.proofs.Laws.{packed_unpacked}
use Rattle.carried.proofs.Step.move_on.Goals as goal

pub returns-clause-entry : goal.returns-clause-entry
returns-clause-entry c = rw (c.keep.ensures.entry, c.entry_at-entry.ensures, packed_unpacked c.args.self.now.settings (search rules)) refl
