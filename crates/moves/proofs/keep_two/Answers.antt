-- `moves::keep_two` meets its contract: the settings of the entry are the word itself, unpacked and packed again.
use Rattle.std.proofs.Common.{rules, refl}
use Rattle.packed.proofs.Laws.{packed_unpacked}
use Rattle.moves.proofs.keep_two.Goals as goal

pub returns-clause-entry : goal.returns-clause-entry
returns-clause-entry c = rw (c.keep.ensures.entry, c.entry_at.ensures, packed_unpacked c.args.step.now.settings (search rules)) refl

pub returns-clause-typed : goal.returns-clause-typed
returns-clause-typed c = (c.keep.ensures.long, search rules)
