-- `journal::entry_in` meets its contract: the test on the part's length, then eight words.
use Rattle.std.proofs.Common.{rules}
use borrow.Author.Tests.{lt-ltb, le-ltb}
use Rattle.journal.specs.Journal.{first_in}
use Rattle.journal.proofs.entry_in.Goals as goal

pub returns-then-part-lt-WORDS : goal.returns-then-part-lt-WORDS
unfolding first_in
returns-then-part-lt-WORDS c = rw (lt-ltb _ _ c.if-part-lt-WORDS.true) (search rules)

pub returns : goal.returns
unfolding first_in
returns c = rw (le-ltb _ _ c.if-part-lt-WORDS.false)
