-- `forward::after::halt` meets its contract: the test on what was told picks a step that is refused or one that is done.
use borrow.Author.Tests.{le-ltb, lt-ltb}
use Rattle.forward.specs.Inner.{moved_by}
use Rattle.forward.proofs.after.halt.Goals as goal

pub returns-then-told-ge-FAULT : goal.returns-then-told-ge-FAULT
unfolding moved_by
returns-then-told-ge-FAULT c = λ rest host cells journal. rw (le-ltb _ _ c.if-told-ge-FAULT.true, ← c.refusal.ensures) (c.refused.ensures _ host cells journal)

pub returns : goal.returns
unfolding moved_by
returns c = λ rest host cells journal. rw (lt-ltb _ _ c.if-told-ge-FAULT.false, c.requires.1, c.settled.ensures, c.stop_after.ensures)
