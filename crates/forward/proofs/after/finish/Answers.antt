-- `forward::after::finish` meets its contract, by the law of a loop that is over.
use Rattle.forward.proofs.Runs.{finishes}
use Rattle.forward.proofs.after.finish.Goals as goal

pub returns : goal.returns
returns c = λ host cells journal e o. rw (c.settled.ensures, c.stop_of.ensures, e) (finishes _ _ _ _ _ _ _ _ _ c.requires.1 (rw e at o))
