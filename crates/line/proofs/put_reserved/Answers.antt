-- `line::put_reserved` meets its contract: the pieces, put one after the other, are the line.
use Rattle.text.proofs.Adds.{added_then}
use Rattle.line.proofs.put_reserved.Goals as goal

pub returns : goal.returns
returns c = added_then _ _ c.put_number-a.ensures c.put.ensures
