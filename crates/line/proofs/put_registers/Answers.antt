-- `line::put_registers` meets its contract: the pieces, put one after the other, are the line.
use Rattle.text.proofs.Adds.{added_then}
use Rattle.line.proofs.put_registers.Goals as goal

pub returns : goal.returns
returns c = added_then _ _ (added_then _ _ (added_then _ _ (added_then _ _ c.put_word-a.ensures c.put_number-b.ensures) c.put_number-c.ensures) c.put_number-d.ensures) c.put.ensures
