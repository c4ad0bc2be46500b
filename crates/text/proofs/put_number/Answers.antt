-- `text::put_number` meets its contract: the digits are put where the name ends.
use Rattle.text.specs.Text.{decimal}
use Rattle.text.proofs.Adds.{added_then}
use Rattle.text.proofs.put_number.Goals as goal

pub returns : goal.returns
returns c = added_then c.args.name.now (decimal c.args.n) c.put-next.ensures c.put_decimal.ensures
