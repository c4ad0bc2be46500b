-- `put_refused` meets its contract: the pieces, put one after the other, are the line.
use Rattle.std.proofs.Common.{rules}
use Rattle.text.proofs.Adds.{added_then}
use Rattle.intake.proofs.Lengths.{refused_short}
use Rattle.intake.proofs.put_refused.Goals as goal

pub returns-clause-added : goal.returns-clause-added
returns-clause-added c = added_then _ _ (added_then _ _ c.put_number-a.ensures c.put_number-b.ensures) c.put.ensures

pub returns-clause-short : goal.returns-clause-short
returns-clause-short c = refused_short _ _ (search rules) (search rules)
