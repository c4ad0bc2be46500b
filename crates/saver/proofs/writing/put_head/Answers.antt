-- `saver::writing::put_head` meets its contract: the kind is stored where the length ends.
use native.Mathlib.Omega.{arith}
use Rattle.lent.proofs.Numbers.{length-bytes}
use Rattle.saver.proofs.Pieces.{stored_then}
use Rattle.saver.proofs.writing.put_head.Goals as goal

pub returns : goal.returns
returns c = stored_then _ _ c.put-next.ensures c.put.ensures

pub put-requires-clause-end_bound : goal.put-requires-clause-end_bound
put-requires-clause-end_bound c = omega (arith, c.put-next.ensures.end, length-bytes 4 c.args.size)
