-- `saver::writing::put_setup` meets its contract: a record is its head, flags, mask and mode, one after the other; fresh settings have none.
use mathlib.Core.Path.{sym, ◌∙◌}
use native.Mathlib.Omega.{arith}
use Rattle.lent.proofs.Numbers.{length-bytes}
use Rattle.saver.proofs.Pieces.{stored_then, stored_none, stored_record, head_length, setup_none, setup_record, setup_payload_lem}
use Rattle.saver.proofs.writing.put_setup.Goals as goal

pub returns-then-fresh : goal.returns-then-fresh
returns-then-fresh c = rw (setup_none _ (sym c.fresh.ensures ∙ c.if-fresh.true)) (stored_none _ _)

pub returns : goal.returns
returns c = rw (setup_record _ (sym c.fresh.ensures ∙ c.if-fresh.false)) (stored_record 3 5 _ (setup_payload_lem c.args.s) c.put_head-head.ensures (stored_then _ _ (stored_then _ _ c.put-mask.ensures c.put-mode.ensures) c.put.ensures))

pub put-mask-requires-clause-end_bound : goal.put-mask-requires-clause-end_bound
put-mask-requires-clause-end_bound c = omega (arith, c.put_head-head.ensures.end, head_length 5 3)

pub put-mode-requires-clause-end_bound : goal.put-mode-requires-clause-end_bound
put-mode-requires-clause-end_bound c = omega (arith, c.put-mask.ensures.end, length-bytes 2 c.args.s.flags, c.put_head-head.ensures.end, head_length 5 3)

pub put-requires-clause-end_bound : goal.put-requires-clause-end_bound
put-requires-clause-end_bound c = omega (arith, c.put-mode.ensures.end, length-bytes 2 c.args.s.mask, c.put-mask.ensures.end, length-bytes 2 c.args.s.flags, c.put_head-head.ensures.end, head_length 5 3)
