-- `saver::writing::put_value` meets its contract: a record is its head, the register and the value, one after the other; 0 has none.
use native.Mathlib.Omega.{arith}
use Rattle.lent.proofs.Numbers.{length-bytes}
use Rattle.saver.proofs.Pieces.{stored_then, stored_none, stored_record, head_length, value_none, value_record_lem, value_payload_lem, value_length}
use Rattle.saver.proofs.writing.put_value.Goals as goal

pub returns-then-value-eq0 : goal.returns-then-value-eq0
returns-then-value-eq0 c = rw (value_none _ _ c.if-value-eq0.true) (stored_none _ _)

pub put_head-head-requires : goal.put_head-head-requires
put_head-head-requires c = omega (arith, c.requires.1, value_length c.args.register c.args.value c.if-value-eq0.false)

pub returns : goal.returns
returns c = rw (value_record_lem _ _ c.if-value-eq0.false) (stored_record 2 5 _ (value_payload_lem c.args.register c.args.value) c.put_head-head.ensures (stored_then _ _ c.put-next.ensures c.put.ensures))

pub put-next-requires-clause-end_bound : goal.put-next-requires-clause-end_bound
put-next-requires-clause-end_bound c = omega (arith, c.requires.1, value_length c.args.register c.args.value c.if-value-eq0.false, c.put_head-head.ensures.end, head_length 5 2)

pub put-requires-clause-end_bound : goal.put-requires-clause-end_bound
put-requires-clause-end_bound c = omega (arith, c.requires.1, value_length c.args.register c.args.value c.if-value-eq0.false, c.put_head-head.ensures.end, head_length 5 2, c.put-next.ensures.end, length-bytes 1 c.args.register)
