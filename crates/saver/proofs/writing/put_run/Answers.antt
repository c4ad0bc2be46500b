-- `saver::writing::put_run` meets its contract: a record is its head, the base and the cells, one after the other; a run of no cell is none.
use Prim.Native.Nat.{◌+◌, ◌*◌}
use native.Mathlib.Omega.{arith}
use mathlib.Core.Path.{sym, ◌∙◌}
use borrow.Author.Tests.{eqb-true, eqb-false}
use lib.ListN.{length}
use Rattle.lent.proofs.Numbers.{length-bytes}
use Rattle.saver.proofs.Pieces.{stored_then, stored_none, stored_record, head_length, run_none, run_record_lem, run_payload_lem, run_length, length-word_bytes}
use Rattle.saver.proofs.writing.put_run.Goals as goal

pub returns-then-is_empty : goal.returns-then-is_empty
returns-then-is_empty c = rw (run_none _ _ (eqb-true (length c.args.run.now) 0 (sym c.is_empty.ensures ∙ c.if-is_empty.true))) (stored_none _ _)

pub put_head-head-requires : goal.put_head-head-requires
put_head-head-requires c = omega (arith, c.requires, run_length c.args.base c.args.run.now (eqb-false (length c.args.run.now) 0 (sym c.is_empty.ensures ∙ c.if-is_empty.false)))

pub put_words-requires : goal.put_words-requires
put_words-requires c = omega (arith, c.requires, run_length c.args.base c.args.run.now (eqb-false (length c.args.run.now) 0 (sym c.is_empty.ensures ∙ c.if-is_empty.false)), c.put_head-head.ensures.end, head_length (2 + 4 * length c.args.run.now) 1, c.put-next.ensures.end, length-bytes 2 c.args.base, length-word_bytes c.args.run.now)

pub returns : goal.returns
returns c = rw (run_record_lem _ _ (eqb-false (length c.args.run.now) 0 (sym c.is_empty.ensures ∙ c.if-is_empty.false))) (stored_record 1 _ _ (run_payload_lem c.args.base c.args.run.now) c.put_head-head.ensures (stored_then _ _ c.put-next.ensures c.put_words.ensures))

pub put-next-requires-clause-end_bound : goal.put-next-requires-clause-end_bound
put-next-requires-clause-end_bound c = omega (arith, c.requires, run_length c.args.base c.args.run.now (eqb-false (length c.args.run.now) 0 (sym c.is_empty.ensures ∙ c.if-is_empty.false)), c.put_head-head.ensures.end, head_length (2 + 4 * length c.args.run.now) 1)
