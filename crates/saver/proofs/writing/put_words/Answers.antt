-- `saver::writing::put_words` meets its contract: each turn stores one word, and what is left to store leads where the whole leads.
use native.Mathlib.Omega.{arith}
use lib.ListN.{get_or}
use Rattle.lent.proofs.Numbers.{length-bytes}
use Rattle.saver.proofs.Pieces.{left_turn, left_fits, left_over, word_turn, word_over}
use Rattle.saver.proofs.writing.put_words.Goals as goal

pub put-next-requires-clause-end_bound : goal.put-next-requires-clause-end_bound
put-next-requires-clause-end_bound c = omega (arith, left_fits (word_turn c.args.words.now c.loop-word.word-index (omega arith)) c.loop-word.invariant c.requires, length-bytes 4 (get_or c.args.words.now c.loop-word.word-index 0))

pub loop-word-preserved : goal.loop-word-preserved
loop-word-preserved c = left_turn (word_turn c.args.words.now c.loop-word.word-index (omega arith)) c.loop-word.invariant c.put-next.ensures

pub returns : goal.returns
returns c = left_over (word_over c.args.words.now c.loop-word.word-index (omega arith)) c.loop-word.invariant
