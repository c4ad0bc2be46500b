-- `job::reading::put_words` meets its contract: each turn stores one word, and what is left to store leads where the whole leads.
use Prim.Native.Nat.{◌*◌}
use mathlib.Core.Path.{◌∙◌}
use native.Mathlib.Omega.{arith}
use Rattle.job.proofs.Words.{word_lent, words_turn, words_over, words_over_all}
use Rattle.job.proofs.reading.put_words.Goals as goal

pub loop-i-preserved : goal.loop-i-preserved
loop-i-preserved c = words_turn _ _ _ _ _ (omega arith) (c.number.ensures ∙ word_lent c.args.words.now (4 * c.loop-i.i)) ∙ c.loop-i.invariant

pub returns : goal.returns
returns c = words_over _ _ _ _ (omega arith) ∙ c.loop-i.invariant ∙ words_over_all _ _
