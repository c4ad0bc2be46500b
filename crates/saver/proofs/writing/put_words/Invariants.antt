-- `saver::writing::put_words` meets its contract: each turn stores one word, and what is left to store leads where the whole leads.
use lib.ListN.{drop}
use Rattle.saver.specs.Saving.{word_bytes}
use Rattle.saver.proofs.Pieces.{Left}
use Rattle.saver.proofs.writing.put_words.Given as goal

abbrev pub invariant-loop-word : goal.invariant-loop-word
invariant-loop-word l = Left l.initial.room l.at (word_bytes l.words) l.room l.next (word_bytes (drop l.word-index l.words))
