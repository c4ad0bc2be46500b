-- `job::reading::put_words` meets its contract: each turn stores one word, and what is left to store leads where the whole leads.
use Prim.Native.Nat.{◌*◌, ◌-◌}
use lib.ListN.{drop, length}
use lib.Seq.{sets}
use mathlib.Core.Path.{◌≡◌}
use Rattle.job.specs.Job.{words_of}
use Rattle.job.proofs.reading.put_words.Given as goal

abbrev pub invariant-loop-i : goal.invariant-loop-i
invariant-loop-i l = sets l.part l.i (words_of (length l.initial.part - l.i) (drop (4 * l.i) l.words)) ≡ sets l.initial.part 0 (words_of (length l.initial.part) l.words)
