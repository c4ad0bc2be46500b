-- `lent::clear` meets its contract: each turn makes one word more 0.
use mathlib.Core.List.{◌++◌}
use lib.ListN.{drop, replicate}
use mathlib.Core.Path.{◌≡◌}
use Rattle.lent.proofs.clear.Given as goal

abbrev pub invariant-loop-word : goal.invariant-loop-word
invariant-loop-word l = l.word-items ≡ replicate l.word-index 0 ++ drop l.word-index l.initial.word-items
