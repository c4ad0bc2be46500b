-- `reader::word` meets its contract: the opcodes passed do not begin the text, so the first from here on is the first of all.
use mathlib.Core.Path.{◌≡◌}
use Prim.Native.Nat.{◌-◌}
use Rattle.reader.specs.Reading.{word_from}
use Rattle.reader.proofs.word.Given as goal

abbrev pub invariant-loop-x : goal.invariant-loop-x
invariant-loop-x l = word_from (123 - l.x) l.x l.text ≡ word_from 123 0 l.text
