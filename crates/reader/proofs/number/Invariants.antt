-- `reader::number` meets its contract: after each digit the number that begins with the value so far is the whole number. A value that
-- goes on is within the limit, so the next one fits.
use mathlib.Core.Path.{◌≡◌}
use Prim.Native.Nat.{◌<◌, ◌^◌}
use lib.ListN.{drop}
use Rattle.reader.specs.Reading.{run_onward, numeral_of}
use Rattle.reader.proofs.number.Given as goal

abbrev pub invariant-loop-i : goal.invariant-loop-i
invariant-loop-i l = (run_onward l.limit l.value (drop l.i l.rest) ≡ numeral_of l.limit l.text) × (l.value < 2 ^ 36)
