-- `verdict::found::length_in` meets its contract: the digits that are left give the number of the whole.
use Prim.Native.Nat.{◌≤◌}
use mathlib.Core.Path.{◌≡◌}
use lib.ListN.{drop}
use Rattle.verdict.specs.Length.{number_from}
use Rattle.verdict.proofs.found.length_in.Given as goal

abbrev pub invariant-loop-b : goal.invariant-loop-b
invariant-loop-b l = record { fits : l.value ≤ l.most; rest : number_from l.most l.value (drop l.b-index l.argument) ≡ number_from l.most 0 l.argument }
