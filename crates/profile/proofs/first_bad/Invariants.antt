-- `profile::first_bad` meets its contract: what is left to check gives the answer of the whole.
use Rattle.std.proofs.Common.{◌≡◌, ◌-◌}
use Rattle.profile.specs.Profile.{first_bad, rule_of}
use Rattle.profile.proofs.first_bad.Given as goal

abbrev pub invariant-loop-place : goal.invariant-loop-place
invariant-loop-place l = first_bad (l.l - l.place) l.place l.cells ≡ rule_of l.l l.cells
