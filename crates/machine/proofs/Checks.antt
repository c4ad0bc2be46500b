-- What the answers on M and on settings show.
-- Assumes nothing.
use Prim.Native.Nat.{ℕ, ◌≤◌}
use mathlib.Core.Path.{◌≡◌}
use mathlib.Core.Bool.{Bool, true, false, not}
use lib.Dec.{ltb, eqb}
use borrow.Author.Tests.{ltb-false}
use Rattle.machine.proofs.Tests.{or_right}
use Rattle.machine.specs.State.{most_cells, bad_cells}

-- a test that was made the other way round
pub turned : (t b : Bool) (r : Bool) → r ≡ not t → not r ≡ b → t ≡ b
turned true b r e h = rw e at h
turned false b r e h = rw e at h

-- M is not above the most
pub not_above : (m : ℕ) → bad_cells m ≡ false → m ≤ most_cells
not_above m h = ltb-false most_cells m (or_right (eqb m 0) (ltb most_cells m) h)
