-- A pointer of LDST that does not fault is special or within the cells.
-- Assumes nothing.
use Prim.Native.Nat.{ℕ, ◌<◌}
use mathlib.Core.Path.{◌≡◌, refl}
use mathlib.Core.Bool.{Bool, true, false}
use native.Mathlib.Omega.{arith}
use lib.Dec.{leb}
use borrow.Author.Tests.{leb-false, ltb-false}
use Rattle.machine.specs.State.{first_special}
use Rattle.effect.specs.Refusal.{faults}

pub no_fault : (m p : ℕ) → faults m p ≡ false → p < first_special → p < m
no_fault m p e h = go (leb m p) refl
  where
    go : (t : Bool) → leb m p ≡ t → p < m
    go true q = omega (arith, ltb-false p first_special (rw q at e))
    go false q = leb-false m p q
