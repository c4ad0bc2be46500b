-- The step back repeated, taken apart at its first step.
-- Assumes nothing.
use Prim.Native.Nat.{ℕ, zero, suc}
use mathlib.Core.Path.{◌≡◌, refl, ap}
use Rattle.machine.specs.State.{State}
use Rattle.journal.specs.Journal.{undo_of}
use Rattle.journal.specs.Undos.{undos}

pub undos_none : (s : State) → undos 0 s ≡ s
unfolding undos
undos_none s = refl

pub undos_first : (n : ℕ) (s : State) → undos (suc n) s ≡ undos n (undo_of s)
unfolding undos
undos_first zero s = refl
undos_first (suc n) s = ap undo_of (undos_first n s)
