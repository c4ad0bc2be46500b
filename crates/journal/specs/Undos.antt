-- The step back repeated, and whether the last step can be taken back.
use Rattle.std.specs.Prelude.{ℕ, zero, suc, ◌≡◌, Bool, false, length}
use Rattle.machine.specs.State.{State}
use Rattle.journal.specs.Journal.{last_of, damaged_of, undo_of}

-- n steps back
unfoldable pub undos : ℕ → State → State
undos zero s = s
undos (suc n) s = undo_of (undos n s)

-- the last entry cannot be one
abbrev pub damaged_in : State → Bool
damaged_in s = damaged_of (length s.cells) (last_of s.journal s.depth)

-- there is a last step, and its entry can be one
pub record Undoable (s : State) : Type 0 where
  pub some : s.depth ≡ 0 → ⊥
  pub whole : damaged_in s ≡ false
