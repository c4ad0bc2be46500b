-- What the checks of a save make of it, where a first writing without room told the size; and what a save that is not refused leaves.
-- Assumes nothing.
use Prim.Native.Nat.{ℕ, ◌≤◌, ◌<◌}
use mathlib.Core.Path.{◌≡◌, refl, ◌∙◌}
use mathlib.Core.Bool.{Bool, true, false, cond}
use mathlib.Core.List.{List, []}
use native.Mathlib.Nat.{zero-add}
use native.Mathlib.Omega.{arith}
use lib.Dec.{ltb}
use lib.ListN.{length}
use lib.Seq.{sets}
use borrow.Author.Tests.{ltb-false, lt-ltb, le-ltb}
use Rattle.machine.specs.declared.Machine.{Machine}
use Rattle.machine.specs.State.{bad_cells, bad_settings}
use Rattle.saver.specs.Saving.{saved_of, Save, unsaved, save_of}
use Rattle.saver.specs.Inner.{Stored}

module _ (m : Machine) (cells room : List ℕ) where
  pub save_few : bad_cells (length cells) ≡ true → unsaved 12 room ≡ save_of m cells room
  unfolding save_of
  save_few h = rw h

  module _ (few : bad_cells (length cells) ≡ false) where
    pub save_unsettled : bad_settings m.settings ≡ true → unsaved 10 room ≡ save_of m cells room
    unfolding save_of
    save_unsettled h = rw (few, h)

    module _ (settled : bad_settings m.settings ≡ false) (tried : List ℕ) (size : ℕ) (s : Stored [] 0 (saved_of m cells) tried size) where
      sized : size ≡ length (saved_of m cells)
      sized = s.end ∙ zero-add (length (saved_of m cells))

      pub save_narrow : length room < size → unsaved 48 room ≡ save_of m cells room
      unfolding save_of
      save_narrow h = rw (few, settled, lt-ltb (length room) (length (saved_of m cells)) (rw sized at h))

      pub save_done : (after : List ℕ) (next : ℕ) → size ≤ length room → Stored room 0 (saved_of m cells) after next
          → ◌≡◌ {A = Save} (record { room = after; number = 0; length = size }) (save_of m cells room)
      unfolding save_of
      save_done after next h t = rw (few, settled, le-ltb (length room) (length (saved_of m cells)) (rw sized at h), t.text, sized)

-- A save that is not refused is past its tests, and its job stands in the room.
module _ (m : Machine) (cells room : List ℕ) where
  tested : (t : Bool) (k : ℕ) (o : Save) → (k ≡ 0 → ⊥) → (cond t (unsaved k room) o).number ≡ 0 → (t ≡ false) × (o.number ≡ 0) × (cond t (unsaved k room) o ≡ o)
  tested true k o n h = absurd (n h)
  tested false k o n h = (refl, h, refl)

  pub record Done : Type 0 where
    pub fine : bad_cells (length cells) ≡ false
    pub settled : bad_settings m.settings ≡ false
    pub fits : length (saved_of m cells) ≤ length room
    pub saved : save_of m cells room ≡ record { room = sets room 0 (saved_of m cells); number = 0; length = length (saved_of m cells) }

  pub done : (save_of m cells room).number ≡ 0 → Done
  unfolding save_of
  done h =
      let a = tested (bad_cells (length cells)) 12 _ (λ e. omega arith) h in
      let b = tested (bad_settings m.settings) 10 _ (λ e. omega arith) a.1 in
      let c = tested (ltb (length room) (length (saved_of m cells))) 48 _ (λ e. omega arith) b.1 in
      record { fine = a.0; settled = b.0; fits = ltb-false (length room) (length (saved_of m cells)) c.0; saved = a.2 ∙ b.2 ∙ c.2 }
