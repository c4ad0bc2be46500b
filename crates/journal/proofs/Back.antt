-- Going back entry by entry: PC may be set once, at the end, and a part of eight words is read as the entry that it holds.
-- Assumes nothing.
use Prim.Native.Nat.{ℕ, ◌+◌, ◌≤◌}
use mathlib.Core.Path.{◌≡◌, refl, sym, ◌∙◌}
use mathlib.Core.Bool.{Bool, true, false}
use mathlib.Core.List.{List}
use lib.Dec.{eqb}
use lib.ListN.{length, set, take, drop}
use lib.Seq.{set-set, set_comm}
use borrow.Author.Tests.{eqb-true, eqb-false}
use Rattle.machine.specs.State.{write_if}
use Rattle.journal.specs.declared.Entry.{Entry}
use Rattle.journal.specs.Words.{entry_in, number_a, number_b, uses_a, uses_b}
use Rattle.journal.specs.Journal.{restored, regs_before, first_in}
use Rattle.journal.proofs.Room.{long_enough}

-- what a place holds before a write that may be none does not matter, if the place is written after it
over : (u : Bool) (r : List ℕ) (k y z i v : ℕ) → set (write_if u (set r k y) i v) k z ≡ set (write_if u r i v) k z
over false r k y z i v = set-set r k y z
over true r k y z i v = go (eqb k i) refl
  where
    go : (t : Bool) → eqb k i ≡ t → set (set (set r k y) i v) k z ≡ set (set r i v) k z
    go true h = rw (eqb-true k i h) (simp set-set)
    go false h = rw (set_comm r k i y v (eqb-false k i h)) (set-set (set r i v) k y z)

-- whatever PC was, the registers before a step are the restored ones with its PC
pub pc_at_last : (e : Entry) (r : List ℕ) (y : ℕ) → regs_before e (set r 255 y) ≡ set (restored e r) 255 e.pc
unfolding regs_before
pc_at_last e r y =
    sym (over (uses_b e) _ 255 0 e.pc (number_b e) e.b)
    ∙ rw (over (uses_a e) r 255 y 0 (number_a e) e.a) (over (uses_b e) _ 255 0 e.pc (number_b e) e.b)

-- eight words of a journal are no part that is too short
pub first_whole : (journal : List ℕ) (k : ℕ) → k + 8 ≤ length journal → first_in (take 8 (drop k journal)) ≡ entry_in (take 8 (drop k journal))
unfolding first_in
first_whole journal k fits = rw (long_enough journal k fits)
