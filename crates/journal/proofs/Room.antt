-- J and the journal's words: below J there is room for an entry, and an entry into the part that is lent for it is an entry into the whole.
-- Assumes nothing.
use Prim.Native.Nat.{ℕ, ◌+◌, ◌-◌, ◌*◌, ◌≤◌, ◌<◌}
use mathlib.Core.Path.{◌≡◌}
use mathlib.Core.Bool.{false}
use mathlib.Core.List.{List}
use native.Mathlib.Omega.{arith}
use lib.Dec.{ltb}
use lib.ListN.{length, take, drop, length-drop}
use lib.Seq.{sets, length-take-le}
use borrow.Author.Tests.{le-ltb}
use borrow.Rule.Slice.PartMut.{mid_of, put_mid}
use Rattle.machine.specs.State.{capacity_of, entries_in}
use Rattle.machine.proofs.Parts.{exact_sets}
use Rattle.journal.specs.declared.Entry.{Entry}
use Rattle.journal.specs.Words.{eight_of, start_of}
use Rattle.journal.specs.Journal.{entered}

-- below J there is room for an entry, and J entries are within the journal
pub room : (journal : List ℕ) (depth : ℕ) → depth < capacity_of journal → 8 * (depth + 1) ≤ length journal
unfolding capacity_of entries_in
room journal depth h = omega arith

pub at_most : (journal : List ℕ) (depth : ℕ) → depth ≤ capacity_of journal → depth ≤ 65536
unfolding capacity_of entries_in
at_most journal depth h = omega arith

pub entries : (journal : List ℕ) (depth : ℕ) → depth ≤ capacity_of journal → 8 * depth ≤ length journal
unfolding capacity_of entries_in
entries journal depth h = omega arith

-- eight words of a list are not too short for an entry
pub long_enough : (l : List ℕ) (at : ℕ) → at + 8 ≤ length l → ltb (length (take 8 (drop at l))) 8 ≡ false
long_enough l at fits = le-ltb (length (take 8 (drop at l))) 8 (omega (arith, length-take-le 8 (drop at l) (simp length-drop (omega arith))))

-- the part that is lent for an entry
lent : (l : List ℕ) (e : Entry) (at n : ℕ) → n ≡ 8 → at + 8 ≤ length l → put_mid at n l (entered (mid_of at n l) e) ≡ sets l at (eight_of e)
lent l e at n q fits = rw (q, long_enough l at fits) (exact_sets l (eight_of e) at fits)

module _ (journal : List ℕ) (depth : ℕ) (below : depth < capacity_of journal) where
  pub ends_within : start_of depth + 8 ≤ length journal
  ends_within = omega (arith, room journal depth below)

  pub entered_whole : (e : Entry)
      → put_mid (start_of depth) (start_of depth + 8 - start_of depth) journal (entered (mid_of (start_of depth) (start_of depth + 8 - start_of depth) journal) e)
      ≡ sets journal (start_of depth) (eight_of e)
  entered_whole e = lent journal e (start_of depth) (start_of depth + 8 - start_of depth) (omega arith) ends_within
