-- Going back undoes the application of any effect, and opens no opcode.
-- (1) `intact`: the entry that it wrote is not damaged. (2) `undone`: going back gives registers, settings, depth and cells back, and leaves
-- the journal. (3) `outside`, `up_to`, `lengths`: the words outside the eight stand, the eight are the entry, and the lists keep their lengths.
-- Assumes nothing.
use Prim.Native.Nat.{ℕ, ◌+◌, ◌-◌, ◌*◌, ◌/◌, ◌%◌, ◌≤◌, ◌<◌}
use mathlib.Core.Path.{◌≡◌, refl, ap, ◌∙◌}
use mathlib.Core.Logic.{◌⊎◌}
use mathlib.Core.Bool.{Bool, true, false, not, ◌&&◌, ◌||◌}
use mathlib.Core.List.{List, ◌++◌}
use native.Mathlib.Omega.{arith}
use lib.ListN.{length, get_or, set, take, drop, length-set}
use lib.Seq.{length-sets, length-take-le}
use lib.Dec.{leb, ltb, eqb}
use borrow.Author.Tests.{lt-leb, le-ltb, le-leb, lt-ltb}
use Rattle.effect.specs.Parts.{Write, Effect}
use Rattle.machine.specs.State.{State, pc_of, state_with, InRange}
use Rattle.packed.specs.Packed.{unpacked_of, packed_bound}
use Rattle.packed.proofs.Laws.{packed_below, unpacked_packed}
use Rattle.journal.specs.declared.Entry.{Entry}
use Rattle.journal.specs.Words.{if_used, eight_of, entry_in}
use Rattle.journal.specs.Journal.{writes_in, regs_after, cells_after, entry_of, apply_of, last_of, damaged_of, regs_before, cells_before, undo_of}
use Rattle.journal.proofs.Lists.{length-write_if, miss, mended, write_if-if_used, if_used-lt, write_if-back, take_sets, take_to_sets, read_sets, drop_sets, read_known, take_known, get_or-outside}
use Rattle.journal.proofs.Words.{word}

-- an effect that an instruction can have on s: registers 0 to 255, a store to memory, and a cell that was fetched
pub record Formed (e : Effect) (s : State) : Type 0 where
  pub a : e.a.number < 256
  pub b : e.b.number < 256
  pub store : e.store.used ≡ true → (1 ≤ e.store.address) × (e.store.address < length s.cells)
  pub fetched : pc_of s.regs < length s.cells

-- the entry has room
abbrev pub Room : State → Type 0
Room s = 8 * (s.depth + 1) ≤ length s.journal

-- s, but for its journal
abbrev pub with_journal : State → List ℕ → State
with_journal s j = state_with s.regs s.settings s.depth s.host s.cells j

-- the entry that e leaves on s, and its words
abbrev pub left : Effect → State → Entry
left e s = entry_of e s.regs s.settings s.cells

abbrev pub written : Effect → State → List ℕ
written e s = eight_of (left e s)

add_sub_one : (n : ℕ) → n + 1 - 1 ≡ n
add_sub_one n = omega arith

end : (n : ℕ) → 8 * (n + 1) ≡ 8 * n + 8
end n = omega arith

-- the journal that a step leaves
module _ (e : Effect) (s : State) (room : Room s) where
  fits : 8 * s.depth + length (written e s) ≤ length s.journal
  fits = omega arith

  pub last_written : last_of (apply_of e s).journal (s.depth + 1) ≡ left e s
  unfolding last_of
  last_written = rw (add_sub_one s.depth) (ap entry_in (read_sets s.journal (written e s) (8 * s.depth) fits))

  pub outside_before : take (8 * s.depth) (apply_of e s).journal ≡ take (8 * s.depth) s.journal
  outside_before = take_sets s.journal (written e s) (8 * s.depth) fits

  pub outside_after : drop (8 * (s.depth + 1)) (apply_of e s).journal ≡ drop (8 * (s.depth + 1)) s.journal
  outside_after = rw (end s.depth) (drop_sets s.journal (written e s) (8 * s.depth) fits)

  -- each word outside the eight stands
  pub outside : (k : ℕ) → (k < 8 * s.depth) ⊎ (8 * (s.depth + 1) ≤ k) → get_or (apply_of e s).journal k 0 ≡ get_or s.journal k 0
  outside k h = get_or-outside (apply_of e s).journal s.journal (8 * s.depth) (8 * (s.depth + 1)) outside_before outside_after k h

  pub up_to : take (8 * (s.depth + 1)) (apply_of e s).journal ≡ take (8 * s.depth) s.journal ++ written e s
  up_to = rw (end s.depth) (take_to_sets s.journal (written e s) (8 * s.depth) fits)

  -- a journal that agrees with it up to the entry's end
  module _ (j : List ℕ) (words : take (8 * (s.depth + 1)) j ≡ take (8 * (s.depth + 1)) (apply_of e s).journal) (long : length j ≡ length s.journal) where
    known : take (8 * s.depth + length (written e s)) j ≡ take (8 * s.depth) s.journal ++ written e s
    known = rw (← end s.depth) (words ∙ up_to)

    start : length (take (8 * s.depth) s.journal) ≡ 8 * s.depth
    start = length-take-le (8 * s.depth) s.journal (omega arith)

    pub last_known : last_of j (s.depth + 1) ≡ left e s
    unfolding last_of
    last_known = rw (add_sub_one s.depth) (ap entry_in (read_known j (take (8 * s.depth) s.journal) (written e s) (8 * s.depth) (rw long fits) start known))

    pub earlier_known : take (8 * s.depth) j ≡ take (8 * s.depth) s.journal
    earlier_known = take_known j _ (written e s) (8 * s.depth) start known

-- the registers agree with those before but at PC, a and b
length-writes : (f : Bool) (a b : Write) (r : List ℕ) → length (writes_in f a b r) ≡ length r
length-writes true a b r = simp length-write_if
length-writes false a b r = simp length-write_if

pub length-regs : (e : Effect) (r : List ℕ) → length (regs_after e r) ≡ length r
unfolding regs_after
length-regs e r = length-writes e.reversed e.a e.b _ ∙ length-set r 255 e.pc

pub length-cells : (e : Effect) (c : List ℕ) → length (cells_after e c) ≡ length c
unfolding cells_after
length-cells e c = length-write_if e.store.used c e.store.address e.store.value

pub lengths : (e : Effect) (s : State) → (length (apply_of e s).regs ≡ length s.regs) × (length (apply_of e s).cells ≡ length s.cells) × (length (apply_of e s).journal ≡ length s.journal)
lengths e s = (length-regs e s.regs, length-cells e s.cells, length-sets s.journal (8 * s.depth) (written e s))

agree : (f : Bool) (a b : Write) (pc : ℕ) (r : List ℕ) (j : ℕ) → (true && eqb j 255) ≡ false → (b.used && eqb j b.number) ≡ false
    → (a.used && eqb j a.number) ≡ false → get_or (writes_in f a b (set r 255 pc)) j 0 ≡ get_or r j 0
agree true a b pc r j x y z = miss a.used _ a.number j a.value z ∙ miss b.used _ b.number j b.value y ∙ miss true r 255 j pc x
agree false a b pc r j x y z = miss b.used _ b.number j b.value y ∙ miss a.used _ a.number j a.value z ∙ miss true r 255 j pc x

neither : (a b : Bool) → a ≡ false → b ≡ false → (a || b) ≡ false
neither a b p q = rw (p, q)

-- a used address is in range, and an unused one is not asked about
in_memory : (u : Bool) (i m : ℕ) → (u ≡ true → (1 ≤ i) × (i < m)) → (u && not (leb 1 (if_used u i) && ltb (if_used u i) m)) ≡ false
in_memory true i m h = rw (le-leb 1 i (h refl).0, lt-ltb i m (h refl).1)
in_memory false i m h = refl

module _ (e : Effect) (s : State) (w : Formed e s) where
  -- word 2 gives a and b back, and word 7 which parts are used
  first : (if_used e.a.used e.a.number + 256 * if_used e.b.used e.b.number) % 256 ≡ if_used e.a.used e.a.number
  first = omega (arith, if_used-lt e.a.used e.a.number 256 w.a)

  second : (if_used e.a.used e.a.number + 256 * if_used e.b.used e.b.number) / 256 ≡ if_used e.b.used e.b.number
  second = omega (arith, if_used-lt e.a.used e.a.number 256 w.a)

  regs_back : regs_before (left e s) (regs_after e s.regs) ≡ s.regs
  unfolding regs_before regs_after entry_of
  regs_back =
      rw (first, second, (word e.a.used e.b.used e.store.used).a_back, (word e.a.used e.b.used e.store.used).b_back)
      (simp write_if-if_used
      (mended s.regs _ e.a.used e.b.used true e.a.number e.b.number 255
      (length-writes e.reversed e.a e.b _ ∙ length-set s.regs 255 e.pc)
      (agree e.reversed e.a e.b e.pc s.regs)))

  cells_back : cells_before (left e s) (cells_after e s.cells) ≡ s.cells
  unfolding cells_before cells_after entry_of
  cells_back =
      rw ((word e.a.used e.b.used e.store.used).store_back, write_if-if_used)
      (write_if-back e.store.used s.cells e.store.address e.store.value)

  module _ (l : InRange s.settings) where
    settings_back : unpacked_of (left e s).settings ≡ s.settings
    unfolding entry_of
    settings_back = unpacked_packed s.settings l

    word1 : (left e s).settings < packed_bound
    unfolding entry_of
    word1 = packed_below s.settings l

    word2 : (left e s).numbers < 65536
    unfolding entry_of
    word2 = omega (arith, if_used-lt e.a.used e.a.number 256 w.a, if_used-lt e.b.used e.b.number 256 w.b)

    entry_intact : damaged_of (length s.cells) (left e s) ≡ false
    unfolding damaged_of entry_of
    entry_intact =
        neither _ _ (neither _ _ (neither _ _ (neither _ _
        (lt-leb _ _ w.fetched) (lt-leb _ _ word1)) (lt-leb _ _ word2)) (le-ltb _ _ (word e.a.used e.b.used e.store.used).most))
        (rw (word e.a.used e.b.used e.store.used).store_back (in_memory e.store.used e.store.address (length s.cells) w.store))

    -- a journal that holds the entry, whatever else it holds
    module _ (j : List ℕ) (holds : last_of j (s.depth + 1) ≡ left e s) where
      pub intact_with : damaged_of (length (apply_of e s).cells) (last_of j (s.depth + 1)) ≡ false
      intact_with = rw (holds, length-cells) entry_intact

      pub undo_with : undo_of (with_journal (apply_of e s) j) ≡ with_journal s j
      undo_with = rw holds (rw (regs_back, cells_back, settings_back, add_sub_one s.depth))

    module _ (room : Room s) where
      pub intact : damaged_of (length (apply_of e s).cells) (last_of (apply_of e s).journal (apply_of e s).depth) ≡ false
      intact = intact_with _ (last_written e s room)

      pub undone : undo_of (apply_of e s) ≡ with_journal s (apply_of e s).journal
      undone = undo_with _ (last_written e s room)
