-- Whether an entry is damaged, and which cells it gives back, by its uses: up to 3 there is no stored cell, up to 7 there is one.
-- Assumes nothing.
use Prim.Native.Nat.{ℕ, ◌≤◌, ◌<◌}
use mathlib.Core.Path.{◌≡◌}
use mathlib.Core.Bool.{true, false, not, ◌&&◌, ◌||◌}
use mathlib.Core.List.{List}
use native.Mathlib.Omega.{arith}
use lib.Dec.{leb, ltb}
use lib.ListN.{set}
use borrow.Author.Tests.{leb-false, lt-ltb, le-ltb}
use Rattle.machine.proofs.Tests.{or_right}
use Rattle.packed.specs.Packed.{packed_bound}
use Rattle.journal.specs.declared.Entry.{Entry}
use Rattle.journal.specs.Journal.{out_of_range, damaged_of, cells_before}
use Rattle.journal.proofs.Words.{store_used, store_unused}

module _ (m : ℕ) (e : Entry) where
  pub out_damaged : out_of_range m e ≡ true → damaged_of m e ≡ true
  unfolding damaged_of
  out_damaged h = rw h

  module _ (inside : out_of_range m e ≡ false) where
    pub numbered : e.numbers < 65536
    numbered = leb-false _ _ (or_right (leb m e.pc || leb packed_bound e.settings) (leb 65536 e.numbers) inside)

    pub use_damaged : 7 < e.uses → damaged_of m e ≡ true
    unfolding damaged_of
    use_damaged h = rw (inside, lt-ltb 7 e.uses h)

    pub no_store_whole : e.uses ≤ 3 → damaged_of m e ≡ false
    unfolding damaged_of
    no_store_whole h = rw (inside, le-ltb 7 e.uses (omega arith), store_unused e.uses h)

    pub store_damaged : 3 < e.uses → e.uses ≤ 7 → damaged_of m e ≡ not (leb 1 e.address && ltb e.address m)
    unfolding damaged_of
    store_damaged h k = rw (inside, le-ltb 7 e.uses k, store_used e.uses h k)

module _ (e : Entry) (cells : List ℕ) where
  pub no_store_kept : e.uses ≤ 3 → cells_before e cells ≡ cells
  unfolding cells_before
  no_store_kept h = rw (store_unused e.uses h)

  pub store_put : 3 < e.uses → e.uses ≤ 7 → cells_before e cells ≡ set cells e.address e.old
  unfolding cells_before
  store_put h k = rw (store_used e.uses h k)
