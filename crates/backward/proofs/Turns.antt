-- A step back by the definition is a step of the code, which leaves PC and settings to the last entry taken back.
-- Assumes nothing.
use Prim.Native.Nat.{ℕ, zero, suc, ◌+◌, ◌-◌, ◌≤◌, ◌<◌}
use mathlib.Core.Path.{◌≡◌, refl, ◌∙◌}
use mathlib.Core.Bool.{cond}
use mathlib.Core.List.{List}
use native.Mathlib.Nat.{sub-zero}
use native.Mathlib.Numerals.{add-one}
use native.Mathlib.Omega.{arith}
use lib.ListN.{length, take, drop}
use borrow.Author.Tests.{ne_eqb}
use Rattle.machine.specs.declared.Machine.{Machine}
use Rattle.machine.specs.State.{State, capacity_of}
use Rattle.machine.specs.Stops.{plainly}
use Rattle.journal.specs.declared.Entry.{Entry}
use Rattle.journal.specs.Words.{start_of}
use Rattle.journal.specs.Journal.{last_of, damaged_of, restored, regs_before, cells_before, undo_of, first_in}
use Rattle.journal.proofs.Room.{ends_within}
use Rattle.journal.proofs.Back.{pc_at_last, first_whole}
use Rattle.call.specs.Calls.{stop_at, back_from}
use Rattle.backward.specs.Reached.{machine_with, back_to, reached}

-- the eight words below a depth are its last entry
pub entry_read : (journal : List ℕ) (depth at n : ℕ) → 0 < depth → depth ≤ capacity_of journal → at ≡ start_of (depth - 1) → n ≡ 8
    → first_in (take n (drop at journal)) ≡ last_of journal depth
unfolding last_of
entry_read journal depth at n some room p q = rw (p, q) (first_whole journal (start_of (depth - 1)) (ends_within journal (depth - 1) (omega arith)))

-- the definition's turn at depth 0, and above it
pub at_start : (s : State) (n k : ℕ) → s.depth ≡ 0 → back_from (suc n) k s ≡ stop_at (plainly 8) k s
unfolding back_from
at_start s n k e = rw e

turn_by : (s : State) (n k : ℕ) → (s.depth ≡ 0 → ⊥)
    → back_from (suc n) k s ≡ cond (damaged_of (length s.cells) (last_of s.journal s.depth)) (stop_at (plainly 9) k s) (back_from n (k + 1) (undo_of s))
unfolding back_from
turn_by s n k some = rw (ne_eqb s.depth 0 some)

module _ (m : Machine) (regs cells journal : List ℕ) where
  pub depth_reached : (k : ℕ) → (reached m k regs cells journal).depth ≡ m.depth - k
  unfolding reached
  depth_reached zero = rw sub-zero
  depth_reached (suc k) = refl

  -- the registers of a machine that were lent are those that going back left
  pub lent : (k : ℕ) → (k ≡ 0 → regs ≡ m.regs) → reached (machine_with regs m.settings m.depth m.host) k regs cells journal ≡ reached m k regs cells journal
  unfolding reached
  lent zero first = rw (first refl)
  lent (suc k) first = refl

  -- PC and settings that were before a step back do not outlast it
  pub turn : (k n : ℕ) → k < m.depth → (k ≡ 0 → regs ≡ m.regs) → let e = last_of journal (m.depth - k) in
      back_from (suc n) k (reached m k regs cells journal)
      ≡ cond (damaged_of (length cells) e) (stop_at (plainly 9) k (reached m k regs cells journal)) (back_from n (k + 1) (reached m (k + 1) (restored e regs) (cells_before e cells) journal))
  unfolding reached regs_before
  turn zero n below first = turn_by (reached m zero regs cells journal) n zero (λ e. omega arith) ∙ rw (first refl, sub-zero)
  turn (suc k) n below first =
      let z : m.depth - suc k - 1 ≡ m.depth - suc (suc k) = omega arith in
      turn_by (reached m (suc k) regs cells journal) n (suc k) (λ e. omega arith)
      ∙ rw (z, add-one (suc k), pc_at_last (last_of journal (m.depth - suc k)) regs (last_of journal (m.depth - k)).pc)

  -- the entry at the depth that is reached is the one that the last step back was taken by
  pub last_taken : (k at n : ℕ) (e : Entry) → (k ≡ 0 → ⊥) → k ≤ m.depth → m.depth ≤ capacity_of journal → at ≡ start_of (m.depth - k) → n ≡ 8
      → e ≡ first_in (take n (drop at journal)) → back_to e regs (m.depth - k) m.host cells journal ≡ reached m k regs cells journal
  unfolding reached
  last_taken zero at n e some few room p q read = absurd (some refl)
  last_taken (suc k) at n e some few room p q read =
      let z : at ≡ start_of (m.depth - k - 1) = omega arith in
      rw (read ∙ entry_read journal (m.depth - k) at n (omega arith) (omega arith) z q)
