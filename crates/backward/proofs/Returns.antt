-- Going back that is under way: what is left of it leads where the whole leads.
-- Assumes nothing.
use Prim.Native.Nat.{ℕ, suc, ◌+◌, ◌-◌, ◌≤◌, ◌<◌, min}
use mathlib.Core.Path.{◌≡◌, refl, sym, ◌∙◌}
use mathlib.Core.Bool.{Bool, true, false, cond, not}
use mathlib.Core.List.{List}
use native.Mathlib.Nat.{sub-zero}
use native.Mathlib.Omega.{arith}
use lib.Dec.{ltb}
use lib.ListN.{length, take, drop}
use borrow.Author.Tests.{ltb-true, ltb-false, not-true, not-false}
use Rattle.machine.specs.declared.Machine.{Machine}
use Rattle.machine.specs.State.{state_of, capacity_of}
use Rattle.machine.specs.Stops.{plainly}
use Rattle.machine.proofs.Checks.{turned}
use Rattle.journal.specs.declared.Entry.{Entry}
use Rattle.journal.specs.Words.{start_of}
use Rattle.journal.specs.Journal.{last_of, damaged_of, restored, cells_before, first_in}
use Rattle.journal.proofs.Lists.{length-write_if}
use Rattle.journal.proofs.Room.{entries}
use Rattle.call.specs.Calls.{stop_at, back_from}
use Rattle.backward.specs.Reached.{reached}
use Rattle.backward.proofs.Turns.{entry_read, at_start, depth_reached, turn}

-- k steps are taken back, and the last of them has its entry at `at`
pub record Returning (number : ℕ) (m : Machine) (cells₀ journal : List ℕ) (k at : ℕ) (regs cells : List ℕ) : Type 0 where
  pub few : k ≤ min number m.depth
  pub place : at ≡ start_of (m.depth - k)
  pub first : k ≡ 0 → regs ≡ m.regs
  pub same : length cells ≡ length cells₀
  pub rest : back_from (number - k) k (reached m k regs cells journal) ≡ back_from number 0 (state_of m cells₀ journal)

pub turn_round : {number : ℕ} {m : Machine} {cells journal : List ℕ} → Returning number m cells journal 0 (start_of m.depth) m.regs cells
unfolding reached
turn_round = record { few = omega arith; place = rw sub-zero; first = λ z. refl; same = refl; rest = rw sub-zero }

module _ {number : ℕ} {m : Machine} {cells₀ journal : List ℕ} {k at : ℕ} {regs cells : List ℕ} (u : Returning number m cells₀ journal k at regs cells) where
  -- the number is done, or there is no step left
  pub over : k ≡ min number m.depth
      → stop_at (plainly (cond (ltb m.depth number) 8 0)) k (reached m k regs cells journal) ≡ back_from number 0 (state_of m cells₀ journal)
  unfolding back_from
  over all = go (ltb m.depth number) refl ∙ u.rest
    where
      go : (t : Bool) → ltb m.depth number ≡ t
          → stop_at (plainly (cond t 8 0)) k (reached m k regs cells journal) ≡ back_from (number - k) k (reached m k regs cells journal)
      go true h =
          let more : m.depth < number = ltb-true m.depth number h in
          let n : number - k ≡ suc (number - k - 1) = omega arith in
          let none : m.depth - k ≡ 0 = omega arith in
          rw n (sym (at_start (reached m k regs cells journal) (number - k - 1) k (depth_reached m regs cells journal k ∙ none)))
      go false h =
          let most : number ≤ m.depth = ltb-false m.depth number h in
          let n : number - k ≡ 0 = omega arith in
          rw n

  module _ (below : k < min number m.depth) (room : m.depth ≤ capacity_of journal) where
    -- the next entry is in the journal, and ends at `at`
    pub within : (8 ≤ at) × (at ≤ length journal)
    within = (omega (arith, u.place), omega (arith, u.place, entries journal m.depth room))

    -- that entry is read, and a step is taken back by it or is not
    module _ {e : Entry} {r : Bool} {regs' cells' : List ℕ} (read : e ≡ first_in (take (at - (at - 8)) (drop (at - 8) journal)))
        (intact : r ≡ not (damaged_of (length cells) e)) (regs-put : regs' ≡ cond r (restored e regs) regs) (cells-put : cells' ≡ cond r (cells_before e cells) cells) where
      last : e ≡ last_of journal (m.depth - k)
      last = read ∙ entry_read journal (m.depth - k) (at - 8) (at - (at - 8)) (omega arith) (omega arith) (omega (arith, u.place)) (omega (arith, within))

      one_left : cond (damaged_of (length cells) e) (stop_at (plainly 9) k (reached m k regs cells journal))
          (back_from (number - (k + 1)) (k + 1) (reached m (k + 1) (restored e regs) (cells_before e cells) journal))
          ≡ back_from number 0 (state_of m cells₀ journal)
      one_left =
          let n : number - k ≡ suc (number - (k + 1)) = omega arith in
          rw last (sym (turn m regs cells journal k (number - (k + 1)) (omega arith) u.first) ∙ rw (← n) u.rest)

      pub breaks_off : not r ≡ true → stop_at (plainly 9) k (reached m k regs' cells' journal) ≡ back_from number 0 (state_of m cells₀ journal)
      breaks_off h =
          let d : damaged_of (length cells) e ≡ true = turned _ _ r intact h in
          rw (regs-put, cells-put, not-true r h) (rw d at one_left)

      pub stays : not r ≡ true → k ≡ 0 → regs' ≡ m.regs
      stays h z = rw (regs-put, not-true r h) (u.first z)

      pub again : not r ≡ false → Returning number m cells₀ journal (k + 1) (at - 8) regs' cells'
      unfolding cells_before
      again h =
          let d : damaged_of (length cells) e ≡ false = turned _ _ r intact h in
          rw (regs-put, cells-put, not-false r h) (record {
            few = omega arith;
            place = omega (arith, u.place);
            first = λ z. absurd (omega arith);
            same = simp length-write_if u.same;
            rest = rw d at one_left;
          })
