-- The loop's invariant: what is left of the run leads where the whole run leads.
-- Assumes nothing.
use Prim.Native.Nat.{ℕ, suc, ◌+◌, ◌-◌, ◌*◌, ◌≤◌, ◌<◌, min}
use mathlib.Core.Path.{◌≡◌, refl, ◌∙◌}
use mathlib.Core.Bool.{Bool, true, false}
use mathlib.Core.List.{List}
use mathlib.Core.Logic.{◌⊎◌, inl, inr, ⊎_elim}
use native.Mathlib.Nat.{add-zero, sub-zero}
use native.Mathlib.Omega.{arith}
use lib.Dec.{leb}
use lib.ListN.{length, get_or}
use borrow.Author.Tests.{leb-true, leb-false}
use borrow.Rule.Slice.PartMut.{mid_of, put_mid}
use Rattle.cell.specs.Cell.{decode_of}
use Rattle.machine.specs.declared.Machine.{Machine}
use Rattle.machine.specs.declared.Kind.{Kind}
use Rattle.machine.specs.State.{State, state_of, InRange, capacity_of, most_cells, first_special, pc_of}
use Rattle.machine.specs.Stops.{plainly}
use Rattle.packed.specs.Packed.{packed_of, unpacked_of}
use Rattle.packed.proofs.Laws.{unpacked_packed}
use Rattle.effect.specs.Action.{action_of}
use Rattle.journal.specs.Words.{start_of}
use Rattle.journal.proofs.Room.{at_most, entries}
use Rattle.step.specs.Step.{code_of}
use Rattle.call.specs.Calls.{Out, stop_at, run_from}
use Rattle.carried.specs.Left.{left, left_of, before}
use Rattle.stopped.specs.Stopped.{stopping}
use Rattle.forward.specs.Inner.{held_of, moved_by, go_on_by, resume_of}
use Rattle.guard.specs.Guard.{guarded_of, stores_below}
use Rattle.step.proofs.Keeps.{code_within}
use Rattle.forward.proofs.Steps.{Goes, overwrites, stepped}
use Rattle.forward.proofs.Runs.{goes_on, not_ended, refused_run}

-- the lesser of two is one of them
lesser_is : (a b : ℕ) → (min a b ≡ a) ⊎ (min a b ≡ b)
lesser_is a b = go (leb a b) refl
  where
    go : (t : Bool) → leb a b ≡ t → (min a b ≡ a) ⊎ (min a b ≡ b)
    go true h = inl (omega (arith, leb-true a b h))
    go false h = inr (omega (arith, leb-false a b h))

-- what does not change
pub record Fixed (kind : Kind) (budget total depth limit guard : ℕ) (cells₀ journal₀ : List ℕ) : Type 0 where
  pub within : total ≤ budget
  pub room : depth + total ≤ capacity_of journal₀
  pub most : (total ≡ budget) ⊎ (depth + total ≡ capacity_of journal₀)
  pub code : limit ≡ code_of kind (length cells₀)
  pub guarded : guard ≡ guarded_of kind
  pub few_cells : length cells₀ ≤ most_cells

pub fixed_first : (kind : Kind) (budget most depth total limit guard : ℕ) (cells₀ journal₀ : List ℕ) → total ≡ min budget (most - depth) → depth ≤ most → most ≡ capacity_of journal₀
    → limit ≡ code_of kind (length cells₀) → guard ≡ guarded_of kind → length cells₀ ≤ most_cells → Fixed kind budget total depth limit guard cells₀ journal₀
fixed_first kind budget most depth total limit guard cells₀ journal₀ e deep all code guarded few = record {
  within = omega (arith, e);
  room = omega (arith, e, deep, all);
  most = ⊎_elim (λ i. inl (e ∙ i)) (λ i. inr (omega (arith, e, i, deep, all))) (lesser_is budget (most - depth));
  code = code;
  guarded = guarded;
  few_cells = few;
}

-- what each step moves
pub record Running (kind : Kind) (budget total depth : ℕ) (host regs₀ : List ℕ) (s₀ : ℕ) (cells₀ journal₀ cells journal regs : List ℕ) (s at count : ℕ) : Type 0 where
  pub few : count ≤ total
  pub place : at ≡ start_of (depth + (total - count))
  pub same_cells : length cells ≡ length cells₀
  pub same_journal : length journal ≡ length journal₀
  pub long : length regs ≡ 256
  pub settled : InRange (unpacked_of s)
  pub rest : resume_of kind (budget - (total - count)) (total - count) regs s (depth + (total - count)) host cells journal ≡ run_from kind budget 0 (held_of regs₀ s₀ depth host cells₀ journal₀)

same_capacity : (j k : List ℕ) → length j ≡ length k → capacity_of j ≡ capacity_of k
unfolding capacity_of
same_capacity j k e = rw e

-- nothing was told
pub nothing : (told s : ℕ) → told ≤ 0 → (told ≡ 0) × (stopping told s ≡ false)
nothing told s h = let z : told ≡ 0 = omega arith in (z, rw z)

-- the state that the code holds at first is the machine's
module _ (kind : Kind) (m : Machine) {s : ℕ} (e : s ≡ packed_of m.settings) (range : InRange m.settings) where
  pub settled_first : InRange (unpacked_of s)
  settled_first = rw (e, unpacked_packed m.settings range) range

  pub from_machine : (budget : ℕ) (cells journal : List ℕ) (o : Out) → o ≡ run_from kind budget 0 (held_of m.regs s m.depth m.host cells journal)
      → o ≡ run_from kind budget 0 (state_of m cells journal)
  from_machine budget cells journal o h = rw (e, unpacked_packed m.settings range) at h

module _ {kind : Kind} {budget total depth : ℕ} {host regs₀ : List ℕ} {s₀ : ℕ} {cells₀ journal₀ : List ℕ} where
  pub set_out : length regs₀ ≡ 256 → InRange (unpacked_of s₀) → Running kind budget total depth host regs₀ s₀ cells₀ journal₀ cells₀ journal₀ regs₀ s₀ (8 * depth) total
  unfolding resume_of
  set_out long settled =
      let z : total - total ≡ 0 = omega arith in
      record {
        few = omega arith;
        place = rw (z, add-zero);
        same_cells = refl;
        same_journal = refl;
        long = long;
        settled = settled;
        rest = rw (z, add-zero, sub-zero);
      }

  module _ {limit guard : ℕ} {cells journal regs : List ℕ} {s at count : ℕ} (fixed : Fixed kind budget total depth limit guard cells₀ journal₀)
      (u : Running kind budget total depth host regs₀ s₀ cells₀ journal₀ cells journal regs s at count) where
    abbrev k : ℕ
    k = total - count

    -- depth and count are numbers that the code can hold
    pub bounds : (depth + total ≤ 65536) × (k ≤ budget) × (total ≤ budget)
    bounds = (at_most journal₀ (depth + total) fixed.room, omega (arith, fixed.within), fixed.within)

    pub part_room : 0 < count → at + 8 ≤ length journal
    part_room h = omega (arith, u.place, u.few, u.same_journal, entries journal₀ (depth + total) fixed.room)

    -- the code is still as long, and lies within the cells
    pub same_code : limit ≡ code_of kind (length cells)
    same_code = rw u.same_cells fixed.code

    pub in_cells : limit ≤ length cells
    in_cells = omega (arith, same_code, code_within kind (length cells))

    -- PC is outside the code
    pub off_code : (o : Out) → o ≡ resume_of kind (budget - k) k regs s (depth + k) host cells journal → o ≡ run_from kind budget 0 (held_of regs₀ s₀ depth host cells₀ journal₀)
    off_code o h = h ∙ u.rest

    -- the count is used up: the budget is done, or the journal is full
    module _ (over : count ≤ 0) where
      pub spent : (limit ≤ pc_of regs) ⊎ ((total ≡ budget) ⊎ (capacity_of journal ≤ depth + total))
      spent = inr (go fixed.most)
        where
          go : (total ≡ budget) ⊎ (depth + total ≡ capacity_of journal₀) → (total ≡ budget) ⊎ (capacity_of journal ≤ depth + total)
          go (inl e) = inl e
          go (inr e) = inr (rw (same_capacity journal journal₀ u.same_journal) (omega arith))

      pub all_done : (o : Out) → o ≡ resume_of kind (budget - total) total regs s (depth + total) host cells journal → o ≡ run_from kind budget 0 (held_of regs₀ s₀ depth host cells₀ journal₀)
      all_done o h = let z : total - count ≡ total = omega (arith, u.few) in h ∙ (rw z at u.rest)

    -- one step more
    module _ {cell : ℕ} (more : 0 < count) (inside : pc_of regs < limit) (fetched : cell ≡ get_or cells (pc_of regs) 0) where
      abbrev n : ℕ
      n = budget - k - 1

      one_more : budget - k ≡ suc n
      one_more = omega (arith, u.few, fixed.within)

      on : pc_of regs < first_special
      on = omega (arith, in_cells, u.same_cells, fixed.few_cells)

      abbrev held : State
      held = held_of regs s (depth + k) host cells journal

      in_code : pc_of regs < code_of kind (length cells)
      in_code = rw (← same_code) inside

      space : depth + k < capacity_of journal
      space = rw (same_capacity journal journal₀ u.same_journal) (omega (arith, u.few, fixed.room))

      to_whole : run_from kind (suc n) k held ≡ run_from kind budget 0 (held_of regs₀ s₀ depth host cells₀ journal₀)
      to_whole = rw (← one_more, ← not_ended kind (budget - k) k regs s (depth + k) host cells journal on) u.rest

      -- the cell stores into the code
      pub barred : stores_below guard (length cells) regs cell ≡ true → (o : Out) → o ≡ stop_at (plainly 61) k held → o ≡ run_from kind budget 0 (held_of regs₀ s₀ depth host cells₀ journal₀)
      barred h o e = e ∙ refused_run kind n k held 61 (overwrites kind regs host cells journal s (depth + k) at cell u.settled u.long on in_code fetched space u.place (rw fixed.guarded at h)) ∙ to_whole

      module _ {regs' cells' part' : List ℕ} {s' told' : ℕ} (free : stores_below guard (length cells) regs cell ≡ false)
          (l : left regs' cells' part' s' told' ≡ left_of 0 (action_of (decode_of cell)) (before regs s host cells (mid_of at (at + 8 - at) journal))) where
        abbrev journal' : List ℕ
        journal' = put_mid at (at + 8 - at) journal part'

        goes : Goes kind held cell journal' (left regs' cells' part' s' told')
        goes = stepped kind regs host cells journal s (depth + k) at cell u.settled u.long on in_code fetched space u.place (rw fixed.guarded at free) (left regs' cells' part' s' told') l

        pub again : stopping told' s' ≡ false → length cells' ≡ length cells → length journal' ≡ length journal
            → Running kind budget total depth host regs₀ s₀ cells₀ journal₀ cells' journal' regs' s' (at + 8) (count - 1)
        again h c j =
            let z : total - (count - 1) ≡ k + 1 = omega (arith, u.few) in
            let y : budget - (k + 1) ≡ n = omega arith in
            let x : depth + (k + 1) ≡ depth + k + 1 = omega arith in
            record {
              few = omega (arith, u.few);
              place = omega (arith, u.few, u.place);
              same_cells = c ∙ u.same_cells;
              same_journal = j ∙ u.same_journal;
              long = goes.long;
              settled = goes.settled;
              rest = rw (z, y, x) (goes_on kind n k told' regs' s' cell (depth + k) host cells' journal' held goes.step h ∙ to_whole);
            }

        pub halted : (o : Out) → ((rest : ℕ → State → Out) → o ≡ go_on_by rest k (moved_by told' regs' s' cell (depth + k) host cells' journal'))
            → o ≡ run_from kind budget 0 (held_of regs₀ s₀ depth host cells₀ journal₀)
        unfolding run_from
        halted o h = h (run_from kind n) ∙ rw goes.step to_whole
