-- LDST part by part leaves what the definitions make of it, where both of its pointers can be used.
-- Assumes nothing.
use Prim.Native.Nat.{ℕ, ◌+◌, ◌≤◌, ◌<◌}
use mathlib.Core.Path.{◌≡◌}
use mathlib.Core.Bool.{Bool, true, false}
use mathlib.Core.List.{List}
use native.Mathlib.Nat.{add-zero}
use native.Mathlib.Omega.{arith}
use lib.Dec.{eqb}
use lib.ListN.{set}
use borrow.Author.Tests.{lt-ltb, le-leb, eqb-true, eqb-false, leb-false}
use Rattle.machine.specs.declared.Settings.{Settings}
use Rattle.machine.specs.State.{State, first_special, pc_of, write_if}
use Rattle.machine.specs.Addresses.{mask_address, mode_address}
use Rattle.machine.proofs.Tests.{picked}
use Rattle.packed.specs.Packed.{packed_of, unpacked_of}
use Rattle.packed.proofs.Laws.{packed_unpacked}
use Rattle.effect.specs.Operands.{next_of, behind}
use Rattle.effect.specs.Parts.{Write, Store, Effect, Onward, no_write, made, onward, ◌then◌, store, load}
use Rattle.effect.specs.Effect.{illegal_store}
use Rattle.journal.specs.Journal.{regs_after, cells_after, entry_of, entered}
use Rattle.carried.specs.Left.{left, before, done_by}
use Rattle.ldst.specs.declared.Kept.{Kept}
use Rattle.ldst.specs.Inner.{load_of, store_of, settings_of, kept_of, transfer_of}

-- the effect that loads a register, stores to a cell and leaves settings
abbrev both : ℕ → Settings → Write → Store → Effect
both pc s loaded stored = made pc (record { settings = s; raised = 0 }) (record { a = loaded; b = no_write; reversed = false }) stored Onward

module _ (pc p v : ℕ) (s : Settings) (legal : illegal_store p v ≡ false) where
  abbrev Stored : Effect → Type 0
  Stored e = e ≡ both pc (settings_of p v s) no_write (store_of p v)

  by_store : Stored (onward pc s then store p v)
  unfolding settings_of store_of
  by_store =
      picked Stored (eqb p 0) _ _ (λ z. rw (eqb-true p 0 z)) (λ z.
      picked Stored (eqb p mask_address) _ _ (λ q. rw (eqb-true p mask_address q)) (λ q.
      picked Stored (eqb p mode_address) _ _ (λ r. rw (eqb-true p mode_address r)) (λ r.
      let some : p ≡ 0 → ⊥ = eqb-false p 0 z in
      let below : p < first_special = leb-false first_special p (rw (q, r) at legal) in
      rw (q, r, le-leb 1 p (omega arith), lt-ltb p first_special below))))

by_load : (pc p n v : ℕ) (s : Settings) (stored : Store) → load p n v (both pc s no_write stored) ≡ both pc s (load_of p n v) stored
unfolding load_of
by_load pc p n v s stored = picked (λ (e : Effect). e ≡ both pc s (load_of p n v) stored) (eqb p 0) _ _ (λ z. rw z) (λ z. rw z)

by_parts : (n v x y : ℕ) (s : State) → illegal_store x v ≡ false
    → transfer_of n v x y s ≡ both (next_of s.regs) (settings_of x v s.settings) (load_of y n (behind s.cells s.settings s.host y)) (store_of x v)
by_parts n v x y s legal = rw (by_store (next_of s.regs) x v s.settings legal) (by_load _ y n _ _ _)

-- what is kept of a place uses at most its own part of the entry
pub uses_most : (k : Kept) (used : Bool) (i : ℕ) (l : List ℕ) (uses : ℕ) → k ≡ kept_of used i l uses → k.uses ≤ uses
unfolding kept_of
uses_most k true i l uses e = rw e (omega arith)
uses_most k false i l uses e = rw e (omega arith)

-- a store and a load, each with what it kept, then their entry and the settings
module _ (n v x y s told r got : ℕ) (settings after : Settings) (loaded stored : Kept) (host regs cells part regs' cells' part' : List ℕ) where
  pub carried : s < 4294967296 → illegal_store x v ≡ false → settings ≡ unpacked_of s → got ≡ behind cells settings host y
      → stored ≡ kept_of (store_of x v).used (store_of x v).address cells 4
      → cells' ≡ write_if (store_of x v).used cells (store_of x v).address (store_of x v).value
      → loaded ≡ kept_of (load_of y n got).used (load_of y n got).number regs 1
      → regs' ≡ write_if (load_of y n got).used (set regs 255 (next_of regs)) (load_of y n got).number (load_of y n got).value
      → part' ≡ entered part (record {
        pc = pc_of regs;
        settings = s;
        numbers = loaded.number;
        a = loaded.old;
        b = 0;
        address = stored.number;
        old = stored.old;
        uses = loaded.uses + stored.uses;
      })
      → after ≡ settings_of x v settings → r ≡ packed_of after
      → left regs' cells' part' r told ≡ done_by told (transfer_of n v x y (before regs s host cells part)) (before regs s host cells part)
  unfolding regs_after cells_after entry_of kept_of
  carried word legal unpacked got-is stored_is cells_are loaded-is regs_are part-is after_is packed =
      rw (
        packed,
        after_is,
        part-is,
        regs_are,
        loaded-is,
        cells_are,
        stored_is,
        got-is,
        unpacked,
        by_parts n v x y (before regs s host cells part) legal,
        packed_unpacked s word,
      )
      (simp add-zero)
