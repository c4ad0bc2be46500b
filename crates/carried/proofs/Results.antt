-- The entry with the PC moved on, then register n and the flags written: together what an instruction leaves that puts what an operation wrote.
-- Assumes nothing.
use Rattle.std.proofs.Common.{◌≡◌, ℕ, ◌^◌, ◌<◌, List, length, get_or, set, sym}
use Rattle.word.specs.declared.Written.{Written}
use Rattle.machine.specs.State.{flags_bound}
use Rattle.packed.specs.Packed.{unpacked_of}
use Rattle.effect.specs.Action.{Action}
use Rattle.effect.specs.Operands.{next_of, operand_of}
use Rattle.effect.specs.Parts.{no_write, no_store, gets, still, ◌then◌, result}
use Rattle.effect.specs.Becomes.{does, became_of}
use Rattle.journal.specs.Words.{entry_with}
use Rattle.journal.specs.Journal.{regs_after, cells_after, entry_of, entered}
use Rattle.carried.specs.Left.{left, left_of, before}
use Rattle.carried.specs.Operated.{Operated}
use Rattle.carried.proofs.Operands.{read}
use Rattle.carried.proofs.Flags.{replaces}

-- what `keep_n` promises, before register i is written: its number, the entry, and the registers with the PC moved on
abbrev pub Kept : ℕ → ℕ → ℕ → List ℕ → List ℕ → List ℕ → List ℕ → Type 0
Kept i n s part part' regs mid =
    ((n ≡ i) × (n < 256)) × ((part' ≡ entered part (entry_with regs (unpacked_of s) (gets i 0) no_write no_store 0)) × (mid ≡ set regs 255 (next_of regs)))

-- what is read then is an operand
pub reads : (regs : List ℕ) {mid : List ℕ} → length regs ≡ 256 → mid ≡ set regs 255 (next_of regs) → {j i : ℕ} → j ≡ i → operand_of regs i ≡ get_or mid j 0
reads regs long on {i = i} e = rw (on, e) (sym (read regs long i))

-- it is all that an action leaves that is done and puts w into register i
module _ (s : ℕ) (regs part host cells : List ℕ) (w : Written) {i n : ℕ} {part' mid : List ℕ} (small : s < 2 ^ 32) (kept : Kept i n s part part' regs mid)
    (low : w.governed < flags_bound) (up : w.raised < flags_bound) where
  pub resulted : (a : Action) {regs' : List ℕ} {told told' r : ℕ} → Operated w n s mid regs' told told' r
      → became_of a (before regs s host cells part) ≡ does (still (before regs s host cells part) then result i w)
      → left regs' cells part' r told' ≡ left_of told a (before regs s host cells part)
  unfolding left_of regs_after cells_after entry_of
  resulted a o became =
      rw (became, o.wrote, o.settled, o.raised, replaces s w.governed w.raised small low up, kept.1.0, kept.1.1, kept.0.0)
