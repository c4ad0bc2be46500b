-- LDST's short ways: a load from memory alone, a store to memory alone, and PC put back where it is neither.
-- Assumes nothing.
use Prim.Native.Nat.{ℕ, ◌<◌, min}
use mathlib.Core.Path.{◌≡◌, refl, ◌∙◌}
use mathlib.Core.Bool.{false}
use mathlib.Core.List.{List}
use native.Mathlib.Nat.{add-zero}
use native.Mathlib.Omega.{arith}
use lib.ListN.{length, get_or, set}
use lib.Seq.{set-set, set-get_or}
use borrow.Author.Tests.{lt-ltb, le-ltb, lt-leb, ne_eqb}
use Rattle.machine.specs.State.{first_special, pc_of}
use Rattle.machine.specs.Addresses.{mask_address, mode_address}
use Rattle.packed.proofs.Laws.{packed_unpacked}
use Rattle.effect.specs.Action.{Ldst}
use Rattle.effect.specs.Operands.{next_of, operand_of, behind}
use Rattle.journal.specs.Journal.{regs_after, cells_after, entry_of, entered}
use Rattle.carried.specs.Left.{left, left_of, before}
use Rattle.carried.proofs.Operands.{read}
use Rattle.ldst.specs.Inner.{entry_by}
use Rattle.ldst.proofs.Cases.{Known, done}

-- PC moved on, and put back
pub back_again : (regs : List ℕ) {on : List ℕ} {pc : ℕ} → on ≡ set regs 255 (next_of regs) → pc ≡ pc_of regs → set on 255 pc ≡ regs
back_again regs e p = rw (e, p) (set-set regs 255 (next_of regs) (pc_of regs) ∙ set-get_or regs 255 0)

-- what is known once PC has moved on: i, j and k are the numbers n, m and l, and size is that of the cells below the special addresses
pub record Moved (n m l i j k size : ℕ) (regs on cells : List ℕ) : Type 0 where
  pub n_is : i ≡ n
  pub m_is : j ≡ m
  pub l_is : k ≡ l
  pub on_is : on ≡ set regs 255 (next_of regs)
  pub size_is : size ≡ min (length cells) first_special

module _ {n m l i j k size : ℕ} {regs on cells : List ℕ} (moved : Moved n m l i j k size regs on cells) (s told p : ℕ) (host part part' : List ℕ)
    (long : length regs ≡ 256) (word : s < 4294967296) where
  reads : (a : ℕ) → get_or on a 0 ≡ operand_of regs a
  reads a = rw moved.on_is (read regs long a)

  known : get_or on j 0 < length cells → get_or on k 0 < length cells
      → Known n m l i j k (get_or on i 0) (get_or on j 0) (get_or on k 0) false false (before regs s host cells part)
  known x y = record {
    n_is = moved.n_is;
    m_is = moved.m_is;
    l_is = moved.l_is;
    v_is = reads i;
    x_is = reads j;
    y_is = reads k;
    a_is = rw (lt-leb _ _ y);
    b_is = rw (lt-leb _ _ x);
  }

  pub loads : get_or on j 0 ≡ 0 → p ≡ get_or on k 0 → 0 < p → p < size → part' ≡ entered part (entry_by (pc_of regs) s i (get_or regs i 0) 0 0 1)
      → left (set on i (get_or cells p 0)) cells part' s told ≡ left_of told (Ldst n m l) (before regs s host cells part)
  unfolding behind regs_after cells_after entry_of
  loads zero p-is some below part-is =
      rw (
        done (known (omega arith) (omega arith)) {c = false} {d = false} (rw (← p-is, le-ltb mode_address p (omega arith))) (rw zero) refl told refl,
        part-is,
        zero,
        ← p-is,
        ne_eqb p 0 (λ z. omega arith),
        lt-ltb p first_special (omega arith),
        moved.on_is,
        packed_unpacked s word,
        add-zero i,
      )

  pub stores : (get_or on j 0 ≡ 0 → ⊥) → get_or on k 0 ≡ 0 → p ≡ get_or on j 0 → p < size → part' ≡ entered part (entry_by (pc_of regs) s 0 0 (get_or on j 0) (get_or cells p 0) 4)
      → left on (set cells p (get_or on i 0)) part' s told ≡ left_of told (Ldst n m l) (before regs s host cells part)
  unfolding regs_after cells_after entry_of
  stores some zero p-is below part-is =
      let no-mask = ne_eqb p mask_address (λ e. omega arith) in
      let no_mode = ne_eqb p mode_address (λ e. omega arith) in
      rw (
        done (known (omega arith) (omega arith)) {c = false} {d = false} (rw zero) (rw (← p-is, no-mask, no_mode, lt-leb first_special p (omega arith))) refl told refl,
        part-is,
        zero,
        ← p-is,
        no-mask,
        no_mode,
        ne_eqb p 0 (λ z. omega arith),
        moved.on_is,
        packed_unpacked s word,
      )
