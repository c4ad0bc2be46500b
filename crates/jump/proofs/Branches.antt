-- A branch: refused as wild, or over registers whose PC has moved on.
-- Assumes nothing.
use Rattle.std.proofs.Common.{◌≡◌, ℕ, ◌+◌, ◌^◌, ◌<◌, true, false, eqb, List, length, get_or, set, set-set, eq-eqb, ne_eqb}
use Rattle.half.specs.Half.{se_of}
use Rattle.word.specs.Word.{wrap}
use Rattle.packed.specs.Packed.{unpacked_of}
use Rattle.packed.proofs.Laws.{packed_unpacked}
use Rattle.effect.specs.Action.{Bz}
use Rattle.effect.specs.Operands.{next_of, operand_of}
use Rattle.effect.specs.Parts.{no_write, no_store}
use Rattle.effect.specs.Effect.{effect_of}
use Rattle.effect.specs.Refusal.{wild, refused_by}
use Rattle.effect.specs.Becomes.{became_of}
use Rattle.journal.specs.Words.{entry_with}
use Rattle.journal.specs.Journal.{regs_after, cells_after, entry_of, entered}
use Rattle.carried.specs.Left.{left, left_of, before, told_wild}
use Rattle.carried.proofs.Operands.{read}

-- nothing is done, and that is told
pub runs_wild : (n imm s told : ℕ) (regs host cells part : List ℕ) → s < 2 ^ 32 → wild regs n imm ≡ true
    → left regs cells part s told_wild ≡ left_of told (Bz n imm) (before regs s host cells part)
unfolding left_of became_of refused_by
runs_wild n imm s told regs host cells part small h = rw (h, packed_unpacked s small)

module _ (n imm s told : ℕ) (regs host cells part part' : List ℕ) (small : s < 2 ^ 32) (long : length regs ≡ 256) (tame : wild regs n imm ≡ false)
    (entry : part' ≡ entered part (entry_with regs (unpacked_of s) no_write no_write no_store 0)) where
  -- Rn is not 0: PC has moved on, and that is all
  pub stays : (get_or (set regs 255 (next_of regs)) n 0 ≡ 0 → ⊥)
      → left (set regs 255 (next_of regs)) cells part' s told ≡ left_of told (Bz n imm) (before regs s host cells part)
  unfolding left_of became_of refused_by effect_of regs_after cells_after entry_of
  stays other =
      let test : eqb (operand_of regs n) 0 ≡ false = rw (← read regs long n) (ne_eqb _ 0 other) in
      rw (tame, test, entry, packed_unpacked s small)

  -- Rn is 0: PC gains se(imm) besides
  pub jumps : get_or (set regs 255 (next_of regs)) n 0 ≡ 0
      → left (set (set regs 255 (next_of regs)) 255 (wrap (get_or (set regs 255 (next_of regs)) 255 0 + se_of imm))) cells part' s told
      ≡ left_of told (Bz n imm) (before regs s host cells part)
  unfolding left_of became_of refused_by effect_of regs_after cells_after entry_of operand_of
  jumps zero =
      let test : eqb (operand_of regs n) 0 ≡ true = rw (← read regs long n) (eq-eqb _ 0 zero) in
      rw (tame, read regs long 255, set-set, test, entry, packed_unpacked s small)
