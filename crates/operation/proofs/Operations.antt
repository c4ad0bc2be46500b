-- What an operation on two values leaves, where both were read with the PC moved on.
-- Assumes nothing.
use Prim.Native.Nat.{ℕ, ◌^◌, ◌<◌}
use mathlib.Core.Path.{◌≡◌}
use mathlib.Core.List.{List}
use native.Mathlib.Omega.{arith}
use lib.ListN.{length, get_or}
use Rattle.word.specs.declared.Op.{Op}
use Rattle.word.specs.Word.{written_of}
use Rattle.word.proofs.Bounds.{governed_below, raised_below}
use Rattle.effect.specs.Action.{Value, Operate}
use Rattle.effect.specs.Operands.{value_of}
use Rattle.effect.specs.Effect.{effect_of}
use Rattle.effect.specs.Refusal.{refused_by}
use Rattle.effect.specs.Becomes.{became_of}
use Rattle.packed.specs.Packed.{unpacked_of}
use Rattle.carried.specs.Left.{left, left_of, before}
use Rattle.carried.specs.Operated.{Operated}
use Rattle.carried.proofs.Results.{Kept, reads, resulted}

module _ (s : ℕ) (regs part host cells : List ℕ) (op : Op) (x y : Value) {i n a b : ℕ} {part' mid : List ℕ} (long : length regs ≡ 256) (small : s < 2 ^ 32)
    (kept : Kept i n s part part' regs mid) (x_is : value_of (before regs s host cells part) x ≡ a) (y_is : value_of (before regs s host cells part) y ≡ b) where
  pub operated : {regs' : List ℕ} {told told' r : ℕ} → Operated (written_of op a b (get_or mid n 0) (unpacked_of s).flags) n s mid regs' told told' r
      → left regs' cells part' r told' ≡ left_of told (Operate op i x y) (before regs s host cells part)
  unfolding became_of refused_by effect_of
  operated o =
      resulted s regs part host cells _ small kept
      (omega (arith, governed_below op a b (get_or mid n 0) (unpacked_of s).flags))
      (omega (arith, raised_below op a b (get_or mid n 0) (unpacked_of s).flags))
      (Operate op i x y) o (rw (x_is, y_is, reads regs long kept.1.1 kept.0.0))
