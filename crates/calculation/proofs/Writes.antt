-- What a float opcode writes, by the row of the table that it has, or none.
-- Assumes nothing.
use Prim.Native.Nat.{ℕ, ◌≤◌, ◌<◌}
use mathlib.Core.Path.{◌≡◌, refl, sym, ap, ◌∙◌}
use mathlib.Core.Bool.{Bool, true, false, not, ◌&&◌}
use mathlib.Core.List.{List, [], ◌∷◌}
use lib.Dec.{ltb}
use native.Mathlib.Omega.{arith}
use borrow.Author.Tests.{le-leb, lt-leb, ltb-true, ltb-false, eq-eqb}
use Rattle.cell.proofs.Tests.{count, none_passes, never, NoneOf, listed, not_listed}
use Rattle.machine.specs.State.{State}
use Rattle.machine.proofs.Tests.{and_true}
use Rattle.word.specs.declared.Written.{Written}
use Rattle.float.specs.declared.FloatOp.{FloatOp}
use Rattle.float.specs.Float.{calculated_of}
use Rattle.float.proofs.Bounds.{governed_below, raised_below}
use Rattle.effect.specs.Action.{Value, Calculate, calculation}
use Rattle.effect.specs.Operands.{value_of}
use Rattle.effect.specs.Parts.{still, ◌then◌, result}
use Rattle.effect.specs.Effect.{effect_of}
use Rattle.effect.specs.Refusal.{refused_by}
use Rattle.effect.specs.Becomes.{does, became_of}
use Rattle.calculation.specs.Inner.{runs_of, Writes}

-- a calculation is done where the mode is 3
calculates : (s : State) (op : FloatOp) (n : ℕ) (a b : Value) → s.settings.mode ≡ 3
    → became_of (Calculate op n a b) s ≡ does (still s then result n (calculated_of op (value_of s a) (value_of s b)))
unfolding became_of refused_by effect_of
calculates s op n a b m = rw (eq-eqb s.settings.mode 3 m)

-- a row with the values as they come, and one with them turned
module _ {opcode k x y : ℕ} {w : Written} (op : FloatOp) (at : opcode ≡ k) where
  pub given : ((n : ℕ) (a b : Value) → calculation k n a b ≡ Calculate op n a b) → w ≡ calculated_of op x y → Writes opcode x y w
  given row e = record {
    done = λ s n a b p q t m. rw (at, row n a b) (calculates s op n a b m ∙ ap (λ (z : Written). does (still s then result n z)) (rw (p, q) (sym e)));
    governed = rw e (omega (arith, governed_below op x y));
    raised = rw e (omega (arith, raised_below op x y));
  }

  pub turned : ((n : ℕ) (a b : Value) → calculation k n a b ≡ Calculate op n b a) → w ≡ calculated_of op y x → Writes opcode x y w
  turned row e = record {
    done = λ s n a b p q t m. rw (at, row n a b) (calculates s op n b a m ∙ ap (λ (z : Written). does (still s then result n z)) (rw (p, q) (sym e)));
    governed = rw e (omega (arith, governed_below op y x));
    raised = rw e (omega (arith, raised_below op y x));
  }

-- the opcodes of the table, last first: none besides them runs
abbrev pub table : List ℕ
table = 104 ∷ 103 ∷ 102 ∷ 96 ∷ 95 ∷ 94 ∷ 93 ∷ 90 ∷ 89 ∷ 83 ∷ 82 ∷ 81 ∷ 80 ∷ []

none_left : count (λ (x : ℕ). runs_of x && not (listed table x)) 256 ≡ 0
none_left = refl

pub out : (x : ℕ) → NoneOf table x → runs_of x ≡ false
out x n = go (ltb x 256) refl
  where
    small : x < 256 → runs_of x ≡ false
    small h = rw (not_listed table x n, and_true (runs_of x)) at (none_passes (λ (x : ℕ). runs_of x && not (listed table x)) 256 none_left x h)

    large : 256 ≤ x → runs_of x ≡ false
    large h =
        rw (
          le-leb 80 x (omega arith),
          lt-leb x 83 (omega arith),
          le-leb 89 x (omega arith),
          lt-leb x 90 (omega arith),
          le-leb 93 x (omega arith),
          lt-leb x 96 (omega arith),
          le-leb 102 x (omega arith),
          lt-leb x 104 (omega arith),
        )

    go : (t : Bool) → ltb x 256 ≡ t → runs_of x ≡ false
    go true e = small (ltb-true x 256 e)
    go false e = large (ltb-false x 256 e)

pub absent : {opcode x y : ℕ} {w : Written} (op : FloatOp) → NoneOf table opcode → w ≡ calculated_of op x y → Writes opcode x y w
absent {opcode} {x} {y} op n e = record {
  done = λ s m a b p q t k. never (let no = out opcode n in cc);
  governed = rw e (omega (arith, governed_below op x y));
  raised = rw e (omega (arith, raised_below op x y));
}
