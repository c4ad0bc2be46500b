-- When a float opcode is refused: where the mode is another than 3, and where it has no row in the table; then nothing is done.
-- Assumes nothing.
use Prim.Native.Nat.{ℕ, ◌^◌, ◌<◌}
use mathlib.Core.Path.{◌≡◌, refl}
use mathlib.Core.Bool.{Bool, true, false, not, ◌||◌}
use mathlib.Core.List.{List}
use lib.Dec.{eqb}
use borrow.Author.Tests.{ne_eqb, eqb-true}
use Rattle.cell.proofs.Tests.{never}
use Rattle.machine.specs.State.{State}
use Rattle.packed.proofs.Laws.{packed_unpacked}
use Rattle.effect.specs.Action.{Value, Action, Float, calculation}
use Rattle.effect.specs.Refusal.{refused_by}
use Rattle.effect.specs.Becomes.{refused, became_of}
use Rattle.effect.proofs.Rows.{calculated}
use Rattle.carried.specs.Left.{left, left_of, before, told_float}
use Rattle.calculation.specs.Inner.{runs_of}

module _ (opcode n : ℕ) (a b : Value) where
  -- an opcode that does not run is none of the table
  out : runs_of opcode ≡ false → calculation opcode n a b ≡ Float
  out h =
      rw (
        ne_eqb opcode 80 (no refl),
        ne_eqb opcode 81 (no refl),
        ne_eqb opcode 82 (no refl),
        ne_eqb opcode 83 (no refl),
        ne_eqb opcode 89 (no refl),
        ne_eqb opcode 90 (no refl),
        ne_eqb opcode 93 (no refl),
        ne_eqb opcode 94 (no refl),
        ne_eqb opcode 95 (no refl),
        ne_eqb opcode 96 (no refl),
        ne_eqb opcode 102 (no refl),
        ne_eqb opcode 103 (no refl),
        ne_eqb opcode 104 (no refl),
      )
    where
      no : {k : ℕ} → runs_of k ≡ true → opcode ≡ k → ⊥
      no r e = never (let z = rw e at h in cc)

  -- in another mode none runs
  other_mode : (s : State) → eqb s.settings.mode 3 ≡ false → became_of (calculation opcode n a b) s ≡ refused 6
  unfolding became_of refused_by
  other_mode s h = calculated (λ (x : Action). became_of x s ≡ refused 6) opcode n a b (λ op. rw h) (λ op. rw h) refl

  pub refuses : (s : State) → (not (eqb s.settings.mode 3) || not (runs_of opcode)) ≡ true → became_of (calculation opcode n a b) s ≡ refused 6
  unfolding became_of refused_by
  refuses s h = go (eqb s.settings.mode 3) (runs_of opcode) refl refl h
    where
      go : (m t : Bool) → eqb s.settings.mode 3 ≡ m → runs_of opcode ≡ t → (not m || not t) ≡ true → became_of (calculation opcode n a b) s ≡ refused 6
      go false t p q h = other_mode s p
      go true false p q h = rw (out q)
      go true true p q h = never (cc)

-- where it is not refused the mode is 3 and it runs
pub allows : (m : ℕ) (t : Bool) → (not (eqb m 3) || not t) ≡ false → (m ≡ 3) × (t ≡ true)
allows m t h = go (eqb m 3) t refl h
  where
    go : (e t : Bool) → eqb m 3 ≡ e → (not e || not t) ≡ false → (m ≡ 3) × (t ≡ true)
    go true true p h = (eqb-true m 3 p, refl)
    go true false p h = never (cc)
    go false t p h = never (cc)

-- what is refused is not done, and told
pub nothing_done : (told s : ℕ) (regs host cells part : List ℕ) (a : Action) → s < 2 ^ 32 → became_of a (before regs s host cells part) ≡ refused 6
    → left regs cells part s told_float ≡ left_of told a (before regs s host cells part)
unfolding left_of
nothing_done told s regs host cells part a h became = rw (became, packed_unpacked s h)
