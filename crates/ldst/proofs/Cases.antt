-- The three cases of LDST: a pointer faults, a pointer or a value is illegal, or both parts are done.
-- Assumes nothing.
use Prim.Native.Nat.{ℕ, ◌<◌}
use mathlib.Core.Path.{◌≡◌, sym, ◌∙◌}
use mathlib.Core.Bool.{Bool, true, false, ◌||◌}
use lib.ListN.{length}
use Rattle.machine.specs.State.{State, first_special}
use Rattle.machine.proofs.Tests.{or_left, or_right}
use Rattle.packed.specs.Packed.{packed_of}
use Rattle.effect.specs.Action.{Ldst, Illegal}
use Rattle.effect.specs.Operands.{reg}
use Rattle.effect.specs.Effect.{illegal_load, illegal_store, effect_of}
use Rattle.effect.specs.Refusal.{faults, refused_by}
use Rattle.effect.specs.Becomes.{became_of}
use Rattle.effect.proofs.Pointers.{no_fault}
use Rattle.carried.specs.Left.{left, left_of, told_fault, done_by}
use Rattle.ldst.specs.Inner.{transfer_of}

-- What is known once the operands are read, i, j and k being the numbers n, m and l: v is to be stored at x, and the load is from y; a and b
-- say whether y and x fault.
pub record Known (n m l i j k v x y : ℕ) (a b : Bool) (s : State) : Type 0 where
  pub n_is : i ≡ n
  pub m_is : j ≡ m
  pub l_is : k ≡ l
  pub v_is : v ≡ reg s i
  pub x_is : x ≡ reg s j
  pub y_is : y ≡ reg s k
  pub a_is : a ≡ faults (length s.cells) y
  pub b_is : b ≡ faults (length s.cells) x

module _ {n m l i j k v x y : ℕ} {a b : Bool} {s : State} (known : Known n m l i j k v x y a b s) where
  pub faulted : (told : ℕ) → (a || b) ≡ true
      → left_of told (Ldst n m l) s ≡ left s.regs s.cells s.journal (packed_of s.settings) told_fault
  unfolding left_of became_of refused_by
  faulted told f = rw (← known.m_is, ← known.l_is, ← known.x_is, ← known.y_is, ← known.a_is, ← known.b_is, f)

  -- c and d say whether the load and the store are illegal
  module _ {c d : Bool} (c-is : c ≡ illegal_load y) (d-is : d ≡ illegal_store x v) (none : (a || b) ≡ false) where
    pub barred : (told : ℕ) → (c || d) ≡ true → left_of told (Ldst n m l) s ≡ left_of told Illegal s
    unfolding left_of became_of refused_by effect_of
    barred told e =
        rw (← known.n_is, ← known.m_is, ← known.l_is, ← known.v_is, ← known.x_is, ← known.y_is, ← known.a_is, ← known.b_is, ← c-is, ← d-is, none, e)

    pub done : (told : ℕ) → (c || d) ≡ false → left_of told (Ldst n m l) s ≡ done_by told (transfer_of i v x y s) s
    unfolding left_of became_of refused_by effect_of
    done told e =
        rw (← known.n_is, ← known.m_is, ← known.l_is, ← known.v_is, ← known.x_is, ← known.y_is, ← known.a_is, ← known.b_is, ← c-is, ← d-is, none, e)

    -- in the last case load and store are legal, and a pointer that is not special is within the cells
    pub usable : (c || d) ≡ false
        → (illegal_load y ≡ false) × (illegal_store x v ≡ false) × (x < first_special → x < length s.cells) × (y < first_special → y < length s.cells)
    usable e = (
      sym c-is ∙ or_left c d e,
      sym d-is ∙ or_right c d e,
      no_fault _ x (sym known.b_is ∙ or_right a b none),
      no_fault _ y (sym known.a_is ∙ or_left a b none),
    )
