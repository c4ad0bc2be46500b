-- What one step is, test by test: the stop that refuses it, or the effect that is carried out.
-- Assumes nothing.
use Prim.Native.Nat.{ℕ, ◌≤◌, ◌<◌}
use mathlib.Core.Path.{◌≡◌, refl}
use mathlib.Core.Bool.{Bool, true, false, cond, ◌&&◌}
use mathlib.Core.Logic.{◌⊎◌, inl, inr}
use mathlib.Core.Option.{Option, none, some, or_else}
use lib.Dec.{leb}
use lib.ListN.{length}
use borrow.Author.Tests.{lt-leb, le-leb, lt-ltb, le-ltb}
use Rattle.effect.specs.Parts.{Effect}
use Rattle.machine.specs.State.{State, capacity_of, first_special, pc_of}
use Rattle.machine.specs.declared.Kind.{Kind}
use Rattle.machine.specs.declared.Kind.TheVariants.{Profile}
use Rattle.effect.specs.Action.{Ldst}
use Rattle.effect.specs.Operands.{reg}
use Rattle.effect.specs.Refusal.{refused_by}
use Rattle.step.specs.Step.{action_in, code_of, outside, stores_into, guard_of, refusal_of, effect_in, refused, done_of, step_of}
use Rattle.machine.specs.Stops.{plainly}

module _ (kind : Kind) (s : State) where
  pub refused_with : (k : ℕ) → refusal_of kind s ≡ some k → record { state = s; course = refused (plainly k) } ≡ step_of kind s
  unfolding step_of
  refused_with k h = rw h

  pub done_with : (e : Effect) → refusal_of kind s ≡ none → effect_in s ≡ e → done_of e s ≡ step_of kind s
  unfolding step_of
  done_with e h i = rw (h, i)

  pub at_end : first_special ≤ pc_of s.regs → refusal_of kind s ≡ some 1
  unfolding refusal_of
  at_end h = rw (le-leb _ _ h)

  module _ (on : pc_of s.regs < first_special) where
    pub off_code : code_of kind (length s.cells) ≤ pc_of s.regs → refusal_of kind s ≡ some (outside kind)
    unfolding refusal_of
    off_code h = rw (lt-leb _ _ on, le-leb _ _ h)

    module _ (within : pc_of s.regs < code_of kind (length s.cells)) where
      pub full : capacity_of s.journal ≤ s.depth → refusal_of kind s ≡ some 7
      unfolding refusal_of
      full h = rw (lt-leb _ _ on, lt-leb _ _ within, le-leb _ _ h)

      pub looked_at : s.depth < capacity_of s.journal → refusal_of kind s ≡ or_else (refused_by (action_in s) s) (guard_of kind (action_in s) s)
      unfolding refusal_of
      looked_at h = rw (lt-leb _ _ on, lt-leb _ _ within, lt-leb _ _ h)

-- 61: exactly the store pointers from 1 to l-1
module _ (l n m k : ℕ) (s : State) where
  pub guarded : 1 ≤ reg s m → reg s m < l → guard_of (Profile l) (Ldst n m k) s ≡ some 61
  unfolding stores_into
  guarded h i = rw (le-leb _ _ h, lt-ltb _ _ i)

  pub not_guarded : (reg s m ≡ 0) ⊎ (l ≤ reg s m) → guard_of (Profile l) (Ldst n m k) s ≡ none
  unfolding stores_into
  not_guarded (inl h) = rw h
  not_guarded (inr h) = rw (le-ltb (reg s m) l h) (go (leb 1 (reg s m)))
    where
      go : (t : Bool) → cond {A = Option ℕ} (t && false) (some 61) none ≡ none
      go true = refl
      go false = refl
