-- What carrying an effect out needs, of every action that is not refused: a store is to memory, and settings that are in range stay so.
-- Assumes nothing.
use Prim.Native.Nat.{ℕ, ◌-◌, ◌^◌, ◌≤◌, ◌<◌}
use mathlib.Core.Path.{◌≡◌, refl}
use mathlib.Core.Bool.{Bool, true, false, cond, ◌||◌}
use mathlib.Core.Option.{none, some}
use native.Mathlib.Omega.{arith}
use lib.Bits.{bit_and, and_le_l}
use lib.Dec.{eqb}
use lib.ListN.{length}
use borrow.Author.Tests.{leb-false, eqb-true, eqb-false}
use Rattle.word.specs.declared.Written.{Written}
use Rattle.word.proofs.Bounds.{raised_below}
use Rattle.float.proofs.Bounds as float
use Rattle.machine.specs.declared.Settings.{Settings}
use Rattle.machine.specs.State.{State, flags_bound, first_special, InRange}
use Rattle.machine.proofs.Flags.{flags_or}
use Rattle.machine.proofs.Tests.{picked, or_right}
use Rattle.effect.specs.Parts.{Effect, still, flags_of, result, illegal, store, load}
use Rattle.effect.specs.Action.{Action, Cpswp, Ldst, Put, Operate, Split, Bz, Int, Calculate, Float, Illegal}
use Rattle.machine.specs.Addresses.{mask_address, mode_address}
use Rattle.effect.specs.Operands.{reg, value_of}
use Rattle.effect.specs.Effect.{illegal_load, illegal_store, effect_of}
use Rattle.effect.specs.Refusal.{faults, refused_by}
use Rattle.effect.proofs.Pointers.{no_fault}

pub record Safe (size : ℕ) (s : Settings) (e : Effect) : Type 0 where
  pub store : e.store.used ≡ true → (1 ≤ e.store.address) × (e.store.address < size)
  pub settings : InRange s → InRange e.settings

some_none : {k : ℕ} → some k ≡ none → ⊥
some_none h = let z : ◌≡◌ {A = ℕ} 0 1 = cc in omega arith

-- no store
nowhere : {P : Type 0} → false ≡ true → P
nowhere h = let z : ◌≡◌ {A = ℕ} 0 1 = cc in absurd (omega arith)

flags_in : (flags governed raised : ℕ) → flags < flags_bound → raised < flags_bound → flags_of flags governed raised < flags_bound
unfolding flags_of
flags_in flags governed raised f r =
    flags_or (bit_and flags (2 ^ 32 - 1 - governed)) raised (omega (arith, and_le_l flags (2 ^ 32 - 1 - governed))) r

-- a test that is refused if it holds does not
pub passed : (t : Bool) (k : ℕ) → cond t (some k) none ≡ none → t ≡ false
passed true k h = absurd (some_none h)
passed false k h = refl

module _ (s : State) where
  abbrev Kept : Effect → Type 0
  Kept e = Safe (length s.cells) s.settings e

  kept : Kept (still s)
  kept = record { store = nowhere; settings = λ r. r }

  illegal_kept : Kept (illegal (still s))
  illegal_kept = record {
    store = nowhere;
    settings = λ in_range. record { flags = flags_or s.settings.flags 128 in_range.flags (omega arith); mask = in_range.mask; mode = in_range.mode };
  }

  -- a store that is legal and does not fault
  stored : (p v : ℕ) → illegal_store p v ≡ false → faults (length s.cells) p ≡ false → Kept (store p v (still s))
  stored p v legal fine =
      picked Kept (eqb p 0) _ _ (λ t. kept) (λ t0.
      picked Kept (eqb p mask_address) _ _
      (λ t. record { store = nowhere; settings = λ in_range. record { flags = in_range.flags; mask = leb-false flags_bound v (rw (eqb-true p mask_address t) at legal); mode = in_range.mode } }) (λ t1.
      picked Kept (eqb p mode_address) _ _
      (λ t. record { store = nowhere; settings = λ in_range. record { flags = in_range.flags; mask = in_range.mask; mode = leb-false 4 v (rw (eqb-true p mode_address t) at legal) } }) (λ t2.
      let z : p ≡ 0 → ⊥ = eqb-false p 0 t0 in
      record { store = λ u. (omega arith, no_fault _ p fine (leb-false first_special p (rw (t1, t2) at legal))); settings = λ r. r })))

  -- what an operation wrote, its flags below the bound
  resulted : (n : ℕ) (w : Written) → w.raised < flags_bound → Kept (result n w (still s))
  resulted n w small = record {
    store = nowhere;
    settings = λ in_range. record { flags = flags_in s.settings.flags w.governed w.raised in_range.flags small; mask = in_range.mask; mode = in_range.mode };
  }

  loaded : (p n v : ℕ) (e : Effect) → Kept e → Kept (load p n v e)
  loaded p n v e k = picked Kept (eqb p 0) _ _ (λ t. k) (λ t. record { store = k.store; settings = k.settings })

  pub safe : (a : Action) → refused_by a s ≡ none → Safe (length s.cells) s.settings (effect_of a s)
  unfolding effect_of refused_by
  safe (Cpswp n m l) h = record { store = nowhere; settings = λ r. r }
  safe (Ldst n m l) h =
      picked Kept (illegal_load (reg s l) || illegal_store (reg s m) (reg s n)) _ _ (λ t. illegal_kept) (λ t.
      loaded (reg s l) n _ (store (reg s m) (reg s n) (still s)) (stored (reg s m) (reg s n) (or_right (illegal_load (reg s l)) _ t) (or_right (faults (length s.cells) (reg s l)) _ (passed _ 5 h))))
  safe (Put n v) h = record { store = nowhere; settings = λ r. r }
  safe (Operate op n x y) h = resulted n _ (omega (arith, raised_below op (value_of s x) (value_of s y) (reg s n) s.settings.flags))
  safe (Split x n m l) h = record { store = nowhere; settings = λ r. r }
  safe (Bz n imm) h = picked Kept (eqb (reg s n) 0) _ _ (λ t. record { store = nowhere; settings = λ r. r }) (λ t. kept)
  safe (Int n imm) h = record { store = nowhere; settings = λ r. r }
  safe (Calculate op n x y) h = resulted n _ (omega (arith, float.raised_below op (value_of s x) (value_of s y)))
  safe Float h = kept
  safe Illegal h = illegal_kept
