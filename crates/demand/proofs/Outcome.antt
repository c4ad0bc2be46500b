-- One possible outcome: what is left of a call when two accounts of it agree.
-- Assumes nothing.
use Prim.Native.Nat.{ℕ, ◌<◌}
use mathlib.Core.Path.{◌≡◌, refl, sym, ap, ◌∙◌}
use mathlib.Core.Bool.{Bool, true, false}
use mathlib.Core.Option.{Option, none, some}
use native.Mathlib.Omega.{arith}
use lib.Dec.{ltb}
use borrow.Author.Tests.{ltb-true, ltb-false}
use Rattle.machine.specs.State.{State}
use Rattle.machine.specs.Stops.{Said}
use Rattle.call.specs.Calls.{Out, called}
use Rattle.demand.specs.Demands.{Called}

-- of the numbers up to which all is so, only one is itself not so
pub first : (P : ℕ → Type 0) (k l : ℕ) → ((j : ℕ) → j < k → P j) → ((j : ℕ) → j < l → P j) → (P k → ⊥) → (P l → ⊥) → k ≡ l
first P k l a b p q = by (ltb k l) (ltb l k) refl refl
  where
    by : (t u : Bool) → ltb k l ≡ t → ltb l k ≡ u → k ≡ l
    by true u e f = absurd (p (b k (ltb-true k l e)))
    by false true e f = absurd (q (a l (ltb-true l k f)))
    by false false e f = omega (arith, ltb-false k l e, ltb-false l k f)

pub same_out : (o p : Out) → o.state ≡ p.state → o.said ≡ p.said → o.count ≡ p.count → o ≡ p
same_out o p a b c =
    ap (λ (x : State). record { state = x; said = o.said; count = o.count }) a
    ∙ ap (λ (x : Said). record { state = p.state; said = x; count = o.count }) b
    ∙ ap (λ (x : ℕ). record { state = p.state; said = p.said; count = x }) c

module _ (begins : Option Said) (Done : Out → Type 0) (s : State) where
  -- a call with its check, from what it does if it is not refused at once
  pub call_holds : (body : ℕ → ℕ → State → Out) (n : ℕ) → (begins ≡ none → Done (called begins body n s)) → Called begins Done s (called begins body n s)
  call_holds body n f = record { refusal = λ x h. rw h; else = f }

  -- it has one outcome if what it does has one
  pub call_once : ((o p : Out) → Done o → Done p → o ≡ p) → (o p : Out) → Called begins Done s o → Called begins Done s p → o ≡ p
  call_once f o p c d = by begins refl
    where
      by : (k : Option Said) → begins ≡ k → o ≡ p
      by none h = f o p (c.else h) (d.else h)
      by (some x) h = c.refusal x h ∙ sym (d.refusal x h)
