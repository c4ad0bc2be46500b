-- An arm of the match: what is left by the action that the opcode asks for is left by the cell's.
-- Assumes nothing.
use Prim.Native.Nat.{ℕ, ◌≤◌, ◌<◌}
use mathlib.Core.Path.{◌≡◌, refl, sym, ◌∙◌}
use mathlib.Core.Bool.{Bool, true, false, not, ◌||◌, ◌&&◌}
use mathlib.Core.Logic.{◌⊎◌, inl, inr}
use mathlib.Core.List.{List, [], ◌∷◌}
use native.Mathlib.Omega.{arith}
use lib.Dec.{leb, ltb}
use borrow.Author.Tests.{lt-leb, ltb-true, ltb-false}
use Rattle.cell.specs.Cell.{within, legal, opcode_of, decode_of}
use Rattle.cell.proofs.Tests.{count, none_passes, NoneOf, listed, not_listed}
use Rattle.machine.specs.State.{State}
use Rattle.machine.proofs.Tests.{and_false}
use Rattle.effect.specs.Action.{Action, Illegal, action_of}
use Rattle.effect.proofs.Opcodes.{float_registers, float_immediate, reserved}
use Rattle.carried.specs.Left.{Left, left_of}
use Rattle.calculation.specs.Operands.{calculation_of}

pub arm : (c k x told : ℕ) (a : Action) (l : Left) (st : State) → x ≡ opcode_of c → x ≡ k → (opcode_of c ≡ k → action_of (decode_of c) ≡ a)
    → l ≡ left_of told a st → l ≡ left_of told (action_of (decode_of c)) st
arm c k x told a l st p q f h = rw (f (sym p ∙ q)) h

-- 80 to 106: a float opcode, by its form
pub floats : (c x : ℕ) → x ≡ opcode_of c → 80 ≤ x → x < 107 → action_of (decode_of c) ≡ calculation_of c
floats c x e low high = go (ltb (opcode_of c) 93) refl
  where
    go : (t : Bool) → ltb (opcode_of c) 93 ≡ t → action_of (decode_of c) ≡ calculation_of c
    go true h = rw h (float_registers c (rw (← e) low) (ltb-true (opcode_of c) 93 h))
    go false h = rw h (float_immediate c (rw (← e) low) (ltb-false (opcode_of c) 93 h) (rw (← e) (omega arith)))

-- The opcodes of the match, last first: one that is none of them, and not among 80 to 106, is reserved.
abbrev pub matched : List ℕ
matched = 122 ∷ 121 ∷ 107 ∷ 54 ∷ 53 ∷ 52 ∷ 51 ∷ 50 ∷ 49 ∷ 48 ∷ 47 ∷ 46 ∷ 45 ∷ 44 ∷ 43 ∷ 42 ∷ 41 ∷ 40 ∷ 39 ∷ 38 ∷ 37 ∷ 36 ∷ 35 ∷ 34 ∷ 33 ∷ 32 ∷ 31 ∷ 30 ∷ 29 ∷ 28 ∷ 27 ∷ 26 ∷ 25 ∷ 24 ∷ 23 ∷ 22 ∷ 21 ∷ 20 ∷ 19 ∷ 18 ∷ 17 ∷ 16 ∷ 7 ∷ 6 ∷ 5 ∷ 4 ∷ 3 ∷ 1 ∷ 0 ∷ []

none_left : count (λ (x : ℕ). not (listed matched x || within 80 106 x) && legal x) 256 ≡ 0
unfolding legal
none_left = refl

outside : (x : ℕ) → (x < 80) ⊎ (107 ≤ x) → within 80 106 x ≡ false
outside x (inl h) = rw (lt-leb 80 x h)
outside x (inr h) = rw (lt-leb x 106 h) (and_false (leb 80 x))

pub others : (c x : ℕ) → x ≡ opcode_of c → x < 256 → NoneOf matched x → (x < 80) ⊎ (107 ≤ x) → action_of (decode_of c) ≡ Illegal
others c x e small n o =
    reserved c (rw (← e) (rw (not_listed matched x n, outside x o) at (none_passes (λ (x : ℕ). not (listed matched x || within 80 106 x) && legal x) 256 none_left x small)))
