-- `float::arithmetic::div` meets its contract: with no NaN among the operands, the logic's quotient, told in bits and marked where a finite
-- value is divided by zero, is the definition's.
use Prim.Native.Nat.{ℕ}
use mathlib.Core.Bool.{Bool, true, false, ◌&&◌}
use mathlib.Core.Path.{◌≡◌, refl, sym, ap, ◌∙◌}
use lib.Ieee as Ieee
use lib.Ieee.{Float}
use Rattle.binary.specs.Value.{binary32, value}
use Rattle.float.specs.Arithmetic.{invalid, quotient, is_finite}
use Rattle.float.specs.Meaning.{told, is_zero}
use Rattle.float.proofs.Operations.{marked, quotient_told}
use Rattle.float.proofs.Outcomes.{told_of_nan, told_of_value, means_invalid, means_value, means_by_zero, quotient_nan}
use Rattle.float.proofs.arithmetic.div.Goals as goal

-- the float that is the quotient of two patterns
abbrev ratio : ℕ → ℕ → Float
ratio x y = Ieee.div Ieee.binary32 (Ieee.of_bits Ieee.binary32 x) (Ieee.of_bits Ieee.binary32 y)

by_test : (x y : ℕ) {b : Bool} → (is_zero (value binary32 y) && is_finite (value binary32 x)) ≡ b → marked b (told (ratio x y)) ≡ quotient x y
by_test x y h = rw h at (quotient_told x y)

marked_invalid : (b : Bool) → invalid ≡ marked b invalid
marked_invalid true = refl
marked_invalid false = refl

invalid_by : (x y : ℕ) → Ieee.is_nan (ratio x y) ≡ true → invalid ≡ quotient x y
invalid_by x y h =
    let finite-by-zero = is_zero (value binary32 y) && is_finite (value binary32 x) in
    marked_invalid finite-by-zero ∙ ap (marked finite-by-zero) (told_of_nan (ratio x y) h) ∙ quotient_told x y

pub returns-in_default : goal.returns-in_default
returns-in_default c = means_invalid (quotient_nan c.args.x c.args.y c.in_default.ensures)

pub returns-then-is_nan : goal.returns-then-is_nan
returns-then-is_nan c = means_invalid (invalid_by c.args.x c.args.y (rw (c.in-Some.ensures.1, c.in-Some.ensures.2) at (sym c.is_nan.ensures.value ∙ c.if-is_nan.true)))

pub returns-then-by_zero : goal.returns-then-by_zero
returns-then-by_zero c =
    let r = ratio c.args.x c.args.y in
    let h : Ieee.is_nan r ≡ false = rw (c.in-Some.ensures.1, c.in-Some.ensures.2) at (sym c.is_nan.ensures.value ∙ c.if-is_nan.false) in
    rw (c.in-Some.ensures.1, c.in-Some.ensures.2) (means_by_zero r h (rw (told_of_value r h) at (by_test c.args.x c.args.y (sym c.by_zero.ensures ∙ c.if-by_zero.true))))

pub returns-else-by_zero : goal.returns-else-by_zero
returns-else-by_zero c =
    let r = ratio c.args.x c.args.y in
    let h : Ieee.is_nan r ≡ false = rw (c.in-Some.ensures.1, c.in-Some.ensures.2) at (sym c.is_nan.ensures.value ∙ c.if-is_nan.false) in
    rw (c.in-Some.ensures.1, c.in-Some.ensures.2) (rw (by_test c.args.x c.args.y (sym c.by_zero.ensures ∙ c.if-by_zero.false)) at (means_value r h))
