-- What is written of finite operands is the exact result, rounded once: document 02, 2026-06. How it is rounded is no part of this.
use Rattle.std.specs.Prelude.{ℕ, ◌*◌, ◌^◌, Bool, ◌≢◌, ◌≡◌, ℤ, ◌+ℤ◌, ◌-ℤ◌}
use Rattle.binary.specs.Value.{finite, binary32, value}
use Rattle.rounding.specs.Nearest.{Rounds}
use Rattle.float.specs.Arithmetic.{signed, unlike}
use Rattle.float.specs.Compare.{int}
use Rattle.float.specs.Float.{calculated_of}
use Rattle.float.specs.declared.FloatOp.TheVariants.{Add, Sub, Mul, Div}

-- r is the pattern nearest to ±a / b units
pub record Nearest (r : ℕ) (s : Bool) (a b : ℕ) : Type 0 where
  pub magnitude : ℕ
  pub is : r ≡ signed s magnitude
  pub rounds : Rounds a b magnitude

-- r is the pattern nearest to z units; if z is 0, with either sign
pub record NearestTo (r : ℕ) (z : ℤ) : Type 0 where
  pub sign : Bool
  pub units : ℕ
  pub number : int sign units ≡ z
  pub nearest : Nearest r sign units 1

-- of operands that are ±a and ±b units
pub record Results (x y : ℕ) (s : Bool) (a : ℕ) (t : Bool) (b : ℕ) : Type 0 where
  pub sum : NearestTo (calculated_of Add x y).value (int s a +ℤ int t b)
  pub difference : NearestTo (calculated_of Sub x y).value (int s a -ℤ int t b)
  pub product : Nearest (calculated_of Mul x y).value (unlike s t) (a * b) (2 ^ 149)
  pub quotient : b ≢ 0 → Nearest (calculated_of Div x y).value (unlike s t) (a * 2 ^ 149) b

abbrev pub RoundedOnce : Type 0
RoundedOnce = (x y : ℕ) (s t : Bool) (a b : ℕ) → value binary32 x ≡ finite s a → value binary32 y ≡ finite t b → Results x y s a t b
