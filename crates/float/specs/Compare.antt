-- The order of two binary32 values: document 02, 2026-06. With a NaN no comparison holds.
use Rattle.std.specs.Prelude.{ℕ, Bool, true, false, not, ◌&&◌, ℤ, pos, neg_ℤ}
use Rattle.std.specs.Bool.{beq}
use Rattle.std.specs.Int.Signed.{lt_z}
use Rattle.binary.specs.Value.{Value, nan, infinity, finite}

-- the whole number with that sign and magnitude: -0 is 0
abbrev pub int : Bool → ℕ → ℤ
int false n = pos n
int true n = neg_ℤ (pos n)

unfoldable pub is_nan : Value → Bool
is_nan nan = true
is_nan (infinity s) = false
is_nan (finite s a) = false

-- finite values are compared in units
unfoldable pub greater : Value → Value → Bool
greater nan y = false
greater (infinity s) nan = false
greater (infinity s) (infinity t) = not s && t
greater (infinity s) (finite t b) = not s
greater (finite s a) nan = false
greater (finite s a) (infinity t) = t
greater (finite s a) (finite t b) = lt_z (int t b) (int s a)

unfoldable pub equal : Value → Value → Bool
equal nan y = false
equal (infinity s) nan = false
equal (infinity s) (infinity t) = beq s t
equal (infinity s) (finite t b) = false
equal (finite s a) nan = false
equal (finite s a) (infinity t) = false
equal (finite s a) (finite t b) = not (lt_z (int s a) (int t b)) && not (lt_z (int t b) (int s a))
