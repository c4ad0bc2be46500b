-- Operations at patterns whose results IEEE 754 tells.
-- Assumes nothing.
use Prim.Native.Nat.{ℕ}
use mathlib.Core.Path.{◌≡◌, refl}
use Rattle.binary.specs.Value.{value}
use Rattle.float.specs.Arithmetic.{sum, difference, product, quotient, bits_of, flags_of}
use Rattle.float.specs.Compare.{is_nan, greater, equal}
use Rattle.float.specs.Float.{calculated_of}
use Rattle.float.specs.declared.FloatOp.{FloatOp}
use Rattle.float.specs.declared.FloatOp.TheVariants.{Add, Sub, Mul, Div, Gt, Eq}

-- the operation on x and y writes the value r and raises the flags f
abbrev Gives : FloatOp → ℕ → ℕ → ℕ → ℕ → Type 0
Gives op x y r f = ((calculated_of op x y).value ≡ r) × ((calculated_of op x y).raised ≡ f)

-- 1 + 1; 1 / 3; just below 1 times just above
pub plain :
    Gives Add 0x3F800000 0x3F800000 0x40000000 0 × Gives Div 0x3F800000 0x40400000 0x3EAAAAAB 0 ×
    Gives Mul 0x3F7FFFFF 0x3F800001 0x3F800000 0
unfolding calculated_of sum product quotient bits_of flags_of value
plain = ((refl, refl), (refl, refl), (refl, refl))

-- ties: 2 ^ 24 + 1, and 2 ^ 24 + 2 + 1; a carry into the exponent: 16777215 + 1
pub ties :
    Gives Add 0x4B800000 0x3F800000 0x4B800000 0 × Gives Add 0x4B800001 0x3F800000 0x4B800002 0 ×
    Gives Add 0x4B7FFFFF 0x3F800000 0x4B800000 0
unfolding calculated_of sum bits_of flags_of value
ties = ((refl, refl), (refl, refl), (refl, refl))

-- subnormals: halves of the least value, of its negative and of three times it; from the greatest subnormal to the least normal
pub subnormals :
    Gives Mul 0x00000001 0x3F000000 0x00000000 0 × Gives Mul 0x80000001 0x3F000000 0x80000000 0 ×
    Gives Mul 0x00000003 0x3F000000 0x00000002 0 × Gives Add 0x007FFFFF 0x00000001 0x00800000 0 ×
    Gives Div 0x00000001 0x7F7FFFFF 0x00000000 0
unfolding calculated_of sum product quotient bits_of flags_of value
subnormals = ((refl, refl), (refl, refl), (refl, refl), (refl, refl), (refl, refl))

-- overflow: twice the greatest; with half of its last digit, a tie, and with less; products and quotients far above it
pub overflows :
    Gives Add 0x7F7FFFFF 0x7F7FFFFF 0x7F800000 4 × Gives Add 0x7F7FFFFF 0x73000000 0x7F800000 4 ×
    Gives Add 0x7F7FFFFF 0x72FFFFFF 0x7F7FFFFF 0 × Gives Mul 0xFF7FFFFF 0x7F7FFFFF 0xFF800000 4 ×
    Gives Div 0x7F7FFFFF 0x00000001 0x7F800000 4
unfolding calculated_of sum product quotient bits_of flags_of value
overflows = ((refl, refl), (refl, refl), (refl, refl), (refl, refl), (refl, refl))

-- (-0) + (-0), (-0) + 0, 1 - 1, (-0) - 0, (-1) * 0
pub zeros :
    Gives Add 0x80000000 0x80000000 0x80000000 0 × Gives Add 0x80000000 0x00000000 0x00000000 0 ×
    Gives Sub 0x3F800000 0x3F800000 0x00000000 0 × Gives Sub 0x80000000 0x00000000 0x80000000 0 ×
    Gives Mul 0xBF800000 0x00000000 0x80000000 0
unfolding calculated_of sum difference product bits_of flags_of value
zeros = ((refl, refl), (refl, refl), (refl, refl), (refl, refl), (refl, refl))

-- infinity - infinity, infinity + 1, -1 / 0, -infinity / -0, 0 / -0, a NaN + 1
pub infinities :
    Gives Sub 0x7F800000 0x7F800000 0x7FC00000 32 × Gives Add 0x7F800000 0x3F800000 0x7F800000 0 ×
    Gives Div 0xBF800000 0x00000000 0xFF800000 16 × Gives Div 0xFF800000 0x80000000 0x7F800000 0 ×
    Gives Div 0x00000000 0x80000000 0x7FC00000 32 × Gives Add 0xFFC12345 0x3F800000 0x7FC00000 32
unfolding calculated_of sum difference quotient bits_of flags_of value
infinities = ((refl, refl), (refl, refl), (refl, refl), (refl, refl), (refl, refl), (refl, refl))

-- -0 and 0; -1 and -2; the least value and 0; infinities and the greatest
pub ordered :
    Gives Eq 0x80000000 0x00000000 1 0 × Gives Gt 0x00000000 0x80000000 0 0 × Gives Gt 0xBF800000 0xC0000000 1 0 ×
    Gives Gt 0xC0000000 0xBF800000 0 0 × Gives Gt 0x00000001 0x80000000 1 0 × Gives Gt 0x7F800000 0x7F7FFFFF 1 0 ×
    Gives Gt 0xFF7FFFFF 0xFF800000 1 0 × Gives Gt 0x7F800000 0x7F800000 0 0 × Gives Eq 0x7F800000 0x7F800000 1 0 ×
    Gives Eq 0x7F800000 0xFF800000 0 0
unfolding calculated_of greater is_nan equal value
ordered = ((refl, refl), (refl, refl), (refl, refl), (refl, refl), (refl, refl), (refl, refl), (refl, refl), (refl, refl), (refl, refl), (refl, refl))

-- a NaN on either side, and on both
pub unordered :
    Gives Gt 0x7FC00000 0xFF800000 0 32 × Gives Gt 0x3F800000 0xFF800001 0 32 × Gives Eq 0x7FC00000 0x3F800000 0 0 ×
    Gives Eq 0x7FC00000 0x7FC00000 0 0
unfolding calculated_of greater is_nan equal value
unordered = ((refl, refl), (refl, refl), (refl, refl), (refl, refl))
