-- Fractions of units whose binary32 IEEE 754 tells.
-- Assumes nothing.
use Prim.Native.Nat.{◌+◌, ◌-◌, ◌*◌, ◌^◌}
use mathlib.Core.Path.{◌≡◌, refl}
use Rattle.rounding.specs.Rounding.{magnitude}

-- a half, one and a half, a third and two thirds of a unit; the least value, the greatest subnormal and the least normal
pub small :
    (magnitude 1 2 ≡ 0) × (magnitude 3 2 ≡ 2) × (magnitude 1 3 ≡ 0) × (magnitude 2 3 ≡ 1) ×
    (magnitude 1 1 ≡ 1) × (magnitude (2 ^ 23 - 1) 1 ≡ 0x007FFFFF) × (magnitude (2 ^ 23) 1 ≡ 0x00800000)
unfolding magnitude
small = (refl, refl, refl, refl, refl, refl, refl)

-- 1, and what lies half way to the next value above 1 and above that one, and just beyond
pub ties :
    (magnitude (2 ^ 149) 1 ≡ 0x3F800000) × (magnitude (2 ^ 149 + 2 ^ 125) 1 ≡ 0x3F800000) ×
    (magnitude (2 ^ 149 + 3 * 2 ^ 125) 1 ≡ 0x3F800002) × (magnitude (2 ^ 149 + 2 ^ 125 + 1) 1 ≡ 0x3F800001)
unfolding magnitude
ties = (refl, refl, refl, refl)

-- the greatest value, the last that is rounded to it, and from there on infinity
pub great :
    (magnitude (2 ^ 277 - 2 ^ 253) 1 ≡ 0x7F7FFFFF) × (magnitude (2 ^ 277 - 2 ^ 252 - 1) 1 ≡ 0x7F7FFFFF) ×
    (magnitude (2 ^ 277 - 2 ^ 252) 1 ≡ 0x7F800000) × (magnitude (3 * 2 ^ 276) 1 ≡ 0x7F800000)
unfolding magnitude
great = (refl, refl, refl, refl)
