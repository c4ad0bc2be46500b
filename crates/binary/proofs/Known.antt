-- Patterns whose values IEEE 754 tells: 1, the least, the greatest, where subnormals end, zeros, infinities and NaNs of either format.
-- Assumes nothing.
use Prim.Native.Nat.{◌*◌, ◌-◌, ◌^◌}
use mathlib.Core.Bool.{true, false}
use mathlib.Core.Path.{◌≡◌, refl}
use Rattle.binary.specs.Value.{nan, infinity, finite, binary16, binary32, value}

pub known16 :
    (value binary16 0x3C00 ≡ finite false (2 ^ 149)) × (value binary16 0xC000 ≡ finite true (2 * 2 ^ 149)) ×
    (value binary16 0x0001 ≡ finite false (2 ^ 125)) × (value binary16 0x7BFF ≡ finite false (65504 * 2 ^ 149)) ×
    (value binary16 0x03FF ≡ finite false (1023 * 2 ^ 125)) × (value binary16 0x0400 ≡ finite false (1024 * 2 ^ 125)) ×
    (value binary16 0x0000 ≡ finite false 0) × (value binary16 0x8000 ≡ finite true 0) ×
    (value binary16 0x7C00 ≡ infinity false) × (value binary16 0xFC00 ≡ infinity true) ×
    (value binary16 0x7C01 ≡ nan) × (value binary16 0xFFFF ≡ nan)
unfolding value
known16 = (refl, refl, refl, refl, refl, refl, refl, refl, refl, refl, refl, refl)

pub known32 :
    (value binary32 0x3F800000 ≡ finite false (2 ^ 149)) × (value binary32 0xC0000000 ≡ finite true (2 * 2 ^ 149)) ×
    (value binary32 0x00000001 ≡ finite false 1) × (value binary32 0x7F7FFFFF ≡ finite false (2 ^ 277 - 2 ^ 253)) ×
    (value binary32 0x007FFFFF ≡ finite false (2 ^ 23 - 1)) × (value binary32 0x00800000 ≡ finite false (2 ^ 23)) ×
    (value binary32 0x00000000 ≡ finite false 0) × (value binary32 0x80000000 ≡ finite true 0) ×
    (value binary32 0x7F800000 ≡ infinity false) × (value binary32 0xFF800000 ≡ infinity true) ×
    (value binary32 0x7FC00000 ≡ nan) × (value binary32 0xFF800001 ≡ nan)
unfolding value
known32 = (refl, refl, refl, refl, refl, refl, refl, refl, refl, refl, refl, refl)
