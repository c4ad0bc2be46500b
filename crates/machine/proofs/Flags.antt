-- Flags below their bound stay below it where others are set: the one place that knows which power of two the bound is.
-- Assumes nothing.
use Prim.Native.Nat.{ℕ, ◌<◌}
use lib.Bits.{bit_or, or_lt}
use Rattle.machine.specs.State.{flags_bound}

-- the flags' bound is 2^flagsBits
abbrev pub flags_bits : ℕ
flags_bits = 9

pub flags_or : (a b : ℕ) → a < flags_bound → b < flags_bound → bit_or a b < flags_bound
flags_or a b = or_lt flags_bits a b
