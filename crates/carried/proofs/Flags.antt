-- What is done to a word of settings is done to the flags that it stands for.
-- Assumes nothing.
use Rattle.std.proofs.Common.{◌≡◌, ℕ, ◌^◌, ◌<◌}
use lib.Bits.{bit_or}
use Rattle.machine.specs.State.{flags_bound}
use Rattle.packed.specs.Packed.{packed_of, unpacked_of}
use Rattle.packed.proofs.Bits as bits
use Rattle.effect.specs.Parts.{with_flags, flags_of}

pub replaces : (s g r : ℕ) → s < 2 ^ 32 → g < flags_bound → r < flags_bound
    → flags_of s g r ≡ packed_of (with_flags (flags_of (unpacked_of s).flags g r) (unpacked_of s))
unfolding flags_of
replaces s g r h low up = bits.replaces s g r h low up

pub raises : (s r : ℕ) → s < 2 ^ 32 → r < flags_bound → bit_or s r ≡ packed_of (with_flags (bit_or (unpacked_of s).flags r) (unpacked_of s))
raises s r h up = bits.raises s r h up
