-- Packing and unpacking undo each other. The flags' bound stands here by its name alone, so that another bound asks for no other proof.
-- Assumes nothing.
use Prim.Native.Nat.{ℕ, ◌+◌, ◌*◌, ◌/◌, ◌%◌, ◌<◌}
use mathlib.Core.Path.{◌≡◌}
use native.Mathlib.Omega.{arith}
use Rattle.machine.specs.declared.Settings.{Settings}
use Rattle.machine.specs.State.{flags_bound, InRange}
use Rattle.packed.specs.Packed.{packed_of, unpacked_of, packed_bound}

-- settings in range lose nothing in a word
module _ (s : Settings) (l : InRange s) where
  pub packed_in : packed_of s ≡ s.flags + flags_bound * s.mask + flags_bound * flags_bound * s.mode
  unfolding packed_of
  packed_in = omega arith

  pub packed_below : packed_of s < packed_bound
  packed_below = rw packed_in (omega arith)

  pub unpacked_packed : unpacked_of (packed_of s) ≡ s
  unfolding unpacked_of
  unpacked_packed =
      let sum : ℕ = s.flags + flags_bound * s.mask + flags_bound * flags_bound * s.mode in
      let f : sum % flags_bound ≡ s.flags = omega arith in
      let d : sum / flags_bound ≡ s.mask + flags_bound * s.mode = omega arith in
      let m : (s.mask + flags_bound * s.mode) % flags_bound ≡ s.mask = omega arith in
      let o : sum / (flags_bound * flags_bound) ≡ s.mode = omega arith in
      rw packed_in (rw (f, d, m, o))

-- the settings that a word stands for make that word
pub packed_unpacked : (s : ℕ) → s < 4294967296 → packed_of (unpacked_of s) ≡ s
unfolding packed_of unpacked_of
packed_unpacked s h = omega arith
