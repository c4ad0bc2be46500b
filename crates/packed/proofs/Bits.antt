-- A word's low bits are its flags: what `&` and `|` with a number below the flags' bound do to a word of settings.
-- Assumes nothing. The laws on bits are over any width k; `flags_bits` ties them to the bound.
use Prim.Native.Nat.{ℕ, ◌+◌, ◌-◌, ◌*◌, ◌/◌, ◌%◌, ◌^◌, ◌<◌}
use mathlib.Core.Path.{◌≡◌, ◌∙◌}
use native.Mathlib.Nat.{zero-mul, zero-add, mod-eq_of_lt}
use native.Mathlib.Omega.{arith}
use lib.Bits.{bit_and, bit_or, and_block, or_block, and_mask, or_zero_r, and_le_l, or_lt}
use lib.Pow.{ones_split}
use Rattle.machine.specs.declared.Settings.{Settings}
use Rattle.machine.specs.State.{flags_bound}
use Rattle.machine.proofs.Flags.{flags_bits}
use Rattle.packed.specs.Packed.{packed_of, unpacked_of}

-- the bits above the flags
abbrev other_bits : ℕ
other_bits = 32 - flags_bits

module _ (j k h f g : ℕ) (high : h < 2 ^ j) (flags : f < 2 ^ k) (low : g < 2 ^ k) where
  split_not : 2 ^ (j + k) - 1 - g ≡ (2 ^ j - 1) * 2 ^ k + (2 ^ k - 1 - g)
  split_not = rw (ones_split j k) (omega arith)

  -- of a number below the bound, `!g` keeps what is not in g
  and_low : bit_and f (2 ^ (j + k) - 1 - g) ≡ bit_and f (2 ^ k - 1 - g)
  and_low =
      let a : 2 ^ k - 1 - g < 2 ^ k = omega arith in
      let b : bit_and (0 * 2 ^ k + f) ((2 ^ j - 1) * 2 ^ k + (2 ^ k - 1 - g)) ≡ bit_and 0 (2 ^ j - 1) * 2 ^ k + bit_and f (2 ^ k - 1 - g) = and_block k 0 (2 ^ j - 1) f (2 ^ k - 1 - g) flags a in
      rw split_not (rw (zero-mul, zero-add, zero-add) at b)

  and_not : bit_and (h * 2 ^ k + f) (2 ^ (j + k) - 1 - g) ≡ h * 2 ^ k + bit_and f (2 ^ (j + k) - 1 - g)
  and_not =
      let a : 2 ^ k - 1 - g < 2 ^ k = omega arith in
      let m : bit_and h (2 ^ j - 1) ≡ h = and_mask h j ∙ mod-eq_of_lt high in
      rw (and_low, split_not, and_block k h (2 ^ j - 1) f (2 ^ k - 1 - g) flags a, m)

  or_low : bit_or (h * 2 ^ k + f) g ≡ h * 2 ^ k + bit_or f g
  or_low =
      let b : bit_or (h * 2 ^ k + f) (0 * 2 ^ k + g) ≡ bit_or h 0 * 2 ^ k + bit_or f g = or_block k h 0 f g flags low in
      rw (zero-mul, zero-add, or_zero_r) at b

-- the settings of a word with other flags
abbrev pub reflagged : ℕ → ℕ → Settings
reflagged s v = record { flags = v; mask = (unpacked_of s).mask; mode = (unpacked_of s).mode }

pub with_flags_lem : (s v : ℕ) → s < 2 ^ 32 → v < flags_bound → packed_of (reflagged s v) ≡ s / flags_bound * flags_bound + v
unfolding packed_of unpacked_of
with_flags_lem s v h k = omega arith

module _ (s g r : ℕ) (h : s < 2 ^ 32) (low : g < flags_bound) (up : r < flags_bound) where
  parted : s ≡ s / flags_bound * 2 ^ flags_bits + s % flags_bound
  parted = omega arith

  kept : bit_and (s % flags_bound) (2 ^ 32 - 1 - g) < flags_bound
  kept = omega (arith, and_le_l (s % flags_bound) (2 ^ 32 - 1 - g))

  clears : bit_and s (2 ^ 32 - 1 - g) ≡ s / flags_bound * flags_bound + bit_and (s % flags_bound) (2 ^ 32 - 1 - g)
  clears =
      let b = and_not other_bits flags_bits (s / flags_bound) (s % flags_bound) g (omega arith) (omega arith) low in
      rw (← parted) at b

  -- of the flags those of g go, and those of r come
  pub replaces : bit_or (bit_and s (2 ^ 32 - 1 - g)) r ≡ packed_of (reflagged s (bit_or (bit_and (unpacked_of s).flags (2 ^ 32 - 1 - g)) r))
  unfolding unpacked_of
  replaces =
      let b = or_low other_bits flags_bits (s / flags_bound) (bit_and (s % flags_bound) (2 ^ 32 - 1 - g)) r (omega arith) kept up in
      rw (clears, with_flags_lem s _ h (or_lt flags_bits _ r kept up)) b

-- the flags of r come
pub raises : (s r : ℕ) → s < 2 ^ 32 → r < flags_bound → bit_or s r ≡ packed_of (reflagged s (bit_or (unpacked_of s).flags r))
unfolding unpacked_of
raises s r h up =
    let b = or_low other_bits flags_bits (s / flags_bound) (s % flags_bound) r (omega arith) (omega arith) up in
    let e : s ≡ s / flags_bound * 2 ^ flags_bits + s % flags_bound = omega arith in
    rw (with_flags_lem s _ h (or_lt flags_bits (s % flags_bound) r (omega arith) up)) (rw (← e) at b)
