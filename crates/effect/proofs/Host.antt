-- Where LDST finds the host's words: each of the five at its address, which can be loaded from and not stored to, and nothing beside them.
-- Assumes nothing.
use Prim.Native.Nat.{ℕ, ◌+◌, ◌-◌, ◌≤◌, ◌<◌}
use mathlib.Core.Path.{◌≡◌}
use mathlib.Core.Bool.{true, false, ◌||◌}
use mathlib.Core.List.{List}
use mathlib.Core.Logic.{◌⊎◌, inl, inr}
use native.Mathlib.Omega.{arith}
use lib.Dec.{ltb}
use lib.ListN.{get_or}
use borrow.Author.Tests.{lt-ltb, le-ltb, le-leb, ltb-false, ne_eqb}
use Rattle.machine.specs.declared.Settings.{Settings}
use Rattle.machine.specs.State.{first_special}
use Rattle.machine.specs.Addresses.{flags_address, mask_address, mode_address, host_address, host_last}
use Rattle.machine.proofs.Tests.{and_false, or_left, or_right}
use Rattle.effect.specs.Operands.{behind}
use Rattle.effect.specs.Effect.{illegal_load, illegal_store}

-- word i, the first being word 0, is at 0xFFFF0300 + i
module _ (i : ℕ) (few : i < 5) where
  pub word_legal : illegal_load (host_address + i) ≡ false
  word_legal = rw (le-ltb (host_address + i) host_address (omega arith), le-ltb host_last (host_address + i) (omega arith)) (and_false (ltb mode_address (host_address + i)))

  pub word_loaded : (cells : List ℕ) (s : Settings) (host : List ℕ) → behind cells s host (host_address + i) ≡ get_or host i 0
  unfolding behind
  word_loaded cells s host =
      let z : host_address + i - host_address ≡ i = omega arith in
      rw (
        le-ltb (host_address + i) first_special (omega arith),
        ne_eqb (host_address + i) flags_address (λ e. omega arith),
        ne_eqb (host_address + i) mask_address (λ e. omega arith),
        ne_eqb (host_address + i) mode_address (λ e. omega arith),
        z,
      )

-- above the mode, all other addresses are illegal to load from
pub no_word : (p : ℕ) → mode_address < p → (p < host_address) ⊎ (host_last < p) → illegal_load p ≡ true
no_word p above (inl h) = rw (lt-ltb mode_address p above, lt-ltb p host_address h)
no_word p above (inr h) = rw (lt-ltb mode_address p above, le-ltb p host_address (omega arith), lt-ltb host_last p h)

-- and so a load from there that is legal is of one of the words
pub of_host : (p : ℕ) → illegal_load p ≡ false → mode_address < p → (host_address ≤ p) × (p ≤ host_last)
of_host p legal above =
    let h : (ltb p host_address || ltb host_last p) ≡ false = rw (lt-ltb mode_address p above) at legal in
    (ltb-false p host_address (or_left (ltb p host_address) _ h), ltb-false host_last p (or_right (ltb p host_address) _ h))

-- nothing above the mode can be stored to
pub no_store : (p v : ℕ) → mode_address < p → illegal_store p v ≡ true
no_store p v above = rw (ne_eqb p mask_address (λ e. omega arith), ne_eqb p mode_address (λ e. omega arith), le-leb first_special p (omega arith))
