-- How long the lines are: that of a run has at most 84 bytes, that of a register 16.
use mathlib.Core.Path.{◌≡◌, refl}
use mathlib.Core.Bool.{Bool, true, false}
use mathlib.Core.List.{List, ◌++◌}
use Prim.Native.Nat.{ℕ, ◌^◌, ◌<◌, ◌≤◌}
use native.Mathlib.Omega.{arith}
use lib.Dec.{eqb}
use lib.ListN.{length, length-append}
use Rattle.text.proofs.Decimal.{decimal_length}
use Rattle.outcome.specs.Told.{exit_text, register_text, longest}

pub exit_short : (stop count pc flags : ℕ) → stop < 2 ^ 64 → count < 2 ^ 64 → pc < 2 ^ 32 → flags < 2 ^ 32 → length (exit_text stop count pc flags) ≤ 84
exit_short stop count pc flags hs hc hp hf =
    let a = decimal_length 19 stop (omega arith) in
    let b = decimal_length 19 count (omega arith) in
    let d = decimal_length 9 pc (omega arith) in
    let e = decimal_length 9 flags (omega arith) in
    simp length-append (omega arith)

register_tested : (i v : ℕ) (b : Bool) → eqb v 0 ≡ b → i < 1000 → v < 2 ^ 32 → length (register_text i v) ≤ 16
register_tested i v true e h k = rw e (omega arith)
register_tested i v false e h k =
    let a = decimal_length 2 i (omega arith) in
    let d = decimal_length 9 v (omega arith) in
    rw e (simp length-append (omega arith))

pub register_short : (i v : ℕ) → i < 1000 → v < 2 ^ 32 → length (register_text i v) ≤ 16
register_short i v h k = register_tested i v (eqb v 0) refl h k

-- the line of a run, and those of its registers
pub both_short : (p q : List ℕ) → length p ≤ 84 → length q ≤ 4080 → length (p ++ q) ≤ longest
both_short p q h k = rw length-append (omega arith)
