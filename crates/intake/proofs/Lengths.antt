-- How long the line of a refusal is.
use Prim.Native.Nat.{ℕ, ◌^◌, ◌<◌, ◌≤◌}
use native.Mathlib.Omega.{arith}
use lib.ListN.{length, length-append}
use Rattle.text.proofs.Decimal.{decimal_length}
use Rattle.intake.specs.Intake.{refused_text}

pub refused_short : (number offset : ℕ) → number < 2 ^ 64 → offset < 2 ^ 64 → length (refused_text number offset) ≤ 53
refused_short number offset h k =
    let a = decimal_length 19 number (omega arith) in
    let b = decimal_length 19 offset (omega arith) in
    simp length-append (omega arith)
