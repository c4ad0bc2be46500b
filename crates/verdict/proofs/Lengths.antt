-- How long the texts are: the line of a flaw has at most 75 bytes, and no text more than the longest.
-- Assumes nothing.
use Prim.Native.Nat.{ℕ, ◌^◌, ◌<◌, ◌≤◌}
use native.Mathlib.Omega.{arith}
use lib.ListN.{length, length-append}
use Rattle.text.proofs.Decimal.{decimal_length}
use Rattle.line.proofs.Sizes.{line_short}
use Rattle.profile.specs.declared.Flaw.{Flaw}
use Rattle.profile.specs.declared.Flaw.TheVariants as flaw
use Rattle.std.specs.Prelude.{Ok, Err}
use Rattle.verdict.specs.declared.Unfit.TheVariants.{NoStart, BadLength, BadCell}
use Rattle.verdict.specs.Told.{flaw_text, told_of, longest}

pub no_start_short : length (told_of (Err NoStart)) ≤ longest
unfolding told_of
no_start_short = omega arith

pub bad_length_short : (most : ℕ) → most < 2 ^ 64 → length (told_of (Err (BadLength most))) ≤ longest
unfolding told_of
bad_length_short most h = let a = decimal_length 19 most (omega arith) in simp length-append (omega arith)

pub forward_only_short : (l : ℕ) → l < 2 ^ 64 → length (told_of (Ok l)) ≤ longest
unfolding told_of
forward_only_short l h = let a = decimal_length 19 l (omega arith) in simp length-append (omega arith)

flaw_short : (f : Flaw) → length (flaw_text f) ≤ 75
flaw_short flaw.Reserved = omega arith
flaw_short flaw.Float = omega arith
flaw_short flaw.Int = omega arith
flaw_short flaw.Back = omega arith
flaw_short flaw.Target = omega arith

pub bad_cell_short : (place cell : ℕ) (f : Flaw) → place < 2 ^ 64 → cell < 2 ^ 32 → length (told_of (Err (BadCell place cell f))) ≤ longest
unfolding told_of
bad_cell_short place cell f h k =
    let a = decimal_length 19 place (omega arith) in
    let b = line_short cell k in
    let d = flaw_short f in
    simp length-append (omega arith)
