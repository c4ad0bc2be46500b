-- se and ex of 16 bits are 32-bit numbers, and so are 16 bits extended in either way.
-- Assumes nothing.
use Rattle.std.proofs.Common.{ℕ, ◌/◌, ◌%◌, ◌^◌, ◌<◌, Bool, true, false, cond, eqb, ltb, arith}
use Rattle.half.specs.declared.Extension.{Extension}
use Rattle.half.specs.declared.Extension.TheVariants.{Se, Ex}
use Rattle.half.specs.Half.{single, single_of, se_of, ex_of, extended}

either : (t : Bool) {x y : ℕ} → x < 2 ^ 32 → y < 2 ^ 32 → cond t x y < 2 ^ 32
either true h k = h
either false h k = k

pub se_below : (x : ℕ) → x < 2 ^ 16 → se_of x < 2 ^ 32
unfolding se_of
se_below x h = either (ltb x 0x8000) (omega (arith, h)) (omega (arith, h))

fields_below : (s e t : ℕ) → s < 2 → e < 2 ^ 8 → t < 2 ^ 23 → single s e t < 2 ^ 32
fields_below s e t S E T = omega (arith, S, E, T)

single_below : (s e t : ℕ) → s < 2 → e < 2 ^ 5 → t < 2 ^ 10 → single_of s e t < 2 ^ 32
single_below s e t S E T =
    either (eqb e 31) (either (eqb t 0) (fields_below s 255 0 S (omega arith) (omega arith)) (omega arith))
    (either (eqb e 0)
    (either (eqb t 0) (fields_below s 0 0 S (omega arith) (omega arith)) (fields_below s _ _ S (omega arith) (omega arith)))
    (fields_below s _ _ S (omega (arith, E)) (omega (arith, T))))

pub ex_below : (x : ℕ) → x < 2 ^ 16 → ex_of x < 2 ^ 32
unfolding ex_of
ex_below x h = single_below (x / 2 ^ 15) (x / 2 ^ 10 % 2 ^ 5) (x % 2 ^ 10) (omega arith) (omega arith) (omega arith)

pub extended_below : (by : Extension) (x : ℕ) → x < 2 ^ 16 → extended by x < 2 ^ 32
extended_below Se x h = se_below x h
extended_below Ex x h = ex_below x h
