-- What 16 bits become as 32: document 01, 'One step' (se), and document 02, 2026-01 (ex).
use Rattle.std.specs.Prelude.{ℕ, suc, ◌+◌, ◌-◌, ◌*◌, ◌/◌, ◌%◌, ◌^◌, cond, ◌==◌, nat_lt}
use Rattle.std.specs.Int.Count.{count_leading_zeros}
use Rattle.half.specs.declared.Extension.{Extension}
use Rattle.half.specs.declared.Extension.TheVariants.{Se, Ex}

-- se: the sign bit is copied into the 16 bits above
unfoldable pub se_of : ℕ → ℕ
se_of x = cond (nat_lt x 0x8000) x (0xFFFF0000 + x)

-- a single's sign, exponent and fraction in their places
abbrev pub single : ℕ → ℕ → ℕ → ℕ
single s e t = s * 2 ^ 31 + e * 2 ^ 23 + t

-- how many places a fraction that is not 0 moves up for its leading digit to leave the ten bits
abbrev pub up_of : ℕ → ℕ
up_of t = suc (count_leading_zeros 10 t)

-- an exponent of 0 counts as 1, with no leading digit: zero, or the fraction moved up and the exponent lowered by as many places
abbrev pub least_of : ℕ → ℕ → ℕ
least_of s t = cond (t == 0) (single s 0 0) (single s (113 - up_of t) (t * 2 ^ up_of t % 2 ^ 10 * 2 ^ 13))

-- an exponent of ones: infinity, or the one NaN
abbrev pub most_of : ℕ → ℕ → ℕ
most_of s t = cond (t == 0) (single s 255 0) 0x7FC00000

-- any other exponent stands 127 above its value in place of 15, and 13 zeros stand below the fraction
abbrev pub single_of : ℕ → ℕ → ℕ → ℕ
single_of s e t = cond (e == 31) (most_of s t) (cond (e == 0) (least_of s t) (single s (112 + e) (t * 2 ^ 13)))

-- ex, of a half's sign, exponent and fraction
unfoldable pub ex_of : ℕ → ℕ
ex_of x = single_of (x / 2 ^ 15) (x / 2 ^ 10 % 2 ^ 5) (x % 2 ^ 10)

-- by se or by ex
abbrev pub extended : Extension → ℕ → ℕ
extended Se x = se_of x
extended Ex x = ex_of x
