-- A fraction rounded to a binary32, to nearest, ties to even: document 02, 2026-06.
-- It is a / b units of 2 ^ -149, b above 0, and whole numbers are compared, multiplied out.
use Prim.Native.Nat.{ℕ, zero, suc, ◌+◌, ◌*◌, ◌/◌, ◌%◌, ◌^◌, compare, Ordering}
use Rattle.std.specs.Prelude.{true, false, cond, ltb}

-- q or the next number, by how twice the remainder compares with the divisor; at a tie the even one
abbrev pub closer : Ordering → ℕ → ℕ
closer Ordering.lt q = q
closer Ordering.eq q = q + q % 2
closer Ordering.gt q = q + 1

-- the whole number nearest to a / b
unfoldable pub nearest : ℕ → ℕ → ℕ
nearest a b = closer (compare (a % b * 2) b) (a / b)

-- How often b is doubled for a / b to be below 2 ^ 24, that is, to have at most 24 digits before the point. At most g times, and a times
-- are never too few.
unfoldable pub doublings : ℕ → ℕ → ℕ → ℕ
doublings zero a b = 0
doublings (suc g) a b = elim (ltb a (2 ^ 24 * b)) [ true ↦ 0 | false ↦ suc (doublings g a (b * 2)) ]

-- infinity's pattern, without its sign
abbrev pub inf : ℕ
inf = 0x7F800000

-- The pattern of a / b units, rounded, without its sign: q * 2 ^ k units, q having 24 digits where k is not 0. In k * 2 ^ 23 + q the leading
-- digit of q adds one to the exponent k, and a q that was rounded up to 2 ^ 24 adds two. From 2 ^ 128 on, which is 2 ^ 277 units, it is infinity.
unfoldable pub magnitude : ℕ → ℕ → ℕ
unfolding nearest doublings
magnitude a b =
    let k = doublings a a b in
    let q = nearest a (b * 2 ^ k) in
    cond (ltb (q * 2 ^ k) (2 ^ 277)) (k * 2 ^ 23 + q) inf
