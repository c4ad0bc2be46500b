-- Numbers in bytes, the least byte first: document 01, 'Lines and jobs' (little-endian).
use Rattle.std.specs.Prelude.{ℕ, zero, suc, ◌+◌, ◌*◌, ◌/◌, ◌%◌, ◌<◌, List, [], ◌∷◌, get_or, take, drop}

-- 8 bits each
abbrev pub Bytes : List ℕ → Type 0
Bytes l = (i : ℕ) → get_or l i 0 < 256

-- the number that some bytes hold, and the bytes of a number, over the width
unfoldable pub little_of : List ℕ → ℕ
little_of [] = 0
little_of (b ∷ bytes) = b + 256 * little_of bytes

unfoldable pub bytes_of : ℕ → ℕ → List ℕ
bytes_of zero v = []
bytes_of (suc width) v = v % 256 ∷ bytes_of width (v / 256)

-- the number of that width at a place, of the bytes that are there
unfoldable pub number_at : ℕ → ℕ → List ℕ → ℕ
number_at at width bytes = little_of (take width (drop at bytes))
