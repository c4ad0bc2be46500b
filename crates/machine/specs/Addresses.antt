-- The addresses above memory that LDST knows: document 01, 'Addresses'; those of the host's words are of document 02, 2026-05.
use Rattle.std.specs.Prelude.{ℕ}

abbrev pub flags_address : ℕ
flags_address = 0xFFFF0000

abbrev pub mask_address : ℕ
mask_address = 0xFFFF0001

abbrev pub mode_address : ℕ
mode_address = 0xFFFF0002

-- the first and the last of the host's five words
abbrev pub host_address : ℕ
host_address = 0xFFFF0300

abbrev pub host_last : ℕ
host_last = 0xFFFF0304
