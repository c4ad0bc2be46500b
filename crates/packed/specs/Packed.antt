-- Settings as one word, word 1 of an entry: document 01, 'The journal entry'.
use Rattle.std.specs.Prelude.{ℕ, ◌+◌, ◌*◌, ◌/◌, ◌%◌}
use Rattle.machine.specs.declared.Settings.{Settings}
use Rattle.machine.specs.State.{flags_bound}

-- Settings in one word of 32 bits; of those that a call takes nothing is lost.
unfoldable pub packed_of : Settings → ℕ
packed_of s = (s.flags + flags_bound * s.mask + flags_bound * flags_bound * s.mode) % 4294967296

-- the settings that a word stands for
unfoldable pub unpacked_of : ℕ → Settings
unpacked_of s = record {
  flags = s % flags_bound;
  mask = s / flags_bound % flags_bound;
  mode = s / (flags_bound * flags_bound);
}

-- a word that settings in range make is below this, which is 2^20
abbrev pub packed_bound : ℕ
packed_bound = 4 * flags_bound * flags_bound
