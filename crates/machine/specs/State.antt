-- What can be seen of a machine with its cells and journal: document 01, 'The machine and its boundary'; the host's words: document 02, 2026-05.
use Rattle.std.specs.Prelude.{ℕ, ◌/◌, ◌<◌, min, Bool, true, false, ◌||◌, List, leb, ltb, eqb, replicate, length, get_or, set}
use Rattle.machine.specs.declared.Settings.{Settings}
use Rattle.machine.specs.declared.Machine.{Machine}

-- All that there is to see: 256 registers, flags with mask and mode, how many entries are in use, the host's five words, the lent cells and the
-- lent journal.
pub record State : Type 0 where
  pub regs : List ℕ
  pub settings : Settings
  pub depth : ℕ
  pub host : List ℕ
  pub cells : List ℕ
  pub journal : List ℕ

-- the PC
abbrev pub pc_of : List ℕ → ℕ
pc_of regs = get_or regs 255 0

-- flags and mask are below 512, and a journal entry packs them by that
abbrev pub flags_bound : ℕ
flags_bound = 512

-- the first special address; a PC there or above is ended
abbrev pub first_special : ℕ
first_special = 0xFFFF0000

-- registers, settings, depth, the host's words, cells and journal, each by itself
abbrev pub state_with : List ℕ → Settings → ℕ → List ℕ → List ℕ → List ℕ → State
state_with regs s depth host cells journal = record { regs = regs; settings = s; depth = depth; host = host; cells = cells; journal = journal }

-- a machine with what the host lends it
abbrev pub state_of : Machine → List ℕ → List ℕ → State
state_of m cells journal = state_with m.regs m.settings m.depth m.host cells journal

-- the machine in a state
abbrev pub machine_of : State → Machine
machine_of s = record { regs = s.regs; settings = s.settings; depth = s.depth; host = s.host }

-- the settings, the host's words and the machine that nothing was done to: all 0, but for mode 3
abbrev pub fresh_settings : Settings
fresh_settings = record { flags = 0; mask = 0; mode = 3 }

abbrev pub fresh_host : List ℕ
fresh_host = replicate 5 0

unfoldable pub fresh_machine : Machine
fresh_machine = record { regs = replicate 256 0; settings = fresh_settings; depth = 0; host = fresh_host }

-- the largest M
abbrev pub most_cells : ℕ
most_cells = 16384

-- J, for a journal of so many words: whole entries of eight, at most 65,536
unfoldable pub entries_in : ℕ → ℕ
entries_in words = min 65536 (words / 8)

unfoldable pub capacity_of : List ℕ → ℕ
capacity_of journal = entries_in (length journal)

-- what stops 12 and 10 are for
abbrev pub bad_cells : ℕ → Bool
bad_cells m = eqb m 0 || ltb most_cells m

abbrev pub bad_settings : Settings → Bool
bad_settings s = leb flags_bound s.flags || leb flags_bound s.mask || leb 4 s.mode

-- settings that a call takes
pub record InRange (s : Settings) : Type 0 where
  pub flags : s.flags < flags_bound
  pub mask : s.mask < flags_bound
  pub mode : s.mode < 4

-- a write that is made if it is used
abbrev pub write_if : Bool → List ℕ → ℕ → ℕ → List ℕ
write_if true l i v = set l i v
write_if false l i v = l
