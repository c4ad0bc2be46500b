-- The machines of document 01, 'The machine and its boundary': 256 registers and M cells of 32 bits, settings in range, depth at most J; and the
-- host's five words of document 02, 2026-05.
use Rattle.std.specs.Prelude.{ℕ, ◌^◌, ◌≤◌, ◌<◌, ◌≡◌, List, length, get_or}
use Rattle.machine.specs.declared.Settings.{Settings}
use Rattle.machine.specs.State.{State, InRange, capacity_of}

-- 32 bits each
abbrev pub Words : List ℕ → Type 0
Words l = (i : ℕ) → get_or l i 0 < 2 ^ 32

-- neither stop 10 nor stop 11
pub record Ready (s : Settings) (depth : ℕ) (journal : List ℕ) : Type 0 where
  pub settled : InRange s
  pub room : depth ≤ capacity_of journal

pub record Lawful (s : State) : Type 0 where
  pub registers : length s.regs ≡ 256
  pub words : Words s.regs
  pub cells : Words s.cells
  pub five : length s.host ≡ 5
  pub given : Words s.host
  pub ready : Ready s.settings s.depth s.journal
