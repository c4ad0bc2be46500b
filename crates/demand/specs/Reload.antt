-- Saving and loading: what can be saved, and what a load of the saved job gives.
use Rattle.std.specs.Prelude.{ℕ, ◌≤◌, ◌≡◌, List, length}
use Rattle.machine.specs.State.{InRange, most_cells}
use Rattle.machine.specs.Lawful.{Words}
use Rattle.machine.specs.declared.Machine.{Machine}
use Rattle.job.specs.Job.{Load}

-- Registers 0 to 255 hold 32 bits, and so do each cell and the host's five words.
pub record Held (m : Machine) (cells : List ℕ) : Type 0 where
  pub registers : length m.regs ≡ 256
  pub values : Words m.regs
  pub words : Words cells
  pub five : length m.host ≡ 5
  pub given : Words m.host

-- What a save does not refuse for 12 or 10: 1 to 16,384 cells, settings in range. The depth may be any.
pub record Saveable (m : Machine) (cells : List ℕ) : Type 0 where
  pub held : Held m cells
  pub some : 1 ≤ length cells
  pub few : length cells ≤ most_cells
  pub settled : InRange m.settings

-- That machine with its words of the host and those cells, at depth 0.
abbrev pub reloaded : Machine → List ℕ → Load
reloaded m cells = record {
  machine = record { regs = m.regs; settings = m.settings; depth = 0; host = m.host };
  cells = cells;
  said = record { number = 0; offset = 0 };
}
