-- Where going back stands after some steps: PC and settings come from the last entry taken back alone.
use Rattle.std.specs.Prelude.{ℕ, zero, suc, ◌-◌, List, set}
use Rattle.machine.specs.declared.Settings.{Settings}
use Rattle.machine.specs.declared.Machine.{Machine}
use Rattle.machine.specs.State.{State, state_of, state_with}
use Rattle.packed.specs.Packed.{unpacked_of}
use Rattle.journal.specs.declared.Entry.{Entry}
use Rattle.journal.specs.Journal.{last_of}

-- a machine of these parts
abbrev pub machine_with : List ℕ → Settings → ℕ → List ℕ → Machine
machine_with regs s depth host = record { regs = regs; settings = s; depth = depth; host = host }

-- PC and settings are an entry's, and regs are the other registers
abbrev pub back_to : Entry → List ℕ → ℕ → List ℕ → List ℕ → List ℕ → State
back_to e regs depth host cells journal = state_with (set regs 255 e.pc) (unpacked_of e.settings) depth host cells journal

-- The state after so many steps back from m; none leaves m as it was.
unfoldable pub reached : Machine → ℕ → List ℕ → List ℕ → List ℕ → State
reached m zero regs cells journal = state_of m cells journal
reached m (suc k) regs cells journal = back_to (last_of journal (m.depth - k)) regs (m.depth - suc k) m.host cells journal
