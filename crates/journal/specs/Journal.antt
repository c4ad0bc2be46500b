-- Applying an effect, which leaves an entry, and going back by the last one: document 01, 'The journal entry'.
use Rattle.std.specs.Prelude.{ℕ, ◌+◌, ◌-◌, Bool, true, false, cond, not, ◌&&◌, ◌||◌, List, leb, ltb, length, get_or, set, take, drop}
use Rattle.std.specs.Int.Bits.{bit_or}
use Rattle.std.proofs.lemmas.List.Edits.{sets}
use Rattle.machine.specs.declared.Settings.{Settings}
use Rattle.machine.specs.State.{State, write_if, first_special, pc_of}
use Rattle.packed.specs.Packed.{unpacked_of, packed_bound}
use Rattle.effect.specs.Parts.{Write, Effect}
use Rattle.journal.specs.declared.Entry.{Entry}
use Rattle.journal.specs.Words.{eight_of, entry_in, start_of, entry_with, number_a, number_b, uses_a, uses_b, uses_store}

-- a, then b; or b first
abbrev pub writes_in : Bool → Write → Write → List ℕ → List ℕ
writes_in false a b regs = write_if b.used (write_if a.used regs a.number a.value) b.number b.value
writes_in true a b regs = write_if a.used (write_if b.used regs b.number b.value) a.number a.value

-- PC, then the two registers: the last write to R255 decides the PC
unfoldable pub regs_after : Effect → List ℕ → List ℕ
regs_after e regs = writes_in e.reversed e.a e.b (set regs 255 e.pc)

unfoldable pub cells_after : Effect → List ℕ → List ℕ
cells_after e cells = write_if e.store.used cells e.store.address e.store.value

-- a PC that is at its end, and flag 256 with it
abbrev pub ended_of : List ℕ → Bool
ended_of regs = leb first_special (pc_of regs)

abbrev pub settled_of : Bool → Settings → Settings
settled_of true s = record { flags = bit_or s.flags 256; mask = s.mask; mode = s.mode }
settled_of false s = s

unfoldable pub settings_after : Effect → List ℕ → Settings
settings_after e regs = settled_of (ended_of (regs_after e regs)) e.settings

-- the entry that an effect leaves, over what was before it
unfoldable pub entry_of : Effect → List ℕ → Settings → List ℕ → Entry
entry_of e regs s cells = entry_with regs s e.a e.b e.store (get_or cells e.store.address 0)

-- An effect is applied: its entry goes where the depth says, and the journal is one deeper.
abbrev pub apply_of : Effect → State → State
apply_of e s = record {
  regs = regs_after e s.regs;
  settings = settings_after e s.regs;
  depth = s.depth + 1;
  host = s.host;
  cells = cells_after e s.cells;
  journal = sets s.journal (start_of s.depth) (eight_of (entry_of e s.regs s.settings s.cells));
}

-- the last entry of a journal
unfoldable pub last_of : List ℕ → ℕ → Entry
last_of journal depth = entry_in (take 8 (drop (start_of (depth - 1)) journal))

-- PC past m cells, or settings or registers out of range
abbrev pub out_of_range : ℕ → Entry → Bool
out_of_range m e = leb m e.pc || leb packed_bound e.settings || leb 65536 e.numbers

-- Whether an entry of a machine with m cells cannot be one: out of range, a use that does not exist, or a store outside memory.
unfoldable pub damaged_of : ℕ → Entry → Bool
damaged_of m e = out_of_range m e || ltb 7 e.uses || (uses_store e && not (leb 1 e.address && ltb e.address m))

-- Registers, in the order a, b, PC, and cells as an entry has them.
abbrev pub restored : Entry → List ℕ → List ℕ
restored e regs = write_if (uses_b e) (write_if (uses_a e) regs (number_a e) e.a) (number_b e) e.b

unfoldable pub regs_before : Entry → List ℕ → List ℕ
regs_before e regs = set (restored e regs) 255 e.pc

unfoldable pub cells_before : Entry → List ℕ → List ℕ
cells_before e cells = write_if (uses_store e) cells e.address e.old

abbrev pub restore_of : Entry → State → State
restore_of e s = record {
  regs = regs_before e s.regs;
  settings = unpacked_of e.settings;
  depth = s.depth - 1;
  host = s.host;
  cells = cells_before e s.cells;
  journal = s.journal;
}

-- a step taken back
abbrev pub undo_of : State → State
undo_of s = restore_of (last_of s.journal s.depth) s

-- A part of the journal with an entry at its start; one that is shorter than an entry is left as it is.
abbrev pub entered : List ℕ → Entry → List ℕ
entered part e = cond (ltb (length part) 8) part (sets part 0 (eight_of e))

-- The entry at a part's start; all 0 if the part is shorter than an entry.
abbrev pub no_entry : Entry
no_entry = record { pc = 0; settings = 0; numbers = 0; a = 0; b = 0; address = 0; old = 0; uses = 0 }

unfoldable pub first_in : List ℕ → Entry
first_in part = cond (ltb (length part) 8) no_entry (entry_in part)
