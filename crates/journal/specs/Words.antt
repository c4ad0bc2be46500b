-- An entry and its eight words: document 01, 'The journal entry'.
use Rattle.std.specs.Prelude.{ℕ, ◌+◌, ◌*◌, ◌/◌, ◌%◌, Bool, true, false, List, [], ◌∷◌, eqb, get_or}
use Rattle.machine.specs.declared.Settings.{Settings}
use Rattle.machine.specs.State.{pc_of}
use Rattle.packed.specs.Packed.{packed_of}
use Rattle.effect.specs.Parts.{Write, Store}
use Rattle.journal.specs.declared.Entry.{Entry}

-- The words in their order, 0 to 7, and an entry from such a list.
abbrev pub eight_of : Entry → List ℕ
eight_of e = e.pc ∷ e.settings ∷ e.numbers ∷ e.a ∷ e.b ∷ e.address ∷ e.old ∷ e.uses ∷ []

abbrev pub entry_in : List ℕ → Entry
entry_in words = record {
  pc = get_or words 0 0;
  settings = get_or words 1 0;
  numbers = get_or words 2 0;
  a = get_or words 3 0;
  b = get_or words 4 0;
  address = get_or words 5 0;
  old = get_or words 6 0;
  uses = get_or words 7 0;
}

-- the word at which the entry of a depth starts
abbrev pub start_of : ℕ → ℕ
start_of depth = 8 * depth

-- a part, 0 where it is not used
abbrev pub if_used : Bool → ℕ → ℕ
if_used true v = v
if_used false v = 0

-- The entry of a step over these registers and settings that writes registers a and b and stores to a cell with this old value.
abbrev pub entry_with : List ℕ → Settings → Write → Write → Store → ℕ → Entry
entry_with regs s a b store old = record {
  pc = pc_of regs;
  settings = packed_of s;
  numbers = if_used a.used a.number + 256 * if_used b.used b.number;
  a = if_used a.used (get_or regs a.number 0);
  b = if_used b.used (get_or regs b.number 0);
  address = if_used store.used store.address;
  old = if_used store.used old;
  uses = if_used a.used 1 + if_used b.used 2 + if_used store.used 4;
}

-- What an entry says: its registers, and the parts that it uses.
abbrev pub number_a : Entry → ℕ
number_a e = e.numbers % 256

abbrev pub number_b : Entry → ℕ
number_b e = e.numbers / 256

abbrev pub uses_a : Entry → Bool
uses_a e = eqb (e.uses % 2) 1

abbrev pub uses_b : Entry → Bool
uses_b e = eqb (e.uses / 2 % 2) 1

abbrev pub uses_store : Entry → Bool
uses_store e = eqb (e.uses / 4 % 2) 1
