-- What only the contracts of private functions cite, each a short way to name what the definitions make: nothing here is promised.
use Rattle.std.specs.Prelude.{ℕ, Bool, true, cond, ◌&&◌, List, leb, ltb, eqb, get_or}
use Rattle.machine.specs.declared.Settings.{Settings}
use Rattle.machine.specs.State.{State, first_special}
use Rattle.machine.specs.Addresses.{mask_address, mode_address}
use Rattle.effect.specs.Operands.{behind}
use Rattle.effect.specs.Parts.{Write, Store, Effect, no_write, no_store, gets, still, ◌then◌, store, load}
use Rattle.journal.specs.declared.Entry.{Entry}
use Rattle.journal.specs.Words.{if_used}
use Rattle.ldst.specs.declared.Kept.{Kept}

-- LDST's parts, each by itself: the register that it loads, the cell that it stores, the settings that it leaves
unfoldable pub load_of : ℕ → ℕ → ℕ → Write
load_of p n v = cond (eqb p 0) no_write (gets n v)

unfoldable pub store_of : ℕ → ℕ → Store
store_of p v = cond (leb 1 p && ltb p first_special) (record { used = true; address = p; value = v }) no_store

unfoldable pub settings_of : ℕ → ℕ → Settings → Settings
settings_of p v s = record {
  flags = s.flags;
  mask = cond (eqb p mask_address) v s.mask;
  mode = cond (eqb p mode_address) v s.mode;
}

-- place i of a list, as an entry has it if it is used
unfoldable pub kept_of : Bool → ℕ → List ℕ → ℕ → Kept
kept_of used i l uses = record { number = if_used used i; old = if_used used (get_or l i 0); uses = if_used used uses }

-- LDST with its operands' values, where both pointers can be used
abbrev pub transfer_of : ℕ → ℕ → ℕ → ℕ → State → Effect
transfer_of n v x y s = still s then store x v then load y n (behind s.cells s.settings s.host y)

-- the entry of an LDST, by its words but b's, which it never has
abbrev pub entry_by : ℕ → ℕ → ℕ → ℕ → ℕ → ℕ → ℕ → Entry
entry_by pc s numbers a address old uses = record { pc = pc; settings = s; numbers = numbers; a = a; b = 0; address = address; old = old; uses = uses }
