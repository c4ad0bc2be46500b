-- The parts of what a step does, and an effect put together from them one after the other: document 01, 'One step'.
use Rattle.std.specs.Prelude.{ℕ, ◌+◌, ◌-◌, ◌^◌, Bool, true, false, cond, eqb}
use Rattle.std.specs.Int.Bits.{bit_and, bit_or}
use Rattle.word.specs.declared.Written.{Written}
use Rattle.word.specs.Word.{wrap}
use Rattle.machine.specs.declared.Settings.{Settings}
use Rattle.machine.specs.State.{State}
use Rattle.machine.specs.Addresses.{mask_address, mode_address}
use Rattle.effect.specs.Operands.{next_of}

infixl 20 ◌then◌
-- A register that a step writes, and a cell that it stores to memory, each where it is used.
pub record Write : Type 0 where
  pub used : Bool
  pub number : ℕ
  pub value : ℕ

pub record Store : Type 0 where
  pub used : Bool
  pub address : ℕ
  pub value : ℕ

-- What an instruction answers: to go on, or INT with its two values.
pub data Answer : Type 0 where
  Onward : Answer
  Interrupt : ℕ → ℕ → Answer

-- What an instruction does: the next PC, the flags that it wrote as 1, the settings, at most two registers (b first if reversed),
-- at most one cell.
pub record Effect : Type 0 where
  pub pc : ℕ
  pub raised : ℕ
  pub settings : Settings
  pub a : Write
  pub b : Write
  pub reversed : Bool
  pub store : Store
  pub answer : Answer

-- The registers that a step writes, by their names in the journal, and whether b is written before a.
pub record Writes : Type 0 where
  pub a : Write
  pub b : Write
  pub reversed : Bool

-- The settings that a step leaves, and the flags that it wrote as 1.
pub record Settled : Type 0 where
  pub settings : Settings
  pub raised : ℕ

abbrev pub no_write : Write
no_write = record { used = false; number = 0; value = 0 }

abbrev pub no_store : Store
no_store = record { used = false; address = 0; value = 0 }

abbrev pub gets : ℕ → ℕ → Write
gets i v = record { used = true; number = i; value = v }

-- An effect of its parts: the next PC, settings, registers, cell, answer.
abbrev pub made : ℕ → Settled → Writes → Store → Answer → Effect
made pc t w store answer = record {
  pc = pc;
  raised = t.raised;
  settings = t.settings;
  a = w.a;
  b = w.b;
  reversed = w.reversed;
  store = store;
  answer = answer;
}

abbrev pub settled_in : Effect → Settled
settled_in e = record { settings = e.settings; raised = e.raised }

abbrev pub registers_in : Effect → Writes
registers_in e = record { a = e.a; b = e.b; reversed = e.reversed }

-- PC becomes pc, and nothing more
abbrev pub onward : ℕ → Settings → Effect
onward pc s =
    made pc (record { settings = s; raised = 0 }) (record { a = no_write; b = no_write; reversed = false }) no_store Onward

abbrev pub still : State → Effect
still s = onward (next_of s.regs) s.settings

-- an effect, then one part more
abbrev pub ◌then◌ : Effect → (Effect → Effect) → Effect
e then f = f e

-- .. register i gets v, and is the journal's a, or its b
abbrev pub write_a : ℕ → ℕ → Effect → Effect
write_a i v e = made e.pc (settled_in e) (record { a = gets i v; b = e.b; reversed = e.b.used }) e.store e.answer

abbrev pub write_b : ℕ → ℕ → Effect → Effect
write_b i v e = made e.pc (settled_in e) (record { a = e.a; b = gets i v; reversed = e.reversed }) e.store e.answer

-- .. the cell at p gets v
abbrev pub write_cell : ℕ → ℕ → Effect → Effect
write_cell p v e = made e.pc (settled_in e) (registers_in e) (record { used = true; address = p; value = v }) e.answer

-- .. PC gains d
abbrev pub gain : ℕ → Effect → Effect
gain d e = made (wrap (e.pc + d)) (settled_in e) (registers_in e) e.store e.answer

-- .. the answer is this
abbrev pub say : Answer → Effect → Effect
say answer e = made e.pc (settled_in e) (registers_in e) e.store answer

-- .. settings become these, with these flags written as 1
abbrev pub settle : Settings → ℕ → Effect → Effect
settle s raised e = made e.pc (record { settings = s; raised = raised }) (registers_in e) e.store e.answer

abbrev pub with_flags : ℕ → Settings → Settings
with_flags v s = record { flags = v; mask = s.mask; mode = s.mode }

abbrev pub with_mask : ℕ → Settings → Settings
with_mask v s = record { flags = s.flags; mask = v; mode = s.mode }

abbrev pub with_mode : ℕ → Settings → Settings
with_mode v s = record { flags = s.flags; mask = s.mask; mode = v }

-- the flags after an operation: of those that it governs the raised ones are 1 and the others 0, and all else stays
unfoldable pub flags_of : ℕ → ℕ → ℕ → ℕ
flags_of flags governed raised = bit_or (bit_and flags (2 ^ 32 - 1 - governed)) raised

-- .. register n gets what an operation wrote, and the flags too
abbrev pub result : ℕ → Written → Effect → Effect
result n w e = e then settle (with_flags (flags_of e.settings.flags w.governed w.raised) e.settings) w.raised then write_a n w.value

-- .. flag 128 is set
abbrev pub illegal : Effect → Effect
illegal e = e then settle (with_flags (bit_or e.settings.flags 128) e.settings) 128

-- .. v is stored at p, or n gets the value v that is at p; nothing where p is 0
abbrev pub store : ℕ → ℕ → Effect → Effect
store p v e =
    cond (eqb p 0) e
    (cond (eqb p mask_address) (e then settle (with_mask v e.settings) 0)
    (cond (eqb p mode_address) (e then settle (with_mode v e.settings) 0)
    (e then write_cell p v)))

abbrev pub load : ℕ → ℕ → ℕ → Effect → Effect
load p n v e = cond (eqb p 0) e (e then write_a n v)
