-- What an instruction reads: document 01, 'One step' and 'Addresses'; the host's words: document 02, 2026-05.
use Rattle.std.specs.Prelude.{ℕ, ◌+◌, ◌-◌, ◌*◌, ◌/◌, ◌%◌, cond, List, ltb, eqb, get_or}
use Rattle.half.specs.Half.{extended}
use Rattle.machine.specs.declared.Settings.{Settings}
use Rattle.machine.specs.State.{State, first_special, pc_of}
use Rattle.machine.specs.Addresses.{flags_address, mask_address, mode_address, host_address}
use Rattle.effect.specs.Action.{Value, R, Imm, Extended, Lower, Upper}

-- the PC that an instruction sees: one past its own cell, in 32 bits
abbrev pub next_of : List ℕ → ℕ
next_of regs = (pc_of regs + 1) % 4294967296

-- register i as an operand: R255 is the PC that the instruction sees
unfoldable pub operand_of : List ℕ → ℕ → ℕ
operand_of regs i = cond (eqb i 255) (next_of regs) (get_or regs i 0)

-- Ri, before the step
abbrev pub reg : State → ℕ → ℕ
reg s i = operand_of s.regs i

-- what a value is: Lower and Upper keep the register's other half
abbrev pub value_of : State → Value → ℕ
value_of s (R i) = reg s i
value_of s (Imm x) = x
value_of s (Extended e x) = extended e x
value_of s (Lower i x) = reg s i / 65536 * 65536 + x
value_of s (Upper i x) = x * 65536 + reg s i % 65536

-- the value at a load pointer: a cell, the flags, the mask, the mode or one of the host's words
unfoldable pub behind : List ℕ → Settings → List ℕ → ℕ → ℕ
behind cells s host p =
    cond (ltb p first_special) (get_or cells p 0)
    (cond (eqb p flags_address) s.flags
    (cond (eqb p mask_address) s.mask
    (cond (eqb p mode_address) s.mode (get_or host (p - host_address) 0))))
