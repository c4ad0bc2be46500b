-- What only the contracts of private functions cite: nothing here is promised.
use Rattle.std.specs.Prelude.{ℕ, ◌<◌, ◌≡◌, Bool, true, ◌||◌}
use Rattle.word.specs.declared.Written.{Written}
use Rattle.machine.specs.State.{State, flags_bound}
use Rattle.cell.specs.Cell.{within}
use Rattle.effect.specs.Action.{Value, calculation}
use Rattle.effect.specs.Operands.{value_of}
use Rattle.effect.specs.Parts.{still, ◌then◌, result}
use Rattle.effect.specs.Becomes.{does, became_of}

-- the float opcodes that run
abbrev pub runs_of : ℕ → Bool
runs_of opcode = within 80 83 opcode || within 89 90 opcode || within 93 96 opcode || within 102 104 opcode

-- w is what a float opcode that runs writes of values that are x and y, where the mode is 3, and no flag of it is past the bound
pub record Writes (opcode x y : ℕ) (w : Written) : Type 0 where
  pub done : (s : State) (n : ℕ) (a b : Value) → value_of s a ≡ x → value_of s b ≡ y → runs_of opcode ≡ true → s.settings.mode ≡ 3
      → became_of (calculation opcode n a b) s ≡ does (still s then result n w)
  pub governed : w.governed < flags_bound
  pub raised : w.raised < flags_bound
