-- The value that each of 3 to 7 puts into register n, from the code's word for it.
use Rattle.std.specs.Prelude.{ℕ}
use Rattle.effect.specs.Action.{Value}
use Rattle.effect.specs.Action as action
use Rattle.moves.specs.declared.Loaded.{Loaded}
use Rattle.moves.specs.declared.Loaded.TheVariants.{Lower, Upper, Alone, Extended}

abbrev pub loaded_of : Loaded → ℕ → ℕ → Value
loaded_of Lower n imm = action.Lower n imm
loaded_of Upper n imm = action.Upper n imm
loaded_of Alone n imm = action.Imm imm
loaded_of (Extended by) n imm = action.Extended by imm
