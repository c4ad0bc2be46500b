-- What becomes of an action: the stop that the instruction itself names, and nothing done; or its effect.
use Rattle.std.specs.Prelude.{ℕ}
use Rattle.std.proofs.Math.Option.{Option, none, some}
use Rattle.machine.specs.State.{State}
use Rattle.effect.specs.Parts.{Effect}
use Rattle.effect.specs.Action.{Action}
use Rattle.effect.specs.Effect.{effect_of}
use Rattle.effect.specs.Refusal.{refused_by}

pub data Became : Type 0 where
  refused : ℕ → Became
  does : Effect → Became

abbrev pub became : Option ℕ → Effect → Became
became (some k) e = refused k
became none e = does e

unfoldable pub became_of : Action → State → Became
became_of a s = became (refused_by a s) (effect_of a s)
