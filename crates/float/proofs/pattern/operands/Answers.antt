-- `float::pattern::operands` meets its contract: the test of both says that neither is a NaN's pattern.
use mathlib.Core.Path.{sym, ◌∙◌}
use Rattle.float.proofs.Outcomes.{neither}
use Rattle.float.proofs.pattern.operands.Goals as goal

pub float_from_bits-result : goal.float_from_bits-result
float_from_bits-result c = (neither c.args.x c.args.y (sym c.either_nan.ensures ∙ c.if-either_nan.false)).0

pub float_from_bits-result-else-either_nan : goal.float_from_bits-result-else-either_nan
float_from_bits-result-else-either_nan c = (neither c.args.x c.args.y (sym c.either_nan.ensures ∙ c.if-either_nan.false)).1
