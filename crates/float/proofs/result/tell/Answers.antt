-- `float::result::tell` meets its contract: a NaN means an invalid operation.
use mathlib.Core.Path.{sym, ◌∙◌}
use Rattle.float.proofs.Outcomes.{told_of_nan, means_invalid, means_value}
use Rattle.float.proofs.result.tell.Goals as goal

pub returns-then-is_nan : goal.returns-then-is_nan
returns-then-is_nan c = means_invalid (told_of_nan c.args.r (sym c.is_nan.ensures.value ∙ c.if-is_nan.true))

pub returns-else-is_nan : goal.returns-else-is_nan
returns-else-is_nan c = means_value c.args.r (sym c.is_nan.ensures.value ∙ c.if-is_nan.false)
