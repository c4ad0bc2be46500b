-- `float::pattern::is_finite` meets its contract: the exponent is not all ones.
use mathlib.Core.Path.{sym}
use Rattle.float.proofs.Read.{finite_is}
use Rattle.float.proofs.pattern.is_finite.Goals as goal

pub returns : goal.returns
returns c = sym (finite_is c.args.x)
