-- `float::pattern::is_zero` meets its contract: exponent and fraction are 0 where the pattern without its sign is.
use mathlib.Core.Path.{sym}
use Rattle.float.proofs.Read.{zero_is}
use Rattle.float.proofs.pattern.is_zero.Goals as goal

pub returns : goal.returns
returns c = sym (zero_is c.args.x)
