-- `float::pattern::is_nan` meets its contract: above infinity, without the sign, stand the NaNs.
use mathlib.Core.Path.{sym, ◌∙◌}
use lib.Ieee as Ieee
use lib.Ieee.Bits.{nan_bits_above}
use Rattle.float.proofs.Read.{nan_is}
use Rattle.float.proofs.pattern.is_nan.Goals as goal

pub returns : goal.returns
returns c = sym (nan_is c.args.x ∙ nan_bits_above Ieee.binary32 c.args.x)
