-- `lent::number` meets its contract: what goes past the end adds nothing.
use mathlib.Core.Path.{◌∙◌}
use Prim.Native.Nat.{min}
use Rattle.lent.proofs.Numbers.{number_cut}
use Rattle.lent.proofs.number.Goals as goal

pub returns : goal.returns
returns c =
    let a = c.args in
    c.whole.ensures ∙ number_cut a.bytes.now a.at (min a.width 4) c.least.result c.least-2.result c.least.ensures.0 (rw c.min.ensures at c.least-2.ensures.0)
