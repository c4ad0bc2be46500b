-- `verdict::put_verdict` meets its contract: each verdict has its text.
use mathlib.Core.Path.{◌≡◌}
use Rattle.std.proofs.Common.{rules}
use native.Mathlib.Omega.{arith}
use Rattle.std.specs.Prelude.{Err}
use Rattle.verdict.specs.declared.Unfit.TheVariants.{Refused}
use Rattle.verdict.specs.Told.{told_of}
use Rattle.verdict.proofs.put_verdict.Goals as goal

pub returns-in-Err-Refused : goal.returns-in-Err-Refused
unfolding told_of
returns-in-Err-Refused c =
    let e : c.args.verdict ≡ Err (Refused c.in-Err-Refused.refused) = search rules in
    rw e (record { added = c.put_refused.ensures.added; short = omega (arith, c.put_refused.ensures.short) })
