-- `verdict::found::length_in` meets its contract: the digits that are left give the number of the whole.
use mathlib.Core.Path.{sym, ◌∙◌}
use native.Mathlib.Omega.{arith}
use Rattle.verdict.proofs.Numbers.{read_on, read_no_more, at_end}
use Rattle.verdict.proofs.found.length_in.Goals as goal

pub loop-b-preserved : goal.loop-b-preserved
loop-b-preserved c = let r = read_on c.args.most c.loop-b.value c.loop-b.b-index c.args.argument.now c.in-Some.next (omega arith) c.in-Some.ensures in
    record { fits = r.0; rest = r.1 ∙ c.loop-b.invariant.rest }

pub returns-in-None : goal.returns-in-None
returns-in-None c = read_no_more c.args.most c.loop-b.value c.loop-b.b-index c.args.argument.now (omega arith) c.in-None.ensures ∙ c.loop-b.invariant.rest

pub returns : goal.returns
returns c = sym (at_end c.args.most c.loop-b.value c.loop-b.b-index c.args.argument.now (omega arith)) ∙ c.loop-b.invariant.rest
