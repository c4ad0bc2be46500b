-- `profile::first_bad` meets its contract: what is left to check gives the answer of the whole.
use Rattle.profile.proofs.Cells.{bad, from_start, next, at_end}
use Rattle.profile.proofs.first_bad.Goals as goal

pub returns-then-l-eq0 : goal.returns-then-l-eq0
returns-then-l-eq0 c = bad _ _ c.then-l-eq0.either

pub loop-place-init : goal.loop-place-init
loop-place-init c = from_start _ _ c.if-l-eq0.false c.if-cells-l.false

pub returns-in-Err : goal.returns-in-Err
returns-in-Err c = rw (← c.loop-place.invariant, next _ _ _ c.loop-place-test.true, ← c.judge.ensures, c.in-Err.is)

pub loop-place-preserved : goal.loop-place-preserved
loop-place-preserved c = rw (next _ _ _ c.loop-place-test.true, ← c.judge.ensures, c.in_default.is) at c.loop-place.invariant

pub returns : goal.returns
returns c = let e = at_end _ _ _ c.if-cells-l.false c.loop-place-test.false in cc
