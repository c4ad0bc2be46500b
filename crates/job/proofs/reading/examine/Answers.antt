-- `job::reading::examine` meets its contract: the loop's invariant is that what is left of the walk leads where the whole walk leads.
use Rattle.std.proofs.Common.{rules}
use native.Mathlib.Omega.{arith}
use Rattle.job.proofs.Walk.{as_looked, looked_bad, head_there, refused_there, more_after, none_after, further_size, again}
use Rattle.job.proofs.reading.examine.Goals as goal

pub returns-in_err-size : goal.returns-in_err-size
returns-in_err-size c = let b = looked_bad _ _ _ _ c.in_err-size.was c.map_err.ensures.cases in
    refused_there _ _ _ _ c.loop-size.invariant c.look_at.result b.0 c.from_residual.result c.in_err-size.field-0.0 b.1 c.from_residual.ensures.1 (search rules) c.look_at.ensures

pub overflow_add-at : goal.overflow_add-at
overflow_add-at c = let s = further_size _ _ _ _ c.loop-size.invariant _ _ (as_looked _ _ c.args.job.now c.loop-size.at _ _ _ _ _ c.in_ok-size.was c.in-Next.is c.map_err.ensures.cases c.look_at.ensures) in omega arith

pub loop-size-smaller : goal.loop-size-smaller
loop-size-smaller c = let s = further_size _ _ _ _ c.loop-size.invariant _ _ (as_looked _ _ c.args.job.now c.loop-size.at _ _ _ _ _ c.in_ok-size.was c.in-Next.is c.map_err.ensures.cases c.look_at.ensures) in omega arith

pub loop-size-preserved : goal.loop-size-preserved
loop-size-preserved c = again _ _ _ _ c.loop-size.invariant _ _ (as_looked _ _ c.args.job.now c.loop-size.at _ _ _ _ _ c.in_ok-size.was c.in-Next.is c.map_err.ensures.cases c.look_at.ensures)

pub overflow_add-end : goal.overflow_add-end
overflow_add-end c = let s = head_there _ _ _ _ c.loop-size.invariant (as_looked _ _ c.args.job.now c.loop-size.at _ _ _ _ _ c.in_ok-size.was c.in_default.is c.map_err.ensures.cases c.look_at.ensures) in omega arith

pub returns-then-end-job : goal.returns-then-end-job
returns-then-end-job c = more_after _ _ _ _ c.loop-size.invariant (as_looked _ _ c.args.job.now c.loop-size.at _ _ _ _ _ c.in_ok-size.was c.in_default.is c.map_err.ensures.cases c.look_at.ensures) c.if-end-job.true

pub returns : goal.returns
returns c = none_after _ _ _ _ c.loop-size.invariant (as_looked _ _ c.args.job.now c.loop-size.at _ _ _ _ _ c.in_ok-size.was c.in_default.is c.map_err.ensures.cases c.look_at.ensures) c.if-end-job.false
