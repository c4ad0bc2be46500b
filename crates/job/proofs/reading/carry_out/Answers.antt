-- `job::reading::carry_out` meets its contract: the loop's invariant is that the records left lead where all of them lead.
use mathlib.Core.Path.{◌≡◌, refl, ◌∙◌}
use native.Mathlib.Omega.{arith}
use Prim.Native.Nat.{◌+◌, ◌≤◌, ◌-◌}
use lib.ListN.{drop, take, length}
use Rattle.std.proofs.Common.{rules}
use Rattle.job.proofs.Walk.{begin, rest_length, there, ends_there, kind_there, over, size_there, payload_there, record_sound, on}
use Rattle.job.proofs.reading.carry_out.Goals as goal

pub loop-left-init : goal.loop-left-init
loop-left-init c = record { walk = begin _ _ _ refl c.requires; depth = refl }

pub returns-then-ends-clause-content : goal.returns-then-ends-clause-content
returns-then-ends-clause-content c = over _ _ _ _ _ c.loop-left.invariant.walk (ends_there _ _ _ _ (kind_there c.args.job.now c.loop-left.at c.row_by-row.result c.number.result c.row_by-row.ensures c.number.ensures) c.ends.ensures c.if-ends.true)

pub slice_bounds-apply-end : goal.slice_bounds-apply-end
slice_bounds-apply-end c = let t = there _ _ _ _ _ c.loop-left.invariant.walk in
    let n = size_there c.args.job.now c.loop-left.at c.number-in-loop-left.result c.number-in-loop-left.ensures in
    let h : 6 + c.number-in-loop-left.result ≤ length (take (length c.args.job.now - c.loop-left.at) (drop c.loop-left.at c.args.job.now)) = rw (rest_length c.loop-left.at c.args.job.now) (omega arith) in
    search rules

pub apply-requires : goal.apply-requires
apply-requires c = let job = c.args.job.now in
    let at = c.loop-left.at in
    let k = kind_there job at c.row_by-row.result c.number.result c.row_by-row.ensures c.number.ensures in
    let p = payload_there job at c.number-in-loop-left.result (size_there job at c.number-in-loop-left.result c.number-in-loop-left.ensures) in
    let e : length c.loop-left.cells ≡ length c.args.cells.now = c.loop-left.invariant.walk.cells in
    rw (e, k, p) (record_sound _ job _ at _ c.loop-left.invariant.walk)

pub overflow_add-at : goal.overflow_add-at
overflow_add-at c = let t = there _ _ _ _ _ c.loop-left.invariant.walk in
    let n = size_there c.args.job.now c.loop-left.at c.number-in-loop-left.result c.number-in-loop-left.ensures in
    omega (arith, c.loop-left.invariant.walk.inside)

pub loop-left-smaller : goal.loop-left-smaller
loop-left-smaller c = let t = there _ _ _ _ _ c.loop-left.invariant.walk in
    let n = size_there c.args.job.now c.loop-left.at c.number-in-loop-left.result c.number-in-loop-left.ensures in
    omega (arith, c.loop-left.invariant.walk.inside)

pub loop-left-preserved : goal.loop-left-preserved
loop-left-preserved c = let job = c.args.job.now in
    let at = c.loop-left.at in
    let k = kind_there job at c.row_by-row.result c.number.result c.row_by-row.ensures c.number.ensures in
    let n = size_there job at c.number-in-loop-left.result c.number-in-loop-left.ensures in
    let p = payload_there job at c.number-in-loop-left.result n in
    record {
      walk = rw n (on _ _ _ _ _ c.loop-left.invariant.walk (ends_there _ _ _ _ k c.ends.ensures c.if-ends.false) _ (rw (k, p) at c.apply.ensures.content) (search rules));
      depth = c.apply.ensures.depth ∙ c.loop-left.invariant.depth;
    }
