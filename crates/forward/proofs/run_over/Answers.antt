-- `forward::run_over` meets its contract: the invariant holds at first and is kept by each step, and each return is the run's end.
use Rattle.std.proofs.Common.{rules}
use mathlib.Core.Path.{sym, ◌∙◌}
use native.Mathlib.Omega.{arith}
use Rattle.forward.proofs.Loop.{fixed_first, nothing, set_out, bounds, part_room, same_code, spent, all_done, barred, again, halted}
use Rattle.forward.proofs.run_over.Goals as goal
use Rattle.forward.proofs.run_over.Goals.{else-told-gt0-via-then-told-gt0+else-stops, else-told-gt0-via-else-told-gt0}

pub loop-left-init : goal.loop-left-init
loop-left-init c = (
  fixed_first _ _ _ _ _ _ _ _ _ c.lesser-total.ensures c.requires.1 c.requires.2 c.limit_of-limit.ensures c.guard_of-guard.ensures c.requires.3,
  set_out (search rules) c.requires.0,
)

pub overflow_sub-done : goal.overflow_sub-done
overflow_sub-done c = let i = c.loop-left.invariant in omega (arith, i.1.few)

pub finish-requires : goal.finish-requires
finish-requires c =
    let i = c.loop-left.invariant in
    let b = bounds i.0 i.1 in
    (omega arith, omega arith)

pub refused-requires : goal.refused-requires
refused-requires c =
    let i = c.loop-left.invariant in
    let b = bounds i.0 i.1 in
    omega (arith, i.1.few, c.loop-left-test.true)

pub returns-then-writes_code : goal.returns-then-writes_code
returns-then-writes_code c =
    let i = c.loop-left.invariant in
    let p = c.index_of-p.ensures in
    (barred i.0 i.1 c.loop-left-test.true (rw p at c.if-limit-p.false) (rw p) (sym c.writes_code.ensures ∙ c.if-writes_code.true) _ (c.refused.ensures _ _ _ _))

pub halt-requires : goal.halt-requires
halt-requires c =
    let i = c.loop-left.invariant in
    let b = bounds i.0 i.1 in
    (omega (arith, i.1.few, c.loop-left-test.true), sym c.stops.ensures ∙ c.if-stops.true)

pub returns-then-stops : goal.returns-then-stops
returns-then-stops c =
    let i = c.loop-left.invariant in
    let p = c.index_of-p.ensures in
    (halted i.0 i.1 c.loop-left-test.true (rw p at c.if-limit-p.false) (rw p) (sym c.writes_code.ensures ∙ c.if-writes_code.false) c.carry-settings.ensures _ (λ rest. c.halt.ensures rest _ _ _))

pub loop-left-preserved : goal.loop-left-preserved
loop-left-preserved c =
    let i = c.loop-left.invariant in
    let p = c.index_of-p.ensures in
    let on = again i.0 i.1 c.loop-left-test.true (rw p at c.if-limit-p.false) (rw p) (sym c.writes_code.ensures ∙ c.if-writes_code.false) c.carry-settings.ensures in
    elim c.else-told-gt0.branch [
      | else-told-gt0-via-then-told-gt0+else-stops w ↦ (i.0, on (sym w.stops.ensures ∙ w.if-stops.false) (search rules) (search rules))
      | else-told-gt0-via-else-told-gt0 w ↦ let n = nothing _ c.carry-settings.result.0 w.if-told-gt0.false in (i.0, on n.1 (search rules) (search rules))
    ]

pub finish-requires-2 : goal.finish-requires-2
finish-requires-2 c =
    let i = c.loop-left.invariant in
    let b = bounds i.0 i.1 in
    (omega arith, omega arith)

pub returns : goal.returns
returns c =
    let i = c.loop-left.invariant in
    let over = c.loop-left-test.false in
    (all_done i.0 i.1 over _
    (c.finish-2.ensures _ _ _ (same_code i.0 i.1) (spent i.0 i.1 over)))

pub slice_bounds-part-end : goal.slice_bounds-part-end
slice_bounds-part-end c =
    let i = c.loop-left.invariant in
    part_room i.0 i.1 c.loop-left-test.true
