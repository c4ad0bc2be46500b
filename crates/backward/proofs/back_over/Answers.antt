-- `backward::back_over` meets its contract: the loop's invariant is that what is left of going back leads where the whole leads.
use Rattle.std.proofs.Common.{rules}
use Prim.Native.Nat.{◌≤◌, ◌<◌, min}
use mathlib.Core.Path.{◌≡◌, ◌∙◌}
use mathlib.Core.List.{[]}
use native.Mathlib.Omega.{arith}
use lib.ListN.{length}
use Rattle.machine.specs.State.{fresh_settings}
use Rattle.backward.proofs.Returns.{turn_round, over, within, breaks_off, stays, again}
use Rattle.backward.proofs.back_over.Goals as goal
use Rattle.backward.proofs.back_over.Goals.{In-loop-count}

-- there is a step to take back
below : (c : In-loop-count) → c.loop-count.count < min c.args.number c.args.depth
below c = omega (arith, c.lesser-total.ensures)

-- and its entry is in the journal
ends : (c : In-loop-count) → (8 ≤ c.loop-count.at) × (c.loop-count.at ≤ length c.args.journal.now)
ends c = within (c.loop-count.invariant fresh_settings []) (below c) c.requires

pub loop-count-init : goal.loop-count-init
loop-count-init c = λ s host. turn_round

pub overflow_sub-from : goal.overflow_sub-from
overflow_sub-from c = (ends c).0

pub offset_bounds-journal-from : goal.offset_bounds-journal-from
offset_bounds-journal-from c = let h = ends (goal.at.offset_bounds-journal-from c).In-loop-count in search rules

pub slice_bounds-entry_in-end : goal.slice_bounds-entry_in-end
slice_bounds-entry_in-end c = let h = ends (goal.at.slice_bounds-entry_in-end c).In-loop-count in search rules

pub returns-then-is_err-clause-none : goal.returns-then-is_err-clause-none
returns-then-is_err-clause-none c =
    let done = c.take_back.ensures in
    stays (c.loop-count.invariant fresh_settings []) (below (goal.at.returns-then-is_err-clause-none c).In-loop-count) c.requires c.entry_in.ensures done.whole done.restored done.cells (rw (c.is_err.ensures.negation, c.if-is_err.true))

pub returns-then-is_err-clause-left : goal.returns-then-is_err-clause-left
returns-then-is_err-clause-left c =
    let done = c.take_back.ensures in
    λ s host. breaks_off (c.loop-count.invariant s host) (below (goal.at.returns-then-is_err-clause-left c).In-loop-count) c.requires c.entry_in.ensures done.whole done.restored done.cells (rw (c.is_err.ensures.negation, c.if-is_err.true))

pub loop-count-preserved : goal.loop-count-preserved
loop-count-preserved c =
    let done = c.take_back.ensures in
    λ s host. again (c.loop-count.invariant s host) (below (goal.at.loop-count-preserved c).In-loop-count) c.requires c.entry_in.ensures done.whole done.restored done.cells (rw (c.is_err.ensures.negation, c.if-is_err.false))

pub returns-clause-none : goal.returns-clause-none
returns-clause-none c =
    let all : c.loop-count.count ≡ c.lesser-total.result = omega arith in
    λ z. (c.loop-count.invariant fresh_settings []).first (all ∙ z)

pub returns-clause-left : goal.returns-clause-left
returns-clause-left c =
    let all : c.loop-count.count ≡ c.lesser-total.result = omega arith in
    λ s host. rw c.stop_of.ensures (over (rw all at (c.loop-count.invariant s host)) c.lesser-total.ensures)
