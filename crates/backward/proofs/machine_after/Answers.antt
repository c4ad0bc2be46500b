-- `backward::machine_after` meets its contract: after no step back the machine is m, and after some the last entry taken back tells PC and settings.
use Rattle.std.proofs.Common.{rules}
use Prim.Native.Nat.{◌+◌, ◌-◌, ◌*◌, ◌≤◌}
use mathlib.Core.Path.{◌≡◌, refl}
use native.Mathlib.Omega.{arith}
use lib.ListN.{length}
use Rattle.journal.proofs.Room.{entries}
use Rattle.backward.specs.Reached.{reached}
use Rattle.backward.proofs.Turns.{last_taken}
use Rattle.backward.proofs.machine_after.Goals as goal

pub returns-then-undone-eq0 : goal.returns-then-undone-eq0
unfolding reached
returns-then-undone-eq0 c = λ cells. rw c.if-undone-eq0.true

pub slice_bounds-entry_in-end : goal.slice_bounds-entry_in-end
slice_bounds-entry_in-end c =
    let a = c.args in
    let some : (a.undone ≡ 0 → ⊥) = c.if-undone-eq0.false in
    let fits : 8 * (a.m.depth - a.undone) + 8 ≤ length a.journal.now = omega (arith, some, entries a.journal.now a.m.depth c.requires.1) in
    search rules

pub returns : goal.returns
returns c = λ cells.
    let a = c.args in
    let some : (a.undone ≡ 0 → ⊥) = c.if-undone-eq0.false in
    let at = 8 * (a.m.depth - a.undone) in
    rw (c.unpack.ensures, last_taken a.m a.m.regs cells a.journal.now a.undone at (at + 8 - at) _ some c.requires.0 c.requires.1 refl (omega arith) c.entry_in-e.ensures)
