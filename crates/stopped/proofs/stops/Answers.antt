-- `stopped::stops` meets its contract: the test on what was told picks the case, and the two sides of `&` may be turned.
-- Assumes nothing.
use lib.Bits.{and_comm}
use Rattle.std.proofs.Common.{◌<◌, arith}
use Rattle.machine.specs.State.{flags_bound}
use Rattle.packed.specs.Packed.{unpacked_of}
use borrow.Author.Tests.{lt-leb}
use Rattle.stopped.proofs.stops.Goals as goal

pub returns-else-told-ge-INT : goal.returns-else-told-ge-INT
returns-else-told-ge-INT c =
    let a = c.args in
    let below : a.told < flags_bound = omega arith in
    rw (lt-leb _ _ below, c.unpack.ensures, and_comm (unpacked_of a.s).mask a.told)
