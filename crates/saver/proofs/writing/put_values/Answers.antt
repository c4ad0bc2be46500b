-- `saver::writing::put_values` meets its contract: each turn stores one register's record, and what is left to store leads where the whole leads.
use native.Mathlib.Omega.{arith}
use Rattle.std.proofs.Common.{rules}
use mathlib.Core.Path.{◌≡◌}
use lib.ListN.{length}
use Rattle.saver.proofs.Pieces.{left_turn, left_fits, left_over, values_turn, values_over}
use Rattle.saver.proofs.writing.put_values.Goals as goal

pub put_value-next-requires : goal.put_value-next-requires
put_value-next-requires c = let n : length c.args.regs.now ≡ 256 = search rules in
    (omega arith, left_fits (values_turn c.args.regs.now c.loop-i.i (omega arith)) c.loop-i.invariant c.requires)

pub loop-i-preserved : goal.loop-i-preserved
loop-i-preserved c = let n : length c.args.regs.now ≡ 256 = search rules in
    left_turn (values_turn c.args.regs.now c.loop-i.i (omega arith)) c.loop-i.invariant c.put_value-next.ensures

pub returns : goal.returns
returns c = let n : length c.args.regs.now ≡ 256 = search rules in left_over (values_over c.args.regs.now c.loop-i.i (omega arith)) c.loop-i.invariant
