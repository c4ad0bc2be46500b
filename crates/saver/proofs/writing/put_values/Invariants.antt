-- `saver::writing::put_values` meets its contract: each turn stores one register's record, and what is left to store leads where the whole leads.
use lib.ListN.{drop}
use Rattle.saver.specs.Saving.{values_from}
use Rattle.saver.proofs.Pieces.{Left}
use Rattle.saver.proofs.writing.put_values.Given as goal

abbrev pub invariant-loop-i : goal.invariant-loop-i
invariant-loop-i l = Left l.initial.room l.at (values_from 0 l.regs) l.room l.next (values_from l.i (drop l.i l.regs))
