-- `outcome::lines::put_ran` meets its contract: the line of the run, and then those of the registers.
use lib.ListN.{take}
use Rattle.machine.specs.State.{pc_of}
use Rattle.text.proofs.Adds.{added_then}
use Rattle.outcome.specs.Told.{exit_text, registers_text, ran_text}
use Rattle.outcome.proofs.Lengths.{both_short}
use Rattle.outcome.proofs.lines.put_ran.Goals as goal

pub returns : goal.returns
unfolding ran_text
returns c = let a = c.args in
    rw (← c.number.ensures)
    (record {
      added = added_then _ _ c.put_exit-a.ensures.added c.put_registers.ensures.added;
      short =
          both_short (exit_text c.number.result a.ran.now.count (pc_of a.ran.now.machine.regs) a.ran.now.machine.settings.flags) (registers_text 0 (take 255 a.ran.now.machine.regs))
          c.put_exit-a.ensures.short
          c.put_registers.ensures.short;
    })
