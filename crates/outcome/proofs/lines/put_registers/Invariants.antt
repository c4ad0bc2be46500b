-- `outcome::lines::put_registers` meets its contract: after i turns the lines of the first i registers are put, of at most 16 bytes each.
use Prim.Native.Nat.{◌≤◌, ◌*◌}
use lib.ListN.{length, take}
use Rattle.text.specs.Text.{Added}
use Rattle.outcome.specs.Told.{registers_text}
use Rattle.outcome.proofs.lines.put_registers.Given as goal

abbrev pub invariant-loop-i : goal.invariant-loop-i
invariant-loop-i l = record {
  room : l.end ≤ length l.text;
  added : Added l.initial.text l.at (registers_text 0 (take l.i (take 255 l.regs))) l.text l.end;
  short : length (registers_text 0 (take l.i (take 255 l.regs))) ≤ 16 * l.i;
}
