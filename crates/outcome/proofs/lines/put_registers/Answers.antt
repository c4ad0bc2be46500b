-- `outcome::lines::put_registers` meets its contract: after i turns the lines of the first i registers are put, of at most 16 bytes each.
use Rattle.std.proofs.Common.{rules}
use mathlib.Core.Path.{◌≡◌, refl}
use native.Mathlib.Omega.{arith}
use lib.ListN.{length, take, length-append}
use lib.Seq.{length-take-le, take_all}
use Rattle.text.proofs.Adds.{added_then}
use Rattle.outcome.specs.Told.{registers_text}
use Rattle.outcome.proofs.Registers.{registers_more}
use Rattle.outcome.proofs.lines.put_registers.Goals as goal

pub loop-i-init : goal.loop-i-init
unfolding registers_text
loop-i-init c = record { room = search rules; added = record { end = omega arith; text = refl }; short = omega arith }

pub loop-i-preserved : goal.loop-i-preserved
loop-i-preserved c = let p = c.put_register-end in
    let e = registers_more c.loop-i.i (take 255 c.args.regs.now) in
    record {
      room = omega (arith, p.auto.text, p.ensures.added.end);
      added = rw e (added_then _ _ c.loop-i.invariant.added p.ensures.added);
      short = rw (e, length-append) (omega (arith, p.ensures.short));
    }

pub returns-clause-added : goal.returns-clause-added
returns-clause-added c = rw (take_all c.loop-i.i (take 255 c.args.regs.now) c.loop-i-test.false) at c.loop-i.invariant.added

pub returns-clause-short : goal.returns-clause-short
returns-clause-short c = let s = rw (take_all c.loop-i.i (take 255 c.args.regs.now) c.loop-i-test.false) at c.loop-i.invariant.short in
    let n : length (take 255 c.args.regs.now) ≡ 255 = length-take-le 255 c.args.regs.now (omega arith) in
    omega arith
