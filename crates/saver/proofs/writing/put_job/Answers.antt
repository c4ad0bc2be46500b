-- `saver::writing::put_job` meets its contract: the pieces of a saved job stand one after the other.
use Rattle.std.proofs.Common.{rules}
use mathlib.Core.Path.{◌≡◌}
use mathlib.Core.List.{[]}
use native.Mathlib.Omega.{arith}
use lib.ListN.{length}
use Rattle.saver.specs.Saving.{saved_of}
use Rattle.saver.proofs.Pieces.{stored_then, stored_end, runs_short, setup_short, host_length, job_short}
use Rattle.saver.proofs.writing.put_job.Goals as goal

pub put_runs-values-requires : goal.put_runs-values-requires
put_runs-values-requires c = (c.requires, omega (arith, runs_short c.args.cells.now [] 0))

pub put_values-setup-requires : goal.put_values-setup-requires
put_values-setup-requires c = let a = c.args in
    let n : length a.machine.now.regs ≡ 256 = search rules in
    omega (arith, job_short a.cells.now a.machine.now.regs c.requires n, c.put_runs-values.ensures.end)

pub put_setup-host-requires : goal.put_setup-host-requires
put_setup-host-requires c = let a = c.args in
    let n : length a.machine.now.regs ≡ 256 = search rules in
    omega (arith, job_short a.cells.now a.machine.now.regs c.requires n, c.put_runs-values.ensures.end, c.put_values-setup.ensures.end)

pub put_host-end-requires : goal.put_host-end-requires
put_host-end-requires c = let a = c.args in
    let n : length a.machine.now.regs ≡ 256 = search rules in
    omega (arith, job_short a.cells.now a.machine.now.regs c.requires n, setup_short a.machine.now.settings, c.put_runs-values.ensures.end, c.put_values-setup.ensures.end, c.put_setup-host.ensures.end)

pub put_head-requires : goal.put_head-requires
put_head-requires c = let a = c.args in
    let n : length a.machine.now.regs ≡ 256 = search rules in
    let w : length a.machine.now.host ≡ 5 = search rules in
    omega (arith, job_short a.cells.now a.machine.now.regs c.requires n, setup_short a.machine.now.settings, host_length a.machine.now.host w, c.put_runs-values.ensures.end, c.put_values-setup.ensures.end, c.put_setup-host.ensures.end, c.put_host-end.ensures.end)

pub returns : goal.returns
unfolding saved_of
returns c = stored_then _ _ (stored_then _ _ (stored_then _ _ (stored_then _ _ c.put_runs-values.ensures c.put_values-setup.ensures) c.put_setup-host.ensures) c.put_host-end.ensures) (stored_end 4 c.put_head.ensures)
