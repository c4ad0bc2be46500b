-- `job::reading::put_run` meets its contract: stores into the part that is lent are stores into the whole.
use Rattle.job.proofs.Rules.{within_cells}
use Rattle.job.proofs.Words.{lent_words}
use Rattle.job.specs.Job.{count_of}
use Rattle.job.proofs.reading.put_run.Goals as goal

pub returns : goal.returns
returns c = rw (← c.number-base.ensures)
    (lent_words c.args.cells.now c.args.payload.now c.number-base.result (count_of c.args.payload.now) _ (rw (← c.number-base.ensures) at (within_cells _ c.args.payload.now c.requires)) c.put_words.ensures)
