-- `job::reading::look_at` meets its contract: at each return the tests that led there pick the case, and the payload is the part that is lent on.
use borrow.Author.Tests.{lt-ltb}
use mathlib.Core.Bool.{not}
use mathlib.Core.Path.{sym, ap, ◌∙◌}
use Rattle.job.proofs.Rules.{sized_by}
use Rattle.job.proofs.Walk.{lent_length, fate_unknown, fate_misfit, fate_cut, fate_payload}
use Rattle.job.specs.Job.{fate_of}
use Rattle.job.proofs.reading.look_at.Goals as goal

pub returns-then-left-lt6 : goal.returns-then-left-lt6
unfolding fate_of
returns-then-left-lt6 c = rw (lt-ltb _ _ c.if-left-lt6.true)

pub returns-then-not-known : goal.returns-then-not-known
returns-then-not-known c = fate_unknown _ _ _ _ _ c.row_by-row.ensures c.number.ensures c.if-left-lt6.false _ c.known.ensures (ap not c.if-not-known.true)

pub returns-then-not-fits : goal.returns-then-not-fits
returns-then-not-fits c = fate_misfit _ _ _ _ _ c.row_by-row.ensures c.number.ensures c.if-left-lt6.false _ c.known.ensures (ap not c.if-not-known.false) _ c.number-size.ensures _ c.fits.ensures (ap not c.if-not-fits.true)

pub returns-then-left-end : goal.returns-then-left-end
returns-then-left-end c = fate_cut _ _ _ _ _ c.row_by-row.ensures c.number.ensures c.if-left-lt6.false _ c.known.ensures (ap not c.if-not-known.false) _ c.number-size.ensures _ c.fits.ensures (ap not c.if-not-fits.false) c.if-left-end.true

pub look_in-requires : goal.look_in-requires
look_in-requires c = rw (lent_length _ _ c.if-left-end.false) (sized_by _ _ _ c.row_by-row.ensures (sym c.fits.ensures ∙ c.if-not-fits.false))

pub returns : goal.returns
returns c = fate_payload _ _ _ _ _ c.row_by-row.ensures c.number.ensures c.if-left-lt6.false _ c.known.ensures (ap not c.if-not-known.false) _ c.number-size.ensures _ c.fits.ensures (ap not c.if-not-fits.false) c.if-left-end.false _ c.look_in.ensures
