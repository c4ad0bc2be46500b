-- `verdict::check_loaded` meets its contract: the tests are the definition's.
use Rattle.verdict.specs.Verdict.{found_in}
use Rattle.verdict.proofs.check_loaded.Goals as goal

pub returns-then-not-is_empty : goal.returns-then-not-is_empty
unfolding found_in
returns-then-not-is_empty c = rw (c.check_cells.ensures, c.length_in.ensures, ← c.is_empty.ensures, c.if-not-is_empty.true)

pub returns-then-not-starts_at_zero : goal.returns-then-not-starts_at_zero
unfolding found_in
returns-then-not-starts_at_zero c = rw (← c.is_empty.ensures, c.if-not-is_empty.false, ← c.starts_at_zero.ensures, c.if-not-starts_at_zero.true)

pub returns : goal.returns
unfolding found_in
returns c = rw (c.check_cells-2.ensures, c.first_count.ensures, ← c.is_empty.ensures, c.if-not-is_empty.false, ← c.starts_at_zero.ensures, c.if-not-starts_at_zero.false)
