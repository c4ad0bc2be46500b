-- `text::put` meets its contract: what finds no room changes nothing.
use native.Mathlib.Omega.{arith}
use mathlib.Core.Path.{sym, ◌∙◌}
use lib.ListN.{length}
use lib.Seq.{take_all}
use Rattle.text.proofs.Adds.{sets_past, added_part}
use Rattle.text.proofs.put.Goals as goal

pub returns-then-text-at : goal.returns-then-text-at
returns-then-text-at c = record { end = omega arith; text = sym (sets_past c.args.piece.now c.args.text.now c.args.at (omega arith)) }

pub returns-then-piece-left : goal.returns-then-piece-left
returns-then-piece-left c =
    let p = c.args.piece.now in
    added_part _ p _ _ _ (length p) (omega arith) (omega arith) (c.copy_from_slice.ensures.after ∙ sym (take_all (length p) p (omega arith)))

pub returns : goal.returns
returns c = added_part _ _ _ _ _ _ (omega arith) (omega arith) c.copy_from_slice-2.ensures.after
