-- `text::put_decimal` meets its contract: the digits of a tenth of the number, and one digit more.
use Rattle.std.proofs.Common.{◌+◌, ◌/◌, ◌%◌, ◌≤◌, [], ◌∷◌, arith}
use Rattle.text.specs.Text.{decimal}
use Rattle.text.proofs.Adds.{added_then}
use Rattle.text.proofs.Decimal.{decimal_large}
use Rattle.text.proofs.+put_decimal.Goals as goal

pub returns : goal.returns
returns t c =
    let n = c.args.n in
    let h : 10 ≤ n = omega arith in
    rw (decimal_large n h (omega arith))
    (added_then (decimal (n / 10)) ((48 + n % 10) ∷ []) c.put_decimal-last.ensures c.put-2.ensures)
