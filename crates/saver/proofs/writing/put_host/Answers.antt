-- `saver::writing::put_host` meets its contract: the record is its head and the words, one after the other.
use Rattle.std.proofs.Common.{rules}
use mathlib.Core.Path.{◌≡◌}
use lib.ListN.{length}
use native.Mathlib.Omega.{arith}
use Rattle.saver.proofs.Pieces.{stored_record, head_length, host_record, host_payload}
use Rattle.saver.proofs.writing.put_host.Goals as goal

pub put_words-requires : goal.put_words-requires
put_words-requires c = let n : length c.args.words.now ≡ 5 = search rules in omega (arith, c.requires, c.put_head-head.ensures.end, head_length 20 5, host_payload c.args.words.now n)

pub returns : goal.returns
returns c = let n : length c.args.words.now ≡ 5 = search rules in rw (host_record c.args.words.now) (stored_record 5 20 _ (host_payload c.args.words.now n) c.put_head-head.ensures c.put_words.ensures)
