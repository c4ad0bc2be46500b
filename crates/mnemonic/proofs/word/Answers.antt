-- `mnemonic::word` meets its contract: the table is that of the words.
use mathlib.Core.List.{[]}
use mathlib.Core.Path.{sym}
use Rattle.mnemonic.specs.Mnemonic.{mnemonics}
use Rattle.mnemonic.proofs.Words.{words, now_at, word_at, word_past}
use Rattle.mnemonic.proofs.word.Goals as goal

pub returns-then-x-lt123 : goal.returns-then-x-lt123
unfolding words mnemonics
returns-then-x-lt123 c = rw now_at (word_at c.args.opcode [] c.if-x-lt123.true)

pub returns-else-x-lt123 : goal.returns-else-x-lt123
returns-else-x-lt123 c = sym (word_past c.args.opcode c.if-x-lt123.false)
