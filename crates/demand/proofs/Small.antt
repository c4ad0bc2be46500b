-- The twelve small cases, by computation over the whole table.
-- Assumes nothing.
use mathlib.Core.Path.{◌≡◌, refl}
use mathlib.Core.Bool.{true}
use mathlib.Core.Option.{or_else}
use Rattle.half.specs.Half.{se_of, ex_of}
use Rattle.word.specs.Word.{written_of, op_of, asked_of}
use Rattle.cell.specs.Cell.{legal, immediate, form_of, decode_of}
use Rattle.text.specs.Text.{digits, decimal}
use Rattle.mnemonic.specs.Mnemonic.{mnemonics, word_of}
use Rattle.line.specs.Line.{line_of}
use Rattle.effect.specs.Action.{action_of}
use Rattle.effect.specs.Operands.{operand_of, behind}
use Rattle.effect.specs.Parts.{flags_of}
use Rattle.effect.specs.Effect.{effect_of}
use Rattle.effect.specs.Refusal.{wild, refused_by}
use Rattle.machine.specs.State.{entries_in, capacity_of}
use Rattle.journal.specs.Journal.{regs_after, cells_after, settings_after, entry_of}
use Rattle.step.specs.Step.{refusal_of, effect_in, course_of, step_of}
use Rattle.call.specs.Calls.{run_from, check_of}
use Rattle.demand.specs.Cases.{cases, holds, all}

pub small_cases : all holds cases ≡ true
unfolding all cases holds se_of ex_of written_of op_of asked_of legal immediate form_of decode_of digits decimal mnemonics word_of line_of action_of operand_of behind flags_of effect_of wild refused_by capacity_of entries_in regs_after cells_after settings_after entry_of refusal_of effect_in course_of step_of run_from check_of or_else
small_cases = refl
