-- What document 01 says that `runjob` prints, by computation.
use mathlib.Core.Path.{◌≡◌, refl}
use mathlib.Core.List.{[]}
use mathlib.Core.Option.{or_else}
use Rattle.half.specs.Half.{se_of, ex_of}
use Rattle.word.specs.Word.{written_of, op_of, asked_of}
use Rattle.cell.specs.Cell.{legal, immediate, form_of, decode_of}
use Rattle.text.specs.Text.{bytes, digits, decimal}
use Rattle.effect.specs.Action.{action_of}
use Rattle.effect.specs.Operands.{operand_of, behind}
use Rattle.effect.specs.Parts.{flags_of}
use Rattle.effect.specs.Effect.{effect_of}
use Rattle.effect.specs.Refusal.{refused_by}
use Rattle.machine.specs.State.{fresh_machine, entries_in, capacity_of}
use Rattle.journal.specs.Journal.{regs_after, cells_after, settings_after, entry_of}
use Rattle.step.specs.Step.{refusal_of, effect_in, course_of, step_of}
use Rattle.call.specs.Calls.{run_from, check_of}
use Rattle.lent.specs.Little.{little_of, number_at}
use Rattle.job.specs.Job.{row_by, words_of, in_order, fate_of, refusal_from, content_from, refusal_in}
use Rattle.intake.specs.Intake.{taken_of}
use Rattle.outcome.specs.Outcome.{outcome_of}
use Rattle.outcome.specs.Told.{registers_text, ran_text, text_of}
use Rattle.outcome.specs.Printed.{printed_job}

pub empty_input : text_of [] ≡ bytes "refused 41 at 0\n"
unfolding digits decimal fate_of refusal_from refusal_in taken_of outcome_of text_of
empty_input = refl

pub printed_job_lem : text_of printed_job ≡ bytes "exit 1 steps 3 pc 4294901763 flags 256\nR1 5\n"
unfolding or_else se_of ex_of written_of op_of asked_of legal immediate form_of decode_of digits decimal action_of operand_of behind flags_of effect_of refused_by capacity_of entries_in fresh_machine regs_after cells_after settings_after entry_of refusal_of effect_in course_of step_of run_from check_of little_of number_at row_by words_of in_order fate_of refusal_from content_from refusal_in registers_text ran_text taken_of outcome_of text_of printed_job
printed_job_lem = refl
