-- `instruction::carry_out` meets its contract: each arm is the law of its opcode, 80 to 106 are floats, and what is left is reserved.
use mathlib.Core.Path.{refl}
use Rattle.instruction.proofs.Arms.{arm, floats, others}
use Rattle.std.proofs.Common.{inl, inr, ◌⊎◌, ◌<◌, ◌≤◌, arith}
use Rattle.word.specs.Word.{op_of, asked_of}
use Rattle.cell.specs.Cell.{legal, immediate, form_of}
use Rattle.effect.specs.Action.{action_of}
use Rattle.effect.proofs.Opcodes.{registers_at, immediate_at, cpswp, ldst, ldli, ldui, ldliz, ldlise, ldlif, split, fsplit, bz, int}
use Rattle.instruction.proofs.carry_out.Goals as goal
use Rattle.instruction.proofs.carry_out.Goals.{in_default-via-then-this-lt80, in_default-via-else-this-lt80+else-this-lt107}

pub returns-in-0-clause-left : goal.returns-in-0-clause-left
returns-in-0-clause-left c = arm c.args.cell 0 _ _ _ _ _ c.opcode_of.ensures.0 c.in-0.is (cpswp _) (c.swap.ensures.left _ _)

pub returns-in-1-clause-left : goal.returns-in-1-clause-left
returns-in-1-clause-left c = arm c.args.cell 1 _ _ _ _ _ c.opcode_of.ensures.0 c.in-1.is (ldst _) (c.transfer.ensures.left)

pub returns-in-3-clause-left : goal.returns-in-3-clause-left
returns-in-3-clause-left c = arm c.args.cell 3 _ _ _ _ _ c.opcode_of.ensures.0 c.in-3.is (ldli _) (c.load.ensures.left _ _)

pub returns-in-4-clause-left : goal.returns-in-4-clause-left
returns-in-4-clause-left c = arm c.args.cell 4 _ _ _ _ _ c.opcode_of.ensures.0 c.in-4.is (ldui _) (c.load-in-4.ensures.left _ _)

pub returns-in-5-clause-left : goal.returns-in-5-clause-left
returns-in-5-clause-left c = arm c.args.cell 5 _ _ _ _ _ c.opcode_of.ensures.0 c.in-5.is (ldliz _) (c.load-in-5.ensures.left _ _)

pub returns-in-6-clause-left : goal.returns-in-6-clause-left
returns-in-6-clause-left c = arm c.args.cell 6 _ _ _ _ _ c.opcode_of.ensures.0 c.in-6.is (ldlise _) (c.load-in-6.ensures.left _ _)

pub returns-in-7-clause-left : goal.returns-in-7-clause-left
returns-in-7-clause-left c = arm c.args.cell 7 _ _ _ _ _ c.opcode_of.ensures.0 c.in-7.is (ldlif _) (c.load-in-7.ensures.left _ _)

pub returns-in-16-clause-left : goal.returns-in-16-clause-left
unfolding form_of legal immediate action_of asked_of op_of
returns-in-16-clause-left c = arm c.args.cell 16 _ _ _ _ _ c.opcode_of.ensures.0 c.in-16.is (λ e. rw (registers_at c.args.cell 16 e refl)) (c.registers.ensures.left _ _)

pub returns-in-17-clause-left : goal.returns-in-17-clause-left
unfolding form_of legal immediate action_of asked_of op_of
returns-in-17-clause-left c = arm c.args.cell 17 _ _ _ _ _ c.opcode_of.ensures.0 c.in-17.is (λ e. rw (registers_at c.args.cell 17 e refl)) (c.registers-in-17.ensures.left _ _)

pub returns-in-18-clause-left : goal.returns-in-18-clause-left
unfolding form_of legal immediate action_of asked_of op_of
returns-in-18-clause-left c = arm c.args.cell 18 _ _ _ _ _ c.opcode_of.ensures.0 c.in-18.is (λ e. rw (registers_at c.args.cell 18 e refl)) (c.registers-in-18.ensures.left _ _)

pub returns-in-19-clause-left : goal.returns-in-19-clause-left
unfolding form_of legal immediate action_of asked_of op_of
returns-in-19-clause-left c = arm c.args.cell 19 _ _ _ _ _ c.opcode_of.ensures.0 c.in-19.is (λ e. rw (registers_at c.args.cell 19 e refl)) (c.registers-in-19.ensures.left _ _)

pub returns-in-20-clause-left : goal.returns-in-20-clause-left
unfolding form_of legal immediate action_of asked_of op_of
returns-in-20-clause-left c = arm c.args.cell 20 _ _ _ _ _ c.opcode_of.ensures.0 c.in-20.is (λ e. rw (registers_at c.args.cell 20 e refl)) (c.registers-in-20.ensures.left _ _)

pub returns-in-21-clause-left : goal.returns-in-21-clause-left
unfolding form_of legal immediate action_of asked_of op_of
returns-in-21-clause-left c = arm c.args.cell 21 _ _ _ _ _ c.opcode_of.ensures.0 c.in-21.is (λ e. rw (registers_at c.args.cell 21 e refl)) (c.registers-in-21.ensures.left _ _)

pub returns-in-22-clause-left : goal.returns-in-22-clause-left
unfolding form_of legal immediate action_of asked_of op_of
returns-in-22-clause-left c = arm c.args.cell 22 _ _ _ _ _ c.opcode_of.ensures.0 c.in-22.is (λ e. rw (registers_at c.args.cell 22 e refl)) (c.registers-in-22.ensures.left _ _)

pub returns-in-23-clause-left : goal.returns-in-23-clause-left
unfolding form_of legal immediate action_of asked_of op_of
returns-in-23-clause-left c = arm c.args.cell 23 _ _ _ _ _ c.opcode_of.ensures.0 c.in-23.is (λ e. rw (registers_at c.args.cell 23 e refl)) (c.registers-in-23.ensures.left _ _)

pub returns-in-24-clause-left : goal.returns-in-24-clause-left
unfolding form_of legal immediate action_of asked_of op_of
returns-in-24-clause-left c = arm c.args.cell 24 _ _ _ _ _ c.opcode_of.ensures.0 c.in-24.is (λ e. rw (registers_at c.args.cell 24 e refl)) (c.registers-in-24.ensures.left _ _)

pub returns-in-25-clause-left : goal.returns-in-25-clause-left
unfolding form_of legal immediate action_of asked_of op_of
returns-in-25-clause-left c = arm c.args.cell 25 _ _ _ _ _ c.opcode_of.ensures.0 c.in-25.is (λ e. rw (registers_at c.args.cell 25 e refl)) (c.registers-in-25.ensures.left _ _)

pub returns-in-26-clause-left : goal.returns-in-26-clause-left
unfolding form_of legal immediate action_of asked_of op_of
returns-in-26-clause-left c = arm c.args.cell 26 _ _ _ _ _ c.opcode_of.ensures.0 c.in-26.is (λ e. rw (registers_at c.args.cell 26 e refl)) (c.registers-in-26.ensures.left _ _)

pub returns-in-27-clause-left : goal.returns-in-27-clause-left
unfolding form_of legal immediate action_of asked_of op_of
returns-in-27-clause-left c = arm c.args.cell 27 _ _ _ _ _ c.opcode_of.ensures.0 c.in-27.is (λ e. rw (registers_at c.args.cell 27 e refl)) (c.registers-in-27.ensures.left _ _)

pub returns-in-28-clause-left : goal.returns-in-28-clause-left
unfolding form_of legal immediate action_of asked_of op_of
returns-in-28-clause-left c = arm c.args.cell 28 _ _ _ _ _ c.opcode_of.ensures.0 c.in-28.is (λ e. rw (registers_at c.args.cell 28 e refl)) (c.registers-in-28.ensures.left _ _)

pub returns-in-29-clause-left : goal.returns-in-29-clause-left
unfolding form_of legal immediate action_of asked_of op_of
returns-in-29-clause-left c = arm c.args.cell 29 _ _ _ _ _ c.opcode_of.ensures.0 c.in-29.is (λ e. rw (registers_at c.args.cell 29 e refl)) (c.registers-in-29.ensures.left _ _)

pub returns-in-30-clause-left : goal.returns-in-30-clause-left
unfolding form_of legal immediate action_of asked_of op_of
returns-in-30-clause-left c = arm c.args.cell 30 _ _ _ _ _ c.opcode_of.ensures.0 c.in-30.is (λ e. rw (registers_at c.args.cell 30 e refl)) (c.registers-in-30.ensures.left _ _)

pub returns-in-31-clause-left : goal.returns-in-31-clause-left
unfolding form_of legal immediate action_of asked_of op_of
returns-in-31-clause-left c = arm c.args.cell 31 _ _ _ _ _ c.opcode_of.ensures.0 c.in-31.is (λ e. rw (registers_at c.args.cell 31 e refl)) (c.registers-in-31.ensures.left _ _)

pub returns-in-32-clause-left : goal.returns-in-32-clause-left
unfolding form_of legal immediate action_of asked_of op_of
returns-in-32-clause-left c = arm c.args.cell 32 _ _ _ _ _ c.opcode_of.ensures.0 c.in-32.is (λ e. rw (registers_at c.args.cell 32 e refl)) (c.registers-in-32.ensures.left _ _)

pub returns-in-33-clause-left : goal.returns-in-33-clause-left
unfolding form_of legal immediate action_of asked_of op_of
returns-in-33-clause-left c = arm c.args.cell 33 _ _ _ _ _ c.opcode_of.ensures.0 c.in-33.is (λ e. rw (registers_at c.args.cell 33 e refl)) (c.registers-in-33.ensures.left _ _)

pub returns-in-34-clause-left : goal.returns-in-34-clause-left
unfolding form_of legal immediate action_of asked_of op_of
returns-in-34-clause-left c = arm c.args.cell 34 _ _ _ _ _ c.opcode_of.ensures.0 c.in-34.is (λ e. rw (registers_at c.args.cell 34 e refl)) (c.registers-in-34.ensures.left _ _)

pub returns-in-35-clause-left : goal.returns-in-35-clause-left
unfolding form_of legal immediate action_of asked_of op_of
returns-in-35-clause-left c = arm c.args.cell 35 _ _ _ _ _ c.opcode_of.ensures.0 c.in-35.is (λ e. rw (immediate_at c.args.cell 35 e refl)) (c.immediate.ensures.left _ _)

pub returns-in-36-clause-left : goal.returns-in-36-clause-left
unfolding form_of legal immediate action_of asked_of op_of
returns-in-36-clause-left c = arm c.args.cell 36 _ _ _ _ _ c.opcode_of.ensures.0 c.in-36.is (λ e. rw (immediate_at c.args.cell 36 e refl)) (c.immediate-in-36.ensures.left _ _)

pub returns-in-37-clause-left : goal.returns-in-37-clause-left
unfolding form_of legal immediate action_of asked_of op_of
returns-in-37-clause-left c = arm c.args.cell 37 _ _ _ _ _ c.opcode_of.ensures.0 c.in-37.is (λ e. rw (immediate_at c.args.cell 37 e refl)) (c.immediate-in-37.ensures.left _ _)

pub returns-in-38-clause-left : goal.returns-in-38-clause-left
unfolding form_of legal immediate action_of asked_of op_of
returns-in-38-clause-left c = arm c.args.cell 38 _ _ _ _ _ c.opcode_of.ensures.0 c.in-38.is (λ e. rw (immediate_at c.args.cell 38 e refl)) (c.immediate-in-38.ensures.left _ _)

pub returns-in-39-clause-left : goal.returns-in-39-clause-left
unfolding form_of legal immediate action_of asked_of op_of
returns-in-39-clause-left c = arm c.args.cell 39 _ _ _ _ _ c.opcode_of.ensures.0 c.in-39.is (λ e. rw (immediate_at c.args.cell 39 e refl)) (c.immediate-in-39.ensures.left _ _)

pub returns-in-40-clause-left : goal.returns-in-40-clause-left
unfolding form_of legal immediate action_of asked_of op_of
returns-in-40-clause-left c = arm c.args.cell 40 _ _ _ _ _ c.opcode_of.ensures.0 c.in-40.is (λ e. rw (immediate_at c.args.cell 40 e refl)) (c.immediate-in-40.ensures.left _ _)

pub returns-in-41-clause-left : goal.returns-in-41-clause-left
unfolding form_of legal immediate action_of asked_of op_of
returns-in-41-clause-left c = arm c.args.cell 41 _ _ _ _ _ c.opcode_of.ensures.0 c.in-41.is (λ e. rw (immediate_at c.args.cell 41 e refl)) (c.immediate-in-41.ensures.left _ _)

pub returns-in-42-clause-left : goal.returns-in-42-clause-left
unfolding form_of legal immediate action_of asked_of op_of
returns-in-42-clause-left c = arm c.args.cell 42 _ _ _ _ _ c.opcode_of.ensures.0 c.in-42.is (λ e. rw (immediate_at c.args.cell 42 e refl)) (c.immediate-in-42.ensures.left _ _)

pub returns-in-43-clause-left : goal.returns-in-43-clause-left
unfolding form_of legal immediate action_of asked_of op_of
returns-in-43-clause-left c = arm c.args.cell 43 _ _ _ _ _ c.opcode_of.ensures.0 c.in-43.is (λ e. rw (immediate_at c.args.cell 43 e refl)) (c.immediate-in-43.ensures.left _ _)

pub returns-in-44-clause-left : goal.returns-in-44-clause-left
unfolding form_of legal immediate action_of asked_of op_of
returns-in-44-clause-left c = arm c.args.cell 44 _ _ _ _ _ c.opcode_of.ensures.0 c.in-44.is (λ e. rw (immediate_at c.args.cell 44 e refl)) (c.immediate-in-44.ensures.left _ _)

pub returns-in-45-clause-left : goal.returns-in-45-clause-left
unfolding form_of legal immediate action_of asked_of op_of
returns-in-45-clause-left c = arm c.args.cell 45 _ _ _ _ _ c.opcode_of.ensures.0 c.in-45.is (λ e. rw (immediate_at c.args.cell 45 e refl)) (c.immediate-in-45.ensures.left _ _)

pub returns-in-46-clause-left : goal.returns-in-46-clause-left
unfolding form_of legal immediate action_of asked_of op_of
returns-in-46-clause-left c = arm c.args.cell 46 _ _ _ _ _ c.opcode_of.ensures.0 c.in-46.is (λ e. rw (immediate_at c.args.cell 46 e refl)) (c.immediate-in-46.ensures.left _ _)

pub returns-in-47-clause-left : goal.returns-in-47-clause-left
unfolding form_of legal immediate action_of asked_of op_of
returns-in-47-clause-left c = arm c.args.cell 47 _ _ _ _ _ c.opcode_of.ensures.0 c.in-47.is (λ e. rw (immediate_at c.args.cell 47 e refl)) (c.immediate-in-47.ensures.left _ _)

pub returns-in-48-clause-left : goal.returns-in-48-clause-left
unfolding form_of legal immediate action_of asked_of op_of
returns-in-48-clause-left c = arm c.args.cell 48 _ _ _ _ _ c.opcode_of.ensures.0 c.in-48.is (λ e. rw (immediate_at c.args.cell 48 e refl)) (c.immediate-in-48.ensures.left _ _)

pub returns-in-49-clause-left : goal.returns-in-49-clause-left
unfolding form_of legal immediate action_of asked_of op_of
returns-in-49-clause-left c = arm c.args.cell 49 _ _ _ _ _ c.opcode_of.ensures.0 c.in-49.is (λ e. rw (immediate_at c.args.cell 49 e refl)) (c.immediate-in-49.ensures.left _ _)

pub returns-in-50-clause-left : goal.returns-in-50-clause-left
unfolding form_of legal immediate action_of asked_of op_of
returns-in-50-clause-left c = arm c.args.cell 50 _ _ _ _ _ c.opcode_of.ensures.0 c.in-50.is (λ e. rw (immediate_at c.args.cell 50 e refl)) (c.immediate-in-50.ensures.left _ _)

pub returns-in-51-clause-left : goal.returns-in-51-clause-left
unfolding form_of legal immediate action_of asked_of op_of
returns-in-51-clause-left c = arm c.args.cell 51 _ _ _ _ _ c.opcode_of.ensures.0 c.in-51.is (λ e. rw (immediate_at c.args.cell 51 e refl)) (c.immediate-in-51.ensures.left _ _)

pub returns-in-52-clause-left : goal.returns-in-52-clause-left
unfolding form_of legal immediate action_of asked_of op_of
returns-in-52-clause-left c = arm c.args.cell 52 _ _ _ _ _ c.opcode_of.ensures.0 c.in-52.is (λ e. rw (immediate_at c.args.cell 52 e refl)) (c.turned.ensures.left _ _)

pub returns-in-53-clause-left : goal.returns-in-53-clause-left
unfolding form_of legal immediate action_of asked_of op_of
returns-in-53-clause-left c = arm c.args.cell 53 _ _ _ _ _ c.opcode_of.ensures.0 c.in-53.is (λ e. rw (immediate_at c.args.cell 53 e refl)) (c.turned-in-53.ensures.left _ _)

pub returns-in-54-clause-left : goal.returns-in-54-clause-left
returns-in-54-clause-left c = arm c.args.cell 54 _ _ _ _ _ c.opcode_of.ensures.0 c.in-54.is (split _) (c.split.ensures.left _ _)

pub returns-in-107-clause-left : goal.returns-in-107-clause-left
returns-in-107-clause-left c = arm c.args.cell 107 _ _ _ _ _ c.opcode_of.ensures.0 c.in-107.is (fsplit _) (c.split-in-107.ensures.left _ _)

pub returns-in-121-clause-left : goal.returns-in-121-clause-left
returns-in-121-clause-left c = arm c.args.cell 121 _ _ _ _ _ c.opcode_of.ensures.0 c.in-121.is (bz _) (c.branch-step.ensures.left _ _)

pub returns-in-122-clause-left : goal.returns-in-122-clause-left
returns-in-122-clause-left c = arm c.args.cell 122 _ _ _ _ _ c.opcode_of.ensures.0 c.in-122.is (int _) (c.interrupt.ensures.left _ _)

pub returns-in-80-to-106-clause-left : goal.returns-in-80-to-106-clause-left
returns-in-80-to-106-clause-left c = rw (floats _ _ c.opcode_of.ensures.0 (omega arith) (omega arith)) (c.calculated.ensures.left _ _)

pub returns-in_default-clause-left : goal.returns-in_default-clause-left
returns-in_default-clause-left c =
    let near : (c.opcode_of.result < 80) ⊎ (107 ≤ c.opcode_of.result) =
    elim c.in_default.branch [ in_default-via-then-this-lt80 w ↦ inl (omega arith) | in_default-via-else-this-lt80+else-this-lt107 w ↦ inr (omega arith) ]
    in rw (others _ _ c.opcode_of.ensures.0 c.opcode_of.ensures.1 c.in_default-1.rest near) (c.illegal.ensures.left _ _)
