-- `profile::judge` meets its contract: a reserved cell is illegal, and of another the tests decide.
use mathlib.Core.Path.{◌≡◌, sym, ◌∙◌}
use Rattle.std.specs.Prelude.{Ok}
use native.Mathlib.Omega.{arith}
use Rattle.profile.proofs.Tests.{both, reserved_flawed, float_cell, int_cell, branch_cell, swap_cell, split_cell, end_cell, other_cell}
use Rattle.cell.specs.Cell.{n_of, m_of, l_of}
use Rattle.profile.specs.Profile.{into, judged_of}
use Rattle.profile.proofs.judge.Goals as goal
use Rattle.profile.proofs.judge.Goals.{in_default-opcode-via-in-4+else-imm, in_default-opcode-via-in_default+then-opcode-lt80, in_default-opcode-via-in_default+else-opcode-lt80+else-opcode-lt107}

pub returns-in-Reserved : goal.returns-in-Reserved
returns-in-Reserved c = reserved_flawed _ _ _ c.opcode_of-opcode.ensures.0 c.form_of.ensures c.in-Reserved.is

pub returns-in-80-to-106 : goal.returns-in-80-to-106
returns-in-80-to-106 c = sym (float_cell _ _ _ (omega arith) c.opcode_of-opcode.ensures.0 c.form_of.ensures c.in_default.not-Reserved (omega arith) (omega arith))

pub returns-in-122 : goal.returns-in-122
returns-in-122 c = sym (int_cell _ _ _ (omega arith) c.opcode_of-opcode.ensures.0 c.form_of.ensures c.in_default.not-Reserved c.in-122.is)

pub returns-in-121 : goal.returns-in-121
returns-in-121 c = let e = branch_cell _ _ _ (omega arith) c.opcode_of-opcode.ensures.0 c.form_of.ensures c.in_default.not-Reserved c.in-121.is in cc

pub returns-in-0 : goal.returns-in-0
returns-in-0 c = let e = swap_cell _ _ _ (omega arith) c.opcode_of-opcode.ensures.0 c.form_of.ensures c.in_default.not-Reserved c.in-0.is in
    c.and.ensures ∙ rw (c.aim.ensures, c.aim-in-0.ensures, c.n_of-n.ensures.0, c.l_of-l.ensures.0) (both (n_of c.args.cell) (l_of c.args.cell) ∙ sym e)

pub returns-in-54 : goal.returns-in-54
returns-in-54 c = let e = split_cell _ _ _ (omega arith) c.opcode_of-opcode.ensures.0 c.form_of.ensures c.in_default.not-Reserved c.in-54.is in
    c.and-in-54.ensures ∙ rw (c.aim-in-54.ensures, c.aim-in-54-2.ensures, c.m_of-m.ensures.0, c.l_of-l.ensures.0) (both (m_of c.args.cell) (l_of c.args.cell) ∙ sym e)

pub returns-in-4 : goal.returns-in-4
returns-in-4 c = sym (end_cell _ _ _ (omega arith) c.opcode_of-opcode.ensures.0 c.form_of.ensures c.in_default.not-Reserved c.in-4.is (omega arith))

pub returns-in_default-opcode : goal.returns-in_default-opcode
returns-in_default-opcode c =
    let other = other_cell _ _ _ (omega arith) c.opcode_of-opcode.ensures.0 c.form_of.ensures c.in_default.not-Reserved in
    let e : judged_of c.args.cell ≡ into (n_of c.args.cell) (Ok tt) =
    elim c.in_default-opcode.branch [
      | in_default-opcode-via-in-4+else-imm w ↦ other (λ low high. omega arith) (λ q. omega arith) (λ q. omega arith) (λ q. omega arith) (λ q. grind arith) (λ q. grind arith) (λ q i. omega arith)
      | in_default-opcode-via-in_default+then-opcode-lt80 w ↦ other (λ low high. omega arith) (λ q. omega arith) (λ q. omega arith) (λ q. omega arith) (λ q. grind arith) (λ q. grind arith) (λ q i. omega arith)
      | in_default-opcode-via-in_default+else-opcode-lt80+else-opcode-lt107 w ↦ other (λ low high. omega arith) (λ q. omega arith) (λ q. omega arith) (λ q. omega arith) (λ q. grind arith) (λ q. grind arith) (λ q i. omega arith)
    ] in
    c.aim-in_default-opcode.ensures ∙ rw c.n_of-n.ensures.0 (sym e)
