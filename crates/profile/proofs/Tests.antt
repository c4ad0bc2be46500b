-- What a profile says of a cell, as tests on its opcode: one table of all 256 opcodes shows that they are the definition's.
-- Assumes nothing.
use Prim.Native.Nat.{ℕ, ◌^◌, ◌≤◌, ◌<◌}
use mathlib.Core.Path.{◌≡◌, refl, sym, ◌∙◌}
use mathlib.Core.Bool.{Bool, true, false, cond, ◌&&◌, ◌||◌}
use mathlib.Core.Logic.{◌⊎◌, inl, inr, ⊎_elim}
use borrow.Author.Tests.{le-leb, lt-leb, ne_eqb}
use Rattle.std.proofs.lemmas.Bool.Decides.{leb_tells, eqb_tells}
use Rattle.std.specs.Result.{result_and}
use native.Mathlib.Omega.{arith}
use lib.Dec.{leb, eqb}
use Rattle.word.specs.Word.{op_of, asked_of}
use Rattle.cell.specs.declared.Form.{Form}
use Rattle.cell.specs.declared.Form.TheVariants as form
use Rattle.cell.specs.Cell.{legal, immediate, form_of, opcode_of, n_of, m_of, l_of, imm_of, decode_of}
use Rattle.effect.specs.Action.{action_of}
use Rattle.effect.proofs.Forms.{is_reserved, read, read_as, reserved_illegal}
use Rattle.profile.specs.declared.Flaw.TheVariants as flaw
use Rattle.std.specs.Prelude.{Result, Ok, Err, ⊤}
use Rattle.profile.specs.declared.Flaw.{Flaw}
use Rattle.profile.specs.Profile.{into, ahead, judged_by, judged_of}
use Rattle.profile.proofs.Table.{table, agree}

-- the opcode x with any operands: the tests on a legal one, and the definition
module _ (n m l imm c : ℕ) where
  abbrev pub tests : ℕ → Result ⊤ Flaw
  tests x =
      cond (leb 80 x && leb x 106) (Err flaw.Float)
      (cond (eqb x 122) (Err flaw.Int)
      (cond (eqb x 121) (ahead imm)
      (cond (eqb x 0) (into n (into l (Ok tt)))
      (cond (eqb x 54 || eqb x 107) (into m (into l (Ok tt)))
      (cond (eqb x 4 && eqb imm 65535) (Ok tt) (into n (Ok tt)))))))

  abbrev tested : ℕ → Result ⊤ Flaw
  tested x = cond (is_reserved (form_of x)) (Err flaw.Reserved) (tests x)

  abbrev judged : ℕ → Result ⊤ Flaw
  judged x = judged_by (action_of (read n m l imm c (form_of x) x))

  one_table : table judged 256 ≡ table tested 256
  unfolding form_of legal immediate action_of asked_of op_of judged_by
  one_table = refl

module _ (c : ℕ) where
  by_tests : c < 2 ^ 32 → judged_of c ≡ tested (n_of c) (m_of c) (l_of c) (imm_of c) c (opcode_of c)
  unfolding judged_of decode_of
  by_tests fits =
      rw (← read_as c (form_of (opcode_of c)))
      (agree (judged (n_of c) (m_of c) (l_of c) (imm_of c) c) (tested (n_of c) (m_of c) (l_of c) (imm_of c) c) 256 (one_table (n_of c) (m_of c) (l_of c) (imm_of c) c) (opcode_of c) (omega arith))

-- two targets, one asked after the other
abbrev unless : Bool → Result ⊤ Flaw → Result ⊤ Flaw
unless t rest = cond t (Err flaw.Target) rest

after : (t : Bool) (rest : Result ⊤ Flaw) → result_and (unless t (Ok tt)) rest ≡ unless t rest
after true rest = refl
after false rest = refl

pub both : (i j : ℕ) → result_and (into i (Ok tt)) (into j (Ok tt)) ≡ into i (into j (Ok tt))
both i j = after (eqb i 255) (into j (Ok tt))

-- a cell whose opcode is reserved is flawed
pub reserved_flawed : (c x : ℕ) (f : Form) → x ≡ opcode_of c → f ≡ form_of x → f ≡ form.Reserved → Err flaw.Reserved ≡ judged_of c
unfolding judged_of judged_by
reserved_flawed c x f x_is f-is r = rw (reserved_illegal c (rw (← x_is) (sym f-is ∙ r)))

unreserved : (f : Form) → (f ≡ form.Reserved → ⊥) → is_reserved f ≡ false
unreserved form.Registers h = refl
unreserved form.Immediate h = refl
unreserved form.Reserved h = absurd (h refl)

-- of any other the tests decide: here one at a time, in the code's order
module _ (c x : ℕ) (f : Form) (fits : c < 2 ^ 32) (x_is : x ≡ opcode_of c) (f-is : f ≡ form_of x) (legal : f ≡ form.Reserved → ⊥) where
  decided : judged_of c ≡ tests (n_of c) (m_of c) (l_of c) (imm_of c) c x
  decided = by_tests c fits ∙ rw (← x_is, ← f-is, unreserved f legal)

  pub float_cell : 80 ≤ x → x ≤ 106 → judged_of c ≡ Err flaw.Float
  float_cell low high = decided ∙ rw (le-leb 80 x low, le-leb x 106 high)

  pub int_cell : x ≡ 122 → judged_of c ≡ Err flaw.Int
  int_cell e = decided ∙ rw e

  pub branch_cell : x ≡ 121 → judged_of c ≡ ahead (imm_of c)
  branch_cell e = decided ∙ rw e

  pub swap_cell : x ≡ 0 → judged_of c ≡ into (n_of c) (into (l_of c) (Ok tt))
  swap_cell e = decided ∙ rw e

  pub split_cell : (x ≡ 54) ⊎ (x ≡ 107) → judged_of c ≡ into (m_of c) (into (l_of c) (Ok tt))
  split_cell (inl e) = decided ∙ rw e
  split_cell (inr e) = decided ∙ rw e

  pub end_cell : x ≡ 4 → imm_of c ≡ 65535 → judged_of c ≡ Ok tt
  end_cell e i = decided ∙ rw (e, i)

  pub other_cell : (80 ≤ x → x ≤ 106 → ⊥) → (x ≡ 122 → ⊥) → (x ≡ 121 → ⊥) → (x ≡ 0 → ⊥) → (x ≡ 54 → ⊥) → (x ≡ 107 → ⊥) → (x ≡ 4 → imm_of c ≡ 65535 → ⊥)
      → judged_of c ≡ into (n_of c) (Ok tt)
  other_cell float int bz swap split extended end =
      decided ∙ rw (outside float, ne_eqb x 122 int, ne_eqb x 121 bz, ne_eqb x 0 swap, ne_eqb x 54 split, ne_eqb x 107 extended, not_both end)
    where
      outside : (80 ≤ x → x ≤ 106 → ⊥) → leb 80 x && leb x 106 ≡ false
      outside h = ⊎_elim (λ (p : (leb 80 x ≡ true) × (80 ≤ x)). rw p.0 (lt-leb x 106 (let far : x ≤ 106 → ⊥ = h p.1 in omega arith))) (λ (p : (leb 80 x ≡ false) × (x < 80)). rw p.0) (leb_tells 80 x)

      not_both : (x ≡ 4 → imm_of c ≡ 65535 → ⊥) → eqb x 4 && eqb (imm_of c) 65535 ≡ false
      not_both h = ⊎_elim (λ (p : (eqb x 4 ≡ true) × (x ≡ 4)). rw p.0 (ne_eqb (imm_of c) 65535 (h p.1))) (λ (p : (eqb x 4 ≡ false) × (x ≡ 4 → ⊥)). rw p.0) (eqb_tells x 4)
