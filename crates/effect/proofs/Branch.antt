-- Where a branch leads: a wild one to no PC, a forward one is not wild, and one that is taken and not wild to its target, at most 32,768 cells on.
-- Assumes nothing.
use Prim.Native.Nat.{ℕ, suc, ◌+◌, ◌-◌, ◌%◌, ◌^◌, ◌≤◌, ◌<◌}
use mathlib.Core.Path.{◌≡◌, refl, sym, ap, ◌∙◌}
use mathlib.Core.Bool.{Bool, true, false, cond}
use mathlib.Core.Option.{none}
use mathlib.Core.List.{List}
use native.Mathlib.Omega.{arith}
use lib.Dec.{ltb, eqb}
use lib.IntN.{pos, negsuc, sub_ℕ}
use borrow.Author.Tests.{lt-ltb, le-ltb, ltb-true, ltb-false, eq-eqb}
use Rattle.half.specs.Half.{se_of}
use Rattle.word.specs.Word.{wrap}
use Rattle.cell.proofs.Tests.{never}
use Rattle.machine.specs.State.{State, pc_of}
use Rattle.machine.proofs.Tests.{and_true, and_false}
use Rattle.effect.specs.Action.{Bz}
use Rattle.effect.specs.Operands.{operand_of, reg}
use Rattle.effect.specs.Effect.{effect_of}
use Rattle.effect.specs.Refusal.{target_of, below_zero, wild, refused_by}
use Rattle.effect.proofs.Safe.{passed}

-- a difference that is not below zero
whole : (a b : ℕ) → below_zero (sub_ℕ a b) ≡ false → (b ≤ a) × (sub_ℕ a b ≡ pos (a - b))
whole a b h = go (ltb a b) refl h
  where
    go : (t : Bool) → ltb a b ≡ t → below_zero (cond t (negsuc (b - suc a)) (pos (a - b))) ≡ false → (b ≤ a) × (cond t (negsuc (b - suc a)) (pos (a - b)) ≡ pos (a - b))
    go true e h = never (cc)
    go false e h = (ltb-false a b e, refl)

-- the target in numbers, by imm's sign
module _ (pc imm : ℕ) where
  on : imm < 32768 → target_of pc imm ≡ pos (pc + 1 + imm)
  on h = rw (lt-ltb imm 32768 h)

  back : 32768 ≤ imm → target_of pc imm ≡ sub_ℕ (pc + 1) (suc (65536 - suc imm))
  back h = rw (le-ltb imm 32768 h)

-- a branch is wild by its target and its register
module _ (regs : List ℕ) (n imm : ℕ) where
  pub below : below_zero (target_of (pc_of regs) imm) ≡ true → wild regs n imm ≡ eqb (operand_of regs n) 0
  unfolding wild
  below h = rw h (and_true (eqb (operand_of regs n) 0))

  pub above : below_zero (target_of (pc_of regs) imm) ≡ false → wild regs n imm ≡ false
  unfolding wild
  above h = rw h (and_false (eqb (operand_of regs n) 0))

  -- no PC is the target of a wild branch
  pub nowhere : wild regs n imm ≡ true → (k : ℕ) → pos k ≡ target_of (pc_of regs) imm → ⊥
  nowhere h k e = never (let no = above (rw (← e) (le-ltb k 0 (omega arith))) in cc)

  pub tame : imm < 32768 → wild regs n imm ≡ false
  tame h = above (rw (on (pc_of regs) imm h) (le-ltb (pc_of regs + 1 + imm) 0 (omega arith)))

-- a branch to a target that is not below zero
pub record Leads (pc imm to : ℕ) : Type 0 where
  pub target : pos to ≡ target_of pc imm
  pub near : to ≤ pc + 32768

module _ (pc imm : ℕ) (low : pc + 32768 < 2 ^ 32) (half : imm < 65536) where
  leads : (t : Bool) → ltb imm 32768 ≡ t → below_zero (target_of pc imm) ≡ false → Leads pc imm (wrap ((pc + 1) % 4294967296 + se_of imm))
  unfolding se_of
  leads true e h =
      let k = ltb-true imm 32768 e in
      rw e (record { target = ap pos (omega arith) ∙ sym (on pc imm k); near = omega arith })
  leads false e h =
      let k = ltb-false imm 32768 e in
      let w = whole (pc + 1) (suc (65536 - suc imm)) (rw (back pc imm k) at h) in
      rw e (record { target = ap pos (let q = w.0 in omega arith) ∙ sym w.1 ∙ sym (back pc imm k); near = (let q = w.0 in omega arith) })

-- A branch that is taken and not refused leads to its target.
pub lands : (s : State) (n imm : ℕ) → pc_of s.regs + 32768 < 2 ^ 32 → imm < 65536 → reg s n ≡ 0 → refused_by (Bz n imm) s ≡ none
    → Leads (pc_of s.regs) imm (effect_of (Bz n imm) s).pc
unfolding effect_of refused_by wild
lands s n imm low half zero free =
    let test = eq-eqb (reg s n) 0 zero in
    rw test (leads (pc_of s.regs) imm low half (ltb imm 32768) refl (rw test at (passed (wild s.regs n imm) 13 free)))
