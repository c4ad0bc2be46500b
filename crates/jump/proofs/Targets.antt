-- A branch's target reckoned in 64 bits, where nothing wraps.
-- Assumes nothing.
use Rattle.std.proofs.Common.{◌≡◌, ℕ, suc, ◌+◌, ◌-◌, ◌%◌, ◌^◌, ◌<◌, Bool, true, false, ltb, ℤ, pos, negsuc, ◌+ℤ◌, ◌-ℤ◌, refl, ap, arith, w16, w64, SFits, to_z, of_z, ltb-false, ltb-true, le-ltb, lt-ltb}
use lib.IntN.{sub_ℕ}
use lib.Signed.{mag}
use mir.Val.{sel}
use mir.ValLaws.{to_z-of_z}
use borrow.Author.Rules.{sfits_of}
use Rattle.machine.proofs.Tests.{picked}
use Rattle.effect.specs.Refusal.{target_of}

plain : (x : ℕ) → x < 2 ^ 63 → to_z w64 x ≡ pos x
plain x h = rw (lt-ltb x (2 ^ 63) h)

module _ (pc imm : ℕ) (word : pc < 2 ^ 32) (half : imm < 65536) where
  -- PC + 1, and the signed imm, as the code has them
  abbrev first : ℤ
  first = to_z w64 pc +ℤ pos 1

  abbrev second : ℤ
  second = to_z w64 ((imm + 32768) % 65536) -ℤ pos 32768

  first_is : first ≡ pos (pc + 1)
  first_is = rw (plain pc (omega arith))

  second_is : second ≡ to_z w16 imm
  second_is = rw (plain ((imm + 32768) % 65536) (omega arith)) (go (ltb imm 32768) refl)
    where
      go : (t : Bool) → ltb imm 32768 ≡ t → sub_ℕ ((imm + 32768) % 65536) 32768 ≡ sel t (pos imm) (negsuc (65536 - suc imm))
      go true e =
          let h = ltb-true imm 32768 e in
          rw (le-ltb ((imm + 32768) % 65536) 32768 (omega arith)) (ap pos (omega arith))
      go false e =
          let h = ltb-false imm 32768 e in
          rw (lt-ltb ((imm + 32768) % 65536) 32768 (omega arith)) (ap negsuc (omega arith))

  -- they and their sum fit
  pub first_fits : SFits w64 first
  first_fits = rw first_is (sfits_of (omega arith))

  abbrev Small : ℤ → Type 0
  Small z = mag z < 2 ^ 63

  pub second_fits : SFits w64 second
  second_fits = rw second_is (go (ltb imm 32768))
    where
      go : (t : Bool) → SFits w64 (sel t (pos imm) (negsuc (65536 - suc imm)))
      go true = sfits_of (omega arith)
      go false = sfits_of (omega arith)

  target_fits : SFits w64 (target_of pc imm)
  target_fits = go (ltb imm 32768)
    where
      go : (t : Bool) → SFits w64 (pos (pc + 1) +ℤ sel t (pos imm) (negsuc (65536 - suc imm)))
      go true = sfits_of (omega arith)
      go false = sfits_of (picked Small (ltb (pc + 1) (suc (65536 - suc imm))) _ _ (λ t. omega arith) (λ t. omega arith))

  -- the two as they are taken up again, and their sum
  abbrev again : ℤ → ℤ
  again z = to_z w64 (of_z w64 z)

  sum_is : again first +ℤ again second ≡ target_of pc imm
  sum_is = rw (to_z-of_z w64 first first_fits, to_z-of_z w64 second second_fits, first_is, second_is)

  pub sum_fits : SFits w64 (again first +ℤ again second)
  sum_fits = rw sum_is target_fits

  pub sum_kept : again (again first +ℤ again second) ≡ target_of pc imm
  sum_kept = rw sum_is (to_z-of_z w64 (target_of pc imm) target_fits)
