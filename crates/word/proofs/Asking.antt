-- What opcodes 16 to 53 ask for, one after the other.
-- Assumes nothing.
use Rattle.std.proofs.Common.{◌≡◌, ℕ, zero, suc, List, [], ◌∷◌, refl}
use Rattle.word.specs.declared.Op.TheVariants.{Add, Adc, Sub, Sbb, Mul, Udiv, Sdiv, Mod, And, Or, Xor, Nand, Lnand, Lsh, Ursh, Srsh, Ugt, Sgt, Eq}
use Rattle.word.specs.Operation.{Asked, Given, Turned}
use Rattle.word.specs.Word.{op_of, asked_of}

-- what n opcodes from k on ask for
abbrev pub asked : ℕ → ℕ → List Asked
asked zero k = []
asked (suc n) k = asked_of k ∷ asked n (suc k)

-- 16 to 34, of two registers
pub by_registers : asked 19 16
    ≡ Given Add ∷ Given Adc ∷ Given Sub ∷ Given Sbb ∷ Given Mul ∷ Given Udiv ∷ Given Sdiv ∷ Given Mod ∷ Given And ∷ Given Or ∷ Given Xor
    ∷ Given Nand ∷ Given Lnand ∷ Given Lsh ∷ Given Ursh ∷ Given Srsh ∷ Given Ugt ∷ Given Sgt ∷ Given Eq ∷ []
unfolding asked_of op_of
by_registers = refl

-- 35 to 53, of a register and an immediate
pub by_immediate : asked 19 35
    ≡ Given Add ∷ Given Adc ∷ Given Sub ∷ Given Sbb ∷ Given Mul ∷ Given Udiv ∷ Given Sdiv ∷ Given Mod ∷ Given And ∷ Given Or ∷ Given Xor
    ∷ Given Lsh ∷ Given Ursh ∷ Given Srsh ∷ Given Ugt ∷ Given Sgt ∷ Given Eq ∷ Turned Ugt ∷ Turned Sgt ∷ []
unfolding asked_of op_of
by_immediate = refl
