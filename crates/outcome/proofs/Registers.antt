-- The lines of registers: one register more.
use mathlib.Core.Path.{◌≡◌, refl, sym, ap, ◌∙◌}
use mathlib.Core.List.{List, [], ◌∷◌, ◌++◌, append_assoc, append-nil}
use Prim.Native.Nat.{ℕ, zero, suc, ◌+◌}
use native.Mathlib.Nat.{add-zero}
use native.Mathlib.Omega.{arith}
use borrow.Author.Tests.{ne_eqb}
use lib.ListN.{get_or, take}
use Rattle.text.specs.Text.{bytes, named}
use Rattle.outcome.specs.Told.{register_text, registers_text}

-- a register that is 0 has no line, and one that is not has one
pub register_none : (i v : ℕ) → v ≡ 0 → register_text i v ≡ []
register_none i v e = rw e

pub register_some : (i v : ℕ) → (v ≡ 0 → ⊥) → register_text i v ≡ named "R" i ++ named " " v ++ bytes "\n"
register_some i v n = rw (ne_eqb v 0 n)

registers_next : (k i : ℕ) (regs : List ℕ) → registers_text k (take (suc i) regs) ≡ registers_text k (take i regs) ++ register_text (k + i) (get_or regs i 0)
unfolding registers_text
registers_next k zero [] = refl
registers_next k (suc i) [] = refl
registers_next k zero (v ∷ regs) = rw (append-nil, add-zero)
registers_next k (suc i) (v ∷ regs) =
    ap (λ (t : List ℕ). register_text k v ++ t) (registers_next (k + 1) i regs ∙ ap (λ (j : ℕ). registers_text (k + 1) (take i regs) ++ register_text j (get_or regs i 0)) (omega arith))
    ∙ sym (append_assoc (register_text k v) (registers_text (k + 1) (take i regs)) (register_text (k + suc i) (get_or regs i 0)))

pub registers_more : (i : ℕ) (regs : List ℕ) → registers_text 0 (take (i + 1) regs) ≡ registers_text 0 (take i regs) ++ register_text i (get_or regs i 0)
registers_more i regs =
    let n : i + 1 ≡ suc i = omega arith in
    let z : 0 + i ≡ i = omega arith in
    rw n (registers_next 0 i regs ∙ ap (λ (j : ℕ). registers_text 0 (take i regs) ++ register_text j (get_or regs i 0)) z)
