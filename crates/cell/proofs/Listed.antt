-- The code's list of forms is the one that the definition gives, for all 256 opcodes.
use mathlib.Core.Path.{◌≡◌, refl, ap, ◌∙◌}
use mathlib.Core.List.{List, [], ◌∷◌}
use Prim.Native.Nat.{ℕ, zero, suc, ◌<◌}
use native.Mathlib.Nat.{le_of_suc-le-suc}
use native.Mathlib.Omega.{arith}
use lib.ListN.{get_or}
use Rattle.cell.specs.declared.Form.{Form}
use Rattle.cell.specs.declared.Form.TheVariants as form
use Rattle.cell.specs.declared.forms.TheConstants.{FORMS}
use Rattle.cell.specs.Cell.{legal, immediate, form_of}

-- what f has at 0 to n - 1
abbrev list_of : (ℕ → Form) → ℕ → List Form
list_of f zero = []
list_of f (suc n) = f 0 ∷ list_of (λ (k : ℕ). f (suc k)) n

list_at : (f : ℕ → Form) (n k : ℕ) → k < n → get_or (list_of f n) k form.Registers ≡ f k
list_at f zero k h = absurd (omega arith)
list_at f (suc n) zero h = refl
list_at f (suc n) (suc k) h = list_at (λ (k : ℕ). f (suc k)) n k (le_of_suc-le-suc h)

-- entry for entry
forms_listed : FORMS ≡ list_of form_of 256
unfolding form_of legal immediate
forms_listed = refl

pub form_listed : (x : ℕ) → x < 256 → get_or FORMS x form.Registers ≡ form_of x
form_listed x h = ap (λ (l : List Form). get_or l x form.Registers) forms_listed ∙ list_at form_of 256 x h
