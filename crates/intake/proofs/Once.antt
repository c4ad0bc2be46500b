-- What is promised of taking in leaves no choice: of the machine or the refusal, and of the cells.
use Prim.Native.Nat.{ℕ}
use mathlib.Core.Path.{◌≡◌, refl, sym, ap, ◌∙◌}
use mathlib.Core.List.{List}
use Rattle.std.specs.Prelude.{Result, Ok, Err, IfErr}
use Rattle.machine.specs.declared.Machine.{Machine}
use Rattle.job.specs.Job.{Load}
use Rattle.intake.specs.declared.Refused.{Refused}
use Rattle.intake.specs.Intake.{taken_of}
use Rattle.intake.specs.Answers.{taken_with}

-- a refusal has a number
abbrev Numbered : Result Machine Refused → Type 0
Numbered r = IfErr r (λ refused. refused.number ≡ 0 → ⊥)

cells_by : (r : Result Machine Refused) (cells : List ℕ) → (taken_with r cells).cells ≡ cells
cells_by (Ok m) cells = refl
cells_by (Err refused) cells = refl

same : (r t : Result Machine Refused) (left left' : List ℕ) → taken_with r left ≡ taken_with t left' → Numbered r → Numbered t → r ≡ t
same (Ok m) (Ok k) left left' e p q = ap (λ (l : Load). Ok l.machine) e
same (Ok m) (Err z) left left' e p q = absurd (q (sym (ap (λ (l : Load). l.said.number) e)))
same (Err y) (Ok k) left left' e p q = absurd (p (ap (λ (l : Load). l.said.number) e))
same (Err y) (Err z) left left' e p q = ap (λ (l : Load). Err (record { number = l.said.number; offset = l.said.offset })) e

pub take_once : (input cells : List ℕ) (r t : Result Machine Refused) (left left' : List ℕ) → taken_with r left ≡ taken_of input cells → Numbered r → taken_with t left' ≡ taken_of input cells → Numbered t
    → (r ≡ t) × (left ≡ left')
take_once input cells r t left left' e p f q =
    let same_load : taken_with r left ≡ taken_with t left' = e ∙ sym f in
    (same r t left left' same_load p q, sym (cells_by r left) ∙ ap (λ (l : Load). l.cells) same_load ∙ cells_by t left')
