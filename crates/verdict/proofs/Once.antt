-- What is promised leaves no choice: of a job's verdict, with the cells that the check leaves, and of its text.
use mathlib.Core.Path.{◌≡◌, sym, ◌∙◌}
use mathlib.Core.List.{List}
use Prim.Native.Nat.{ℕ}
use Rattle.text.proofs.Adds.{once as added-once}
use Rattle.verdict.specs.Verdict.{Verdict, verdict_of, cells_of}
use Rattle.verdict.specs.Told.{Told}

pub check_once : (input argument cells : List ℕ) (r t : Verdict) (left left' : List ℕ)
    → r ≡ verdict_of input argument cells → left ≡ cells_of input cells
    → t ≡ verdict_of input argument cells → left' ≡ cells_of input cells → (r ≡ t) × (left ≡ left')
check_once input argument cells r t left left' p q p' q' = (p ∙ sym p', q ∙ sym q')

pub told_once : {room piece s t : List ℕ} {at m n : ℕ} → Told room at piece s m → Told room at piece t n → (s ≡ t) × (m ≡ n)
told_once p q = added-once p.added q.added
