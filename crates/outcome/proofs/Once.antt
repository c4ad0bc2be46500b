-- What is promised leaves no choice: of a job's outcome, with what it leaves in cells and journal, and of its text.
use mathlib.Core.Path.{◌≡◌, refl, sym, ap, ◌∙◌}
use mathlib.Core.List.{List}
use Prim.Native.Nat.{ℕ}
use Rattle.machine.specs.declared.Machine.{Machine}
use Rattle.machine.proofs.Named.{heard, heard_said}
use Rattle.text.proofs.Adds.{once as added-once}
use Rattle.std.specs.Prelude.{Result, Ok, Err}
use Rattle.call.specs.declared.Ran.{Ran}
use Rattle.intake.specs.declared.Refused.{Refused}
use Rattle.outcome.specs.Outcome.{End, refused, ran, Outcome}
use Rattle.outcome.specs.Answers.{outcome_with}
use Rattle.outcome.specs.Told.{Told}

-- the code's answer, from what is said of it
abbrev ended : End → Machine → Result Ran Refused
ended (refused number offset) machine = Err (record { number = number; offset = offset })
ended (ran said count) machine = Ok (record { machine = machine; stop = heard said; count = count })

abbrev answered : Outcome → Result Ran Refused
answered o = ended o.end o.machine

answered_with : (r : Result Ran Refused) (cells journal : List ℕ) → answered (outcome_with r cells journal) ≡ r
answered_with (Ok r) cells journal = rw (heard_said r.stop)
answered_with (Err r) cells journal = refl

pub run_once : (o : Outcome) (r t : Result Ran Refused) (cells cells' journal journal' : List ℕ) → outcome_with r cells journal ≡ o → outcome_with t cells' journal' ≡ o
    → (r ≡ t) × (cells ≡ cells') × (journal ≡ journal')
run_once o r t cells cells' journal journal' p q =
    let e = p ∙ sym q in
    (sym (answered_with r cells journal) ∙ ap answered e ∙ answered_with t cells' journal', ap (λ (x : Outcome). x.cells) e, ap (λ (x : Outcome). x.journal) e)

pub told_once : {room piece s t : List ℕ} {at m n : ℕ} → Told room at piece s m → Told room at piece t n → (s ≡ t) × (m ≡ n)
told_once p q = added-once p.added q.added
