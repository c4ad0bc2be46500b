-- What a call leaves determines machine, stop, count, cells and journal, and what its check says determines the answer: a promise that speaks of these
-- leaves one possible answer.
-- Assumes nothing.
use Prim.Native.Nat.{ℕ}
use mathlib.Core.Path.{◌≡◌, refl, sym, ap, ◌∙◌}
use mathlib.Core.Option.{Option, none, some}
use mathlib.Core.List.{List}
use Rattle.call.specs.declared.Ran.{Ran}
use Rattle.call.specs.Calls.{Out}
use Rattle.std.specs.Prelude.{Result, Ok, Err, ⊤}
use Rattle.machine.specs.declared.Stop.{Stop}
use Rattle.call.specs.Answers.{out_of, checked_of}
use Rattle.machine.specs.State.{machine_of}
use Rattle.machine.specs.Stops.{Said}
use Rattle.machine.proofs.Named.{heard, heard_said}

-- the answer, cells and journal that were left
record Left : Type 0 where
  answer : Ran
  cells : List ℕ
  journal : List ℕ

abbrev left : Out → Left
left o = record {
  answer = record { machine = machine_of o.state; stop = heard o.said; count = o.count };
  cells = o.state.cells;
  journal = o.state.journal;
}

left_out : (r : Ran) (cells journal : List ℕ) → left (out_of r cells journal) ≡ record { answer = r; cells = cells; journal = journal }
left_out r cells journal = rw (heard_said r.stop)

-- two answers with their cells and journals that both meet one promise are the same
pub once : (o : Out) (r t : Ran) (cells cells' journal journal' : List ℕ) → out_of r cells journal ≡ o → out_of t cells' journal' ≡ o
    → (r ≡ t) × (cells ≡ cells') × (journal ≡ journal')
once o r t cells cells' journal journal' p q =
    let e = sym (left_out r cells journal) ∙ ap left (p ∙ sym q) ∙ left_out t cells' journal' in
    (ap (λ (x : Left). x.answer) e, ap (λ (x : Left). x.cells) e, ap (λ (x : Left). x.journal) e)

-- the check's answer, from what it says
abbrev answered : Option Said → Result ⊤ Stop
answered none = Ok tt
answered (some x) = Err (heard x)

answered_checked : (r : Result ⊤ Stop) → answered (checked_of r) ≡ r
answered_checked (Ok tt) = refl
answered_checked (Err x) = rw (heard_said x)

pub checked_once : (r t : Result ⊤ Stop) → checked_of r ≡ checked_of t → r ≡ t
checked_once r t e = sym (answered_checked r) ∙ ap answered e ∙ answered_checked t
