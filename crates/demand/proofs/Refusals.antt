-- Every refusal's number is one of document 01's list for the function: encoding, printing, reading, loading and saving. Those of step, run and
-- back stand in Repeat.
-- Assumes nothing.
use Prim.Native.Nat.{ℕ, zero, suc, ◌+◌, ◌-◌}
use mathlib.Core.Path.{◌≡◌, refl}
use mathlib.Core.Bool.{Bool, true, false, not}
use mathlib.Core.Option.{Option, none, some}
use mathlib.Core.List.{List}
use lib.Dec.{leb, ltb}
use lib.ListN.{length, drop}
use Rattle.cell.specs.declared.Form.{Form}
use Rattle.cell.specs.declared.Form.TheVariants as form
use Rattle.cell.specs.declared.Operands.{Operands}
use Rattle.cell.specs.declared.Operands.TheVariants as operands
use Rattle.cell.specs.Cell as cell
use Rattle.line.specs.Line as line
use Rattle.std.specs.Prelude.{Result, Ok, Err}
use Rattle.reader.specs.declared.NoLine.{NoLine}
use Rattle.reader.specs.Answers.{read_reply}
use Rattle.machine.proofs.Tests.{picked}
use Rattle.machine.specs.declared.Machine.{Machine}
use Rattle.machine.specs.State.{bad_cells, bad_settings}
use Rattle.job.specs.Job.{Fate, refused, last, further, Notice, refusal_from, refusal_in, loaded_by, load_of, fate_of, payload_fate, row_of, kind_of, size_of, payload_of, known_of, fits_of, in_order, within_of, settings_fit, ends_of, passed, followed, after_end, nothing_yet}
use Rattle.saver.specs.Saving.{Save, saved_of, save_of}
use Rattle.demand.specs.Demands.{listed, encode_says, print_says, read_says, load_says, save_says}

pub encode_said : (opcode : ℕ) (o : Operands) → listed encode_says (cell.encode_of opcode o).number ≡ true
unfolding cell.encode_of listed
encode_said opcode o = written (cell.form_of opcode) o where
  written : (f : Form) (o : Operands) → listed encode_says (cell.write_as f opcode o).number ≡ true
  written form.Registers (operands.Registers n m l) = refl
  written form.Registers (operands.Immediate n i) = refl
  written form.Immediate (operands.Registers n m l) = refl
  written form.Immediate (operands.Immediate n i) = refl
  written form.Reserved o = refl

pub print_said : (c : ℕ) (room : List ℕ) → listed print_says (line.print_of c room).number ≡ true
unfolding line.print_of listed
print_said c room = picked (λ (s : line.Shown). listed print_says s.number ≡ true) (leb (length (line.line_of c)) (length room)) _ _ (λ t. refl) (λ t. refl)

-- what reading says is by its contract an answer's number
pub read_said : (r : Result ℕ NoLine) → listed read_says (read_reply r).number ≡ true
unfolding listed
read_said (Ok c) = refl
read_said (Err none-there) = refl

-- a record's refusal
abbrev Fine : Fate → Type 0
Fine (refused k) = listed load_says k ≡ true
Fine last = Prim.Unit {0}
Fine (further size past) = Prim.Unit {0}

passed_fine : (t : Bool) (past : _) (size : ℕ) → Fine (passed t past size)
passed_fine true past size = tt
passed_fine false past size = tt

payload_fine : (m : ℕ) (past : _) (left : List ℕ) → Fine (payload_fate m past (row_of left) (payload_of left) (size_of left))
unfolding listed
payload_fine m past left =
    picked Fine (not (in_order past (row_of left) (payload_of left))) _ _ (λ t. refl) (λ t.
    picked Fine (not (within_of m (kind_of left) (payload_of left))) _ _ (λ t. refl) (λ t.
    picked Fine (not (settings_fit (kind_of left) (payload_of left))) _ _ (λ t. refl) (λ t. passed_fine (ends_of (kind_of left)) _ (size_of left))))

course_fine : (m : ℕ) (past : _) (left : List ℕ) → Fine (fate_of m past left)
unfolding fate_of listed
course_fine m past left =
    picked Fine (ltb (length left) 6) _ _ (λ t. refl) (λ t.
    picked Fine (not (known_of (kind_of left))) _ _ (λ t. refl) (λ t.
    picked Fine (not (fits_of (row_of left) (size_of left))) _ _ (λ t. refl) (λ t.
    picked Fine (ltb (length left) (6 + size_of left)) _ _ (λ t. refl) (λ t. payload_fine m past left))))

-- a job's first refusal, if it has one
abbrev Listed : Option Notice → Type 0
Listed none = Prim.Unit {0}
Listed (some said) = listed load_says said.number ≡ true

end_listed : (more offset : ℕ) → Listed (after_end more offset)
unfolding listed
end_listed zero offset = tt
end_listed (suc more) offset = refl

followed_listed : (rest : List ℕ → ℕ → _ → Option Notice) → ((left : List ℕ) (offset : ℕ) (past : _) → Listed (rest left offset past))
    → (c : Fate) → Fine c → (left : List ℕ) (offset : ℕ) → Listed (followed rest c left offset)
followed_listed rest f (refused k) h left offset = h
followed_listed rest f last h left offset = end_listed (length left - 6) (offset + 6)
followed_listed rest f (further size past) h left offset = f (drop size left) (offset + size) past

from_listed : (n m : ℕ) (left : List ℕ) (offset : ℕ) (past : _) → Listed (refusal_from n m left offset past)
unfolding refusal_from listed
from_listed zero m left offset past = refl
from_listed (suc n) m left offset past = followed_listed (refusal_from n m) (from_listed n m) (fate_of m past left) (course_fine m past left) left offset

in_listed : (m : ℕ) (job : List ℕ) → Listed (refusal_in m job)
unfolding refusal_in listed
in_listed m job = picked Listed (bad_cells m) _ _ (λ t. refl) (λ t. from_listed (length job) m job 0 nothing_yet)

by_listed : (o : Option Notice) (job host cells : List ℕ) → Listed o → listed load_says (loaded_by o job host cells).said.number ≡ true
unfolding listed
by_listed none job host cells h = refl
by_listed (some said) job host cells h = h

pub load_said : (job host cells : List ℕ) → listed load_says (load_of job host cells).said.number ≡ true
load_said job host cells = by_listed (refusal_in (length cells) job) job host cells (in_listed (length cells) job)

pub save_said : (m : Machine) (cells room : List ℕ) → listed save_says (save_of m cells room).number ≡ true
unfolding save_of listed
save_said m cells room =
    let Fits : Save → Type 0 = λ s. listed save_says s.number ≡ true in
    picked Fits (bad_cells (length cells)) _ _ (λ t. refl) (λ t.
    picked Fits (bad_settings m.settings) _ _ (λ t. refl) (λ t.
    picked Fits (ltb (length room) (length (saved_of m cells))) _ _ (λ t. refl) (λ t. refl)))
