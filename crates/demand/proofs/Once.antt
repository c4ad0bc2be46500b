-- One possible answer: for each public function, two answers, and contents of cells, journal and room, that both meet the contract on one input
-- are equal. A contract that is an equation `r ≡ definition` is answered by one law; the others state what was said, which determines the
-- answer.
-- Assumes nothing.
use Prim.Native.Nat.{ℕ, ◌+◌, ◌%◌, ◌<◌, min}
use mathlib.Core.Path.{◌≡◌, refl, sym, ap, ◌∙◌}
use mathlib.Core.Bool.{Bool, cond, not}
use mathlib.Core.Option.{Option, none, some}
use mathlib.Core.List.{List, []}
use lib.Dec.{eqb}
use lib.ListN.{length, get_or, replicate, set}
use Rattle.half.specs.declared.Extension.{Extension}
use Rattle.half.specs.Half.{se_of, ex_of, extended}
use Rattle.word.specs.declared.Op.{Op}
use Rattle.word.specs.declared.Written.{Written}
use Rattle.word.specs.Word.{written_of}
use Rattle.float.specs.declared.FloatOp.{FloatOp}
use Rattle.float.specs.Float.{calculated_of}
use Rattle.cell.specs.declared.Form.{Form}
use Rattle.cell.specs.declared.Instruction.{Instruction}
use Rattle.cell.specs.declared.Operands.{Operands}
use Rattle.std.specs.Prelude.{Result, Ok, Err, ⊤, is_ok, nat_eq, slice_set, if◌then◌else◌}
use Rattle.cell.specs.declared.EncodeError.{EncodeError}
use Rattle.cell.specs.Cell as cell
use Rattle.cell.specs.Answers.{encoded_reply}
use Rattle.cell.proofs.RoundTrip as cells
use Rattle.lent.specs.Lesser.{Lesser}
use Rattle.lent.specs.Little.{bytes_of, number_at}
use Rattle.text.specs.Text.{Added}
use Rattle.text.proofs.Adds as text
use Rattle.line.specs.declared.NoRoom.{NoRoom}
use Rattle.line.specs.Line as line
use Rattle.line.specs.Answers.{shown_of}
use Rattle.line.proofs.Lines as lines
use Rattle.reader.specs.declared.NoLine.{NoLine}
use Rattle.reader.specs.Reader as reader
use Rattle.reader.specs.Answers.{read_reply, Small}
use Rattle.reader.proofs.RoundTrip as trips
use Rattle.machine.specs.declared.Settings.{Settings}
use Rattle.effect.specs.Action.{Action}
use Rattle.effect.specs.Operands.{next_of, operand_of}
use Rattle.effect.specs.Parts.{flags_of}
use Rattle.effect.specs.Refusal.{faults}
use Rattle.machine.specs.declared.Machine.{Machine}
use Rattle.call.specs.declared.Ran.{Ran}
use Rattle.machine.specs.declared.Stop.{Stop}
use Rattle.machine.specs.State.{fresh_machine, state_of, bad_cells, bad_settings, entries_in}
use Rattle.packed.specs.Packed.{packed_of, unpacked_of}
use Rattle.journal.specs.declared.Entry.{Entry}
use Rattle.journal.specs.declared.Damaged.{Damaged}
use Rattle.journal.specs.Journal.{entered, first_in, damaged_of, restored, cells_before, settled_of}
use Rattle.carried.specs.Left.{Left, left_of}
use Rattle.carried.specs.declared.Step.{Step}
use Rattle.carried.specs.Step.{Settled, left_in, before_in}
use Rattle.machine.specs.Stops.{said_of, plainly}
use Rattle.machine.proofs.Named.{said_once}
use Rattle.machine.specs.declared.Kind.{Kind}
use Rattle.profile.specs.declared.Flaw.{Flaw}
use Rattle.profile.specs.declared.BadRule.{BadRule}
use Rattle.profile.specs.Profile.{judged_of, rule_of}
use Rattle.profile.specs.Answers.{barred_by}
use Rattle.step.specs.Step.{code_of, outside}
use Rattle.guard.specs.Guard.{guarded_of, stores_below}
use Rattle.stopped.specs.Stopped as stopped
use Rattle.call.specs.Calls.{check_of, said_by, begins_of, run_of, back_of}
use Rattle.call.specs.Answers.{checked_of, out_of}
use Rattle.call.proofs.Named as calls
use Rattle.refusal.specs.declared.Refusal.{Refusal}
use Rattle.job.specs.declared.Refused.{Refused}
use Rattle.job.specs.Job as job
use Rattle.job.specs.Answers.{load_with}
use Rattle.saver.specs.Saving as saving
use Rattle.saver.specs.Answers.{save_with}
use Rattle.refusal.specs.Refusal.{number_of}
use Rattle.refusal.proofs.Named.{heard, heard_number}

-- two that equal one thing are equal
pub unique : {A : Type 0} {x y z : A} → x ≡ z → y ≡ z → x ≡ y
unique p q = p ∙ sym q

pub se_once : (x r t : ℕ) → r ≡ se_of x → t ≡ se_of x → r ≡ t
se_once x r t = unique

pub ex_once : (x r t : ℕ) → r ≡ ex_of x → t ≡ ex_of x → r ≡ t
ex_once x r t = unique

pub extend_once : (by : Extension) (x r t : ℕ) → r ≡ extended by x → t ≡ extended by x → r ≡ t
extend_once by x r t = unique

-- an operation's value with its flags, by `Written::plain` and `Written::governing`
pub made_once : (w r t : Written) → r ≡ w → t ≡ w → r ≡ t
made_once w r t = unique

pub operate_once : (op : Op) (m l n flags : ℕ) (r t : Written) → r ≡ written_of op m l n flags → t ≡ written_of op m l n flags → r ≡ t
operate_once op m l n flags r t = unique

pub calculate_once : (op : FloatOp) (x y : ℕ) (r t : Written) → r ≡ calculated_of op x y → t ≡ calculated_of op x y → r ≡ t
calculate_once op x y r t = unique

pub form_once : (opcode : ℕ) (r t : Form) → r ≡ cell.form_of opcode → t ≡ cell.form_of opcode → r ≡ t
form_once opcode r t = unique

-- a cell's numbers below 256, wherever they lie: `opcode_of`, `n_of`, `m_of`, `l_of`
pub number_of_once : (at : ℕ → ℕ) (c r t : ℕ) → (r ≡ at c) × (r < 256) → (t ≡ at c) × (t < 256) → r ≡ t
number_of_once at c r t p q = unique p.0 q.0

pub imm_of_once : (c r t : ℕ) → r ≡ cell.imm_of c → t ≡ cell.imm_of c → r ≡ t
imm_of_once c r t = unique

pub decode_once : (c : ℕ) (r t : Instruction) → r ≡ cell.decode_of c → t ≡ cell.decode_of c → r ≡ t
decode_once c r t = unique

pub encode_once : (opcode : ℕ) (o : Operands) (r t : Result ℕ EncodeError) → encoded_reply r ≡ cell.encode_of opcode o → encoded_reply t ≡ cell.encode_of opcode o → r ≡ t
encode_once opcode o r t p q = cells.said_once r t (unique p q)

-- lengths, words and bytes that are lent
pub least_once : (a : ℕ) (xs : List ℕ) (r t : ℕ) → Lesser a xs r → Lesser a xs t → r ≡ t
least_once a xs r t p q = unique p.0 q.0

pub clear_once : (before after after' : List ℕ) → after ≡ replicate (length before) 0 → after' ≡ replicate (length before) 0 → after ≡ after'
clear_once before after after' = unique

pub little_once : (at width : ℕ) (bytes : List ℕ) (r t : ℕ) → r ≡ number_at at (min width 4) bytes → t ≡ number_at at (min width 4) bytes → r ≡ t
little_once at width bytes r t = unique

pub bytes_once : (number : ℕ) (r t : List ℕ) → r ≡ bytes_of 4 number → t ≡ bytes_of 4 number → r ≡ t
bytes_once number r t = unique

-- what is put into a text, whatever the piece: `put`, `put_decimal`, `put_number`, `put_word`
pub put_once : {before piece after after' : List ℕ} {at r t : ℕ} → Added before at piece after r → Added before at piece after' t → (after ≡ after') × (r ≡ t)
put_once = text.once

pub print_once : (c : ℕ) (before : List ℕ) (r t : Result ℕ NoRoom) (room room' : List ℕ) → shown_of r room ≡ line.print_of c before → shown_of t room' ≡ line.print_of c before
    → (r ≡ t) × (room ≡ room')
print_once c before r t room room' p q = lines.print_once r t room room' (unique p q)

-- a cell that is read is one of 32 bits
pub read_once : (text : List ℕ) (r t : Result ℕ NoLine) → Small r → reader.Reads text (read_reply r) → reader.Reads text (read_reply t) → r ≡ t
read_once = trips.read_once

-- a fresh machine, by `fresh`, and by `Refused::machine` of `job` and of `intake`
pub fresh_once : (r t : Machine) → r ≡ fresh_machine → t ≡ fresh_machine → r ≡ t
fresh_once r t = unique

pub number_once : (x : Stop) (r t : ℕ) → r ≡ (said_of x).number → t ≡ (said_of x).number → r ≡ t
number_once x r t = unique

-- the answers on M, on settings and on a journal
pub cells_once : (m : ℕ) (r t : Bool) → r ≡ not (bad_cells m) → t ≡ not (bad_cells m) → r ≡ t
cells_once m r t = unique

pub settings_once : (s : Settings) (r t : Bool) → r ≡ not (bad_settings s) → t ≡ not (bad_settings s) → r ≡ t
settings_once s r t = unique

pub capacity_once : (words r t : ℕ) → r ≡ entries_in words → t ≡ entries_in words → r ≡ t
capacity_once words r t = unique

pub index_once : (x r t : ℕ) → r ≡ x → t ≡ x → r ≡ t
index_once x r t = unique

-- the word of settings, and the settings of a word
pub pack_once : (s : Settings) (r t : ℕ) → r ≡ packed_of s → t ≡ packed_of s → r ≡ t
pack_once s r t = unique

pub unpack_once : (s : ℕ) (r t : Settings) → r ≡ unpacked_of s → t ≡ unpacked_of s → r ≡ t
unpack_once s r t = unique

pub flags_of_once : (s r t : ℕ) → r ≡ (unpacked_of s).flags → t ≡ (unpacked_of s).flags → r ≡ t
flags_of_once s r t = unique

pub mode_of_once : (s r t : ℕ) → r ≡ (unpacked_of s).mode → t ≡ (unpacked_of s).mode → r ≡ t
mode_of_once s r t = unique

-- the entry that a part of the journal has, the part that one was written into, and what a step taken back by it leaves
pub entry_in_once : (part : List ℕ) (r t : Entry) → r ≡ first_in part → t ≡ first_in part → r ≡ t
entry_in_once part r t = unique

pub enter_once : (before : List ℕ) (e : Entry) (after after' : List ℕ) → after ≡ entered before e → after' ≡ entered before e → after ≡ after'
enter_once before e after after' = unique

taken_once : (r t : Result ⊤ Damaged) → is_ok r ≡ is_ok t → r ≡ t
taken_once (Ok done) (Ok also) h = refl
taken_once (Ok done) (Err why) h = absurd (cc)
taken_once (Err why) (Ok done) h = absurd (cc)
taken_once (Err why) (Err also) h = refl

pub take_back_once : (e : Entry) (regs cells : List ℕ) (r t : Result ⊤ Damaged) (after after' kept kept' : List ℕ)
    → (is_ok r ≡ not (damaged_of (length cells) e)) × (after ≡ cond (is_ok r) (restored e regs) regs) × (kept ≡ cond (is_ok r) (cells_before e cells) cells)
    → (is_ok t ≡ not (damaged_of (length cells) e)) × (after' ≡ cond (is_ok t) (restored e regs) regs) × (kept' ≡ cond (is_ok t) (cells_before e cells) cells)
    → (r ≡ t) × (after ≡ after') × (kept ≡ kept')
take_back_once e regs cells r t after after' kept kept' p q =
    let s = unique p.0 q.0 in
    (taken_once r t s, unique (rw s at p.1) q.1, unique (rw s at p.2) q.2)

-- the next PC; an operand; whether a pointer faults; PC moved on, by `advance`; an entry made, by `entry_at`; an entry written and PC moved on, by `keep`,
-- `move_on` and, with n answered as `n_of` does, by `keep_n`; what an operation wrote, by `carried::Step::put`; what is refused
pub next_of_once : (pc r t : ℕ) → r ≡ (pc + 1) % 4294967296 → t ≡ (pc + 1) % 4294967296 → r ≡ t
next_of_once pc r t = unique

pub operand_once : (regs : List ℕ) (i r t : ℕ) → r ≡ operand_of regs (i % 256) → t ≡ operand_of regs (i % 256) → r ≡ t
operand_once regs i r t = unique

pub fault_once : (size p : ℕ) (r t : Bool) → r ≡ faults size p → t ≡ faults size p → r ≡ t
fault_once size p r t = unique

pub advance_once : (regs : List ℕ) (r t : ℕ) (after after' : List ℕ)
    → (r ≡ get_or regs 255 0) × (after ≡ set regs 255 (next_of regs)) → (t ≡ get_or regs 255 0) × (after' ≡ set regs 255 (next_of regs))
    → (r ≡ t) × (after ≡ after')
advance_once regs r t after after' p q = (unique p.0 q.0, unique p.1 q.1)

pub entry_at_once : (e r t : Entry) → r ≡ e → t ≡ e → r ≡ t
entry_at_once e r t = unique

-- registers and part, the settings, and what is told, of two steps
abbrev pub Alike : Step → Step → Type 0
Alike r t = (r.regs.now ≡ t.regs.now) × (r.part.now ≡ t.part.now) × (r.settings ≡ t.settings) × (r.told ≡ t.told)

pub move_on_once : (e : Entry) (old r t : Step)
    → (r.part.now ≡ entered old.part.now e) × (r.regs.now ≡ set old.regs.now 255 (next_of old.regs.now)) → Settled old r
    → (t.part.now ≡ entered old.part.now e) × (t.regs.now ≡ set old.regs.now 255 (next_of old.regs.now)) → Settled old t
    → Alike r t
move_on_once e old r t p s q u = (unique p.1 q.1, unique p.0 q.0, unique s.0 u.0, unique s.1 u.1)

pub result_once : (w : Written) (n : ℕ) (old r t : Step)
    → (r.regs.now ≡ slice_set old.regs.now (n % 256) w.value) × (r.part.now ≡ old.part.now) × (r.settings ≡ flags_of old.settings w.governed w.raised)
    × (r.told ≡ (if nat_eq w.raised 0 then old.told else w.raised))
    → (t.regs.now ≡ slice_set old.regs.now (n % 256) w.value) × (t.part.now ≡ old.part.now) × (t.settings ≡ flags_of old.settings w.governed w.raised)
    × (t.told ≡ (if nat_eq w.raised 0 then old.told else w.raised))
    → Alike r t
result_once w n old r t p q = (unique p.0 q.0, unique p.1 q.1, unique p.2 q.2, unique p.3 q.3)

pub refuse_once : (told : ℕ) (old r t : Step)
    → (r.regs.now ≡ old.regs.now) × (r.part.now ≡ old.part.now) × (r.settings ≡ old.settings) × (r.told ≡ told)
    → (t.regs.now ≡ old.regs.now) × (t.part.now ≡ old.part.now) × (t.settings ≡ old.settings) × (t.told ≡ told)
    → Alike r t
refuse_once told old r t p q = (unique p.0 q.0, unique p.1 q.1, unique p.2 q.2, unique p.3 q.3)

-- An instruction carried out over a step, by `carry_out` and `transfer`: what the step has, and the cells.
module _ (a : Action) (old r t : Step) where
  pub carry_out_once : (host cells kept kept' : List ℕ) → left_in r kept ≡ left_of old.told a (before_in old host cells)
      → left_in t kept' ≡ left_of old.told a (before_in old host cells) → Alike r t × (kept ≡ kept')
  carry_out_once host cells kept kept' p q =
      let e = unique p q in
      ((ap (λ (l : Left). l.regs) e, ap (λ (l : Left). l.part) e, ap (λ (l : Left). l.settings) e, ap (λ (l : Left). l.told) e), ap (λ (l : Left). l.cells) e)

  -- One that is lent no cells promises it for all cells, and so for none: `registers`, `immediate`, `turned`, `calculated`, `branch`, `interrupt`, `illegal`, `swap`,
  -- `load`, `split`.
  pub without_cells_once : ((host cells : List ℕ) → left_in r cells ≡ left_of old.told a (before_in old host cells))
      → ((host cells : List ℕ) → left_in t cells ≡ left_of old.told a (before_in old host cells)) → Alike r t
  without_cells_once p q = (carry_out_once [] [] [] [] (p [] []) (q [] [])).0

-- what a profile says of a cell and of a rule
pub judge_once : (c : ℕ) (r t : Result ⊤ Flaw) → r ≡ judged_of c → t ≡ judged_of c → r ≡ t
judge_once c r t = unique

pub rule_once : (l : ℕ) (cells : List ℕ) (r t : Result ⊤ BadRule) → r ≡ rule_of l cells → t ≡ rule_of l cells → r ≡ t
rule_once l cells r t = unique

-- the stop that a bad rule becomes
pub barred_once : (bad : BadRule) (r t : Stop) → some (said_of r) ≡ barred_by (Err bad) → some (said_of t) ≡ barred_by (Err bad) → r ≡ t
barred_once bad r t p q =
    let e = unique p q in
    let s : said_of r ≡ said_of t = cc in
    said_once r t s

-- what a call begins with, and how many steps it can do
pub check_once : (m : ℕ) (s : Settings) (j depth : ℕ) (r t : Result ⊤ Stop) → checked_of r ≡ said_by (check_of m s j depth) → checked_of t ≡ said_by (check_of m s j depth) → r ≡ t
check_once m s j depth r t p q = calls.checked_once r t (unique p q)

pub begins_once : (kind : Kind) (cells : List ℕ) (s : Settings) (j depth : ℕ) (r t : Result ⊤ Stop) → checked_of r ≡ begins_of kind cells s j depth
    → checked_of t ≡ begins_of kind cells s j depth → r ≡ t
begins_once kind cells s j depth r t p q = calls.checked_once r t (unique p q)

-- what a run asks before a step
pub limit_once : (kind : Kind) (size r t : ℕ) → r ≡ code_of kind size → t ≡ code_of kind size → r ≡ t
limit_once kind size r t = unique

pub guard_once : (kind : Kind) (r t : ℕ) → r ≡ guarded_of kind → t ≡ guarded_of kind → r ≡ t
guard_once kind r t = unique

pub writes_once : (guard size : ℕ) (regs : List ℕ) (cell : ℕ) (r t : Bool) → r ≡ stores_below guard size regs cell → t ≡ stores_below guard size regs cell → r ≡ t
writes_once guard size regs cell r t = unique

-- whether a step stops a run, the settings that are left, and the stop: `stops`, `settled`, `refusal`, `stop_after`, `stop_outside`, `stop_of`
pub stops_once : (s told : ℕ) (r t : Bool) → r ≡ stopped.stopping told s → t ≡ stopped.stopping told s → r ≡ t
stops_once s told r t = unique

pub settled_once : (s : ℕ) (due : Bool) (r t : Settings) → r ≡ settled_of due (unpacked_of s) → t ≡ settled_of due (unpacked_of s) → r ≡ t
settled_once s due r t = unique

pub stop_refused_once : (told : ℕ) (r t : Stop) → said_of r ≡ stopped.refusal_by told → said_of t ≡ stopped.refusal_by told → r ≡ t
stop_refused_once told r t p q = said_once r t (unique p q)

pub stop_after_once : (regs : List ℕ) (told cell : ℕ) (r t : Stop) → said_of r ≡ stopped.stop_after told regs cell → said_of t ≡ stopped.stop_after told regs cell → r ≡ t
stop_after_once regs told cell r t p q = said_once r t (unique p q)

pub stop_outside_once : (kind : Kind) (r t : Stop) → said_of r ≡ plainly (outside kind) → said_of t ≡ plainly (outside kind) → r ≡ t
stop_outside_once kind r t p q = said_once r t (unique p q)

pub stop_of_once : (pc : ℕ) (kind : Kind) (limit done budget : ℕ) (r t : Stop) → said_of r ≡ plainly (stopped.number_of kind done budget limit pc)
    → said_of t ≡ plainly (stopped.number_of kind done budget limit pc) → r ≡ t
stop_of_once pc kind limit done budget r t p q = said_once r t (unique p q)

pub lesser_once : (number most r t : ℕ) → r ≡ min number most → t ≡ min number most → r ≡ t
lesser_once number most r t = unique

-- run, with step, which is a plain run of budget 1, and profile run; back, whose journal is the one at entry
module _ (m : Machine) (cells journal : List ℕ) (n : ℕ) (r t : Ran) (left left' kept kept' : List ℕ) where
  pub run_once : (kind : Kind) → out_of r left kept ≡ run_of kind n (state_of m cells journal) → out_of t left' kept' ≡ run_of kind n (state_of m cells journal)
      → (r ≡ t) × (left ≡ left') × (kept ≡ kept')
  run_once kind p q = calls.once _ r t left left' kept kept' p q

  pub back_once : out_of r left journal ≡ back_of n (state_of m cells journal) → out_of t left' journal ≡ back_of n (state_of m cells journal)
      → (r ≡ t) × (left ≡ left')
  back_once p q = let w = calls.once _ r t left left' journal journal p q in (w.0, w.1)

pub refusal_once : (why : Refusal) (r t : ℕ) → r ≡ number_of why → t ≡ number_of why → r ≡ t
refusal_once why r t = unique

-- what a load and a save answered, from what they said
abbrev answered : Option Refusal → Machine → ℕ → Result Machine Refused
answered none m offset = Ok m
answered (some why) m offset = Err (record { why = why; offset = offset })

abbrev loaded : job.Load → Result Machine Refused
loaded l = answered (heard l.said.number) l.machine l.said.offset

loaded_with_lem : (r : Result Machine Refused) (cells : List ℕ) → loaded (load_with r cells) ≡ r
loaded_with_lem (Ok m) cells = refl
loaded_with_lem (Err r) cells = rw (heard_number r.why)

cells_with : (r : Result Machine Refused) (cells : List ℕ) → (load_with r cells).cells ≡ cells
cells_with (Ok m) cells = refl
cells_with (Err r) cells = refl

abbrev became : Option Refusal → ℕ → Result ℕ Refusal
became none size = Ok size
became (some why) size = Err why

saved_with : (r : Result ℕ Refusal) (room : List ℕ) → became (heard (save_with r room).number) (save_with r room).length ≡ r
saved_with (Ok n) room = refl
saved_with (Err why) room = rw (heard_number why)

room_with : (r : Result ℕ Refusal) (room : List ℕ) → (save_with r room).room ≡ room
room_with (Ok n) room = refl
room_with (Err why) room = refl

pub load_once : (bytes host before : List ℕ) (r t : Result Machine Refused) (cells cells' : List ℕ) → load_with r cells ≡ job.load_of bytes host before → load_with t cells' ≡ job.load_of bytes host before
    → (r ≡ t) × (cells ≡ cells')
load_once bytes host before r t cells cells' p q =
    let e = unique p q in
    (sym (loaded_with_lem r cells) ∙ ap loaded e ∙ loaded_with_lem t cells', sym (cells_with r cells) ∙ ap (λ (l : job.Load). l.cells) e ∙ cells_with t cells')

pub save_once : (m : Machine) (cells before : List ℕ) (r t : Result ℕ Refusal) (room room' : List ℕ) → save_with r room ≡ saving.save_of m cells before
    → save_with t room' ≡ saving.save_of m cells before → (r ≡ t) × (room ≡ room')
save_once m cells before r t room room' p q =
    let e = unique p q in
    (sym (saved_with r room) ∙ ap (λ (s : saving.Save). became (heard s.number) s.length) e ∙ saved_with t room', sym (room_with r room) ∙ ap (λ (s : saving.Save). s.room) e ∙ room_with t room')
