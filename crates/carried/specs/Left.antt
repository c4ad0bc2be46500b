-- What an instruction leaves that is carried out where settings are one word and the journal is the part that is lent: what the definitions make of
-- it, but for flag 256, which a run sets once, at its end.
use Rattle.std.specs.Prelude.{ℕ, ◌*◌, cond, List, ◌==◌}
use Rattle.machine.specs.State.{State, state_with, flags_bound}
use Rattle.packed.specs.Packed.{packed_of, unpacked_of}
use Rattle.effect.specs.Action.{Action}
use Rattle.effect.specs.Parts.{Answer, Onward, Interrupt, Effect}
use Rattle.effect.specs.Becomes.{Became, refused, does, became_of}
use Rattle.journal.specs.Journal.{regs_after, cells_after, entry_of, entered}

pub record Left : Type 0 where
  pub regs : List ℕ
  pub cells : List ℕ
  pub part : List ℕ
  pub settings : ℕ
  pub told : ℕ

abbrev pub left : List ℕ → List ℕ → List ℕ → ℕ → ℕ → Left
left regs cells part settings told = record { regs = regs; cells = cells; part = part; settings = settings; told = told }

-- the state before it: settings as a word stands for them, and the part that is lent as a journal of depth 0
abbrev pub before : List ℕ → ℕ → List ℕ → List ℕ → List ℕ → State
before regs s host cells part = state_with regs (unpacked_of s) 0 host cells part

-- What is told, where told was before: the flags that it raised, all below the bound, if there are any; or one of these.
abbrev pub told_int : ℕ
told_int = flags_bound

abbrev pub told_fault : ℕ
told_fault = 2 * flags_bound

abbrev pub told_float : ℕ
told_float = 4 * flags_bound

abbrev pub told_wild : ℕ
told_wild = 8 * flags_bound

abbrev pub told_by : ℕ → Answer → ℕ → ℕ
told_by told Onward raised = cond (raised == 0) told raised
told_by told (Interrupt value imm) raised = told_int

abbrev pub told_refused : ℕ → ℕ
told_refused k = cond (k == 5) told_fault (cond (k == 6) told_float told_wild)

-- an effect carried out, or nothing done but that it is told
abbrev pub done_by : ℕ → Effect → State → Left
done_by told e s =
    left (regs_after e s.regs) (cells_after e s.cells) (entered s.journal (entry_of e s.regs s.settings s.cells))
    (packed_of e.settings) (told_by told e.answer e.raised)

abbrev pub left_by : ℕ → Became → State → Left
left_by told (does e) s = done_by told e s
left_by told (refused k) s = left s.regs s.cells s.journal (packed_of s.settings) (told_refused k)

unfoldable pub left_of : ℕ → Action → State → Left
left_of told a s = left_by told (became_of a s) s
