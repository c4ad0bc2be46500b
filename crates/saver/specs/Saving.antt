-- The job that a machine and its cells are saved as: document 01, 'Lines and jobs', from 'Saving writes' on; kind 5: document 02, 2026-05.
use Rattle.std.specs.Prelude.{ℕ, ◌+◌, Bool, cond, ◌&&◌, List, [], ◌∷◌, ◌++◌, ltb, eqb, length}
use Rattle.std.proofs.lemmas.List.Edits.{sets}
use Rattle.machine.specs.declared.Settings.{Settings}
use Rattle.machine.specs.declared.Machine.{Machine}
use Rattle.machine.specs.State.{bad_cells, bad_settings}
use Rattle.lent.specs.Little.{bytes_of}

-- a record: its payload's length, its kind, and the payload
unfoldable pub record_of : ℕ → List ℕ → List ℕ
record_of kind payload = bytes_of 4 (length payload) ++ bytes_of 2 kind ++ payload

-- kind 1: a base and cells; a run of no cell is no record
unfoldable pub word_bytes : List ℕ → List ℕ
word_bytes [] = []
word_bytes (v ∷ words) = bytes_of 4 v ++ word_bytes words

unfoldable pub run_record : ℕ → List ℕ → List ℕ
run_record base [] = []
run_record base (v ∷ run) = record_of 1 (bytes_of 2 base ++ word_bytes (v ∷ run))

-- the run that began at base goes on with a cell that is not 0, and is written at one that is 0 and at the last cell's end
unfoldable pub runs_from : ℕ → List ℕ → List ℕ → List ℕ
runs_from base run [] = run_record base run
runs_from base run (v ∷ cells) =
    cond (eqb v 0) (run_record base run ++ runs_from (base + length run + 1) [] cells)
    (runs_from base (run ++ v ∷ []) cells)

-- kind 2: a register and its value, unless that is 0
unfoldable pub value_record : ℕ → ℕ → List ℕ
value_record i v = cond (eqb v 0) [] (record_of 2 (bytes_of 1 i ++ bytes_of 4 v))

unfoldable pub values_from : ℕ → List ℕ → List ℕ
values_from i [] = []
values_from i (v ∷ regs) = value_record i v ++ values_from (i + 1) regs

-- kind 3: the settings, unless they are fresh
abbrev pub fresh_of : Settings → Bool
fresh_of s = eqb s.flags 0 && eqb s.mask 0 && eqb s.mode 3

unfoldable pub setup_of : Settings → List ℕ
setup_of s = cond (fresh_of s) [] (record_of 3 (bytes_of 2 s.flags ++ bytes_of 2 s.mask ++ bytes_of 1 s.mode))

-- kind 5: the host's words, always
unfoldable pub host_of : List ℕ → List ℕ
host_of words = record_of 5 (word_bytes words)

-- the whole job, ended by kind 4
unfoldable pub saved_of : Machine → List ℕ → List ℕ
saved_of m cells = runs_from 0 [] cells ++ values_from 0 m.regs ++ setup_of m.settings ++ host_of m.host ++ record_of 4 []

-- all that a save leaves: the room, and what it says: a refusal's number and 0, or 0 and the length
pub record Save : Type 0 where
  pub room : List ℕ
  pub number : ℕ
  pub length : ℕ

-- a refused save leaves the room as it was; else the job stands at its front, and the rest stays
abbrev pub unsaved : ℕ → List ℕ → Save
unsaved number room = record { room = room; number = number; length = 0 }

abbrev pub written_in : List ℕ → List ℕ → Save
written_in job room =
    cond (ltb (length room) (length job)) (unsaved 48 room)
    (record { room = sets room 0 job; number = 0; length = length job })

unfoldable pub save_of : Machine → List ℕ → List ℕ → Save
save_of m cells room =
    cond (bad_cells (length cells)) (unsaved 12 room)
    (cond (bad_settings m.settings) (unsaved 10 room)
    (written_in (saved_of m cells) room))
