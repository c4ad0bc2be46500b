-- What a job means, from its bytes, the host's words and the lent cells to the loaded machine and cells, or a refusal: document 01, 'Lines and
-- jobs', from 'A job is records' on; kind 5 and the host's words: document 02, 2026-05.
use Rattle.std.specs.Prelude.{ℕ, zero, suc, ◌+◌, ◌-◌, ◌/◌, ◌%◌, Bool, true, false, cond, not, ◌&&◌, List, [], ◌∷◌, leb, ltb, eqb, length, set, take, drop, replicate}
use Rattle.std.proofs.Math.Option.{Option, none, some}
use Rattle.std.proofs.lemmas.List.Edits.{sets}
use Rattle.machine.specs.declared.Settings.{Settings}
use Rattle.machine.specs.declared.Machine.{Machine}
use Rattle.machine.specs.State.{fresh_settings, fresh_machine, bad_cells, bad_settings}
use Rattle.lent.specs.Little.{number_at}
use Rattle.job.specs.declared.records.Kind.{Kind}
use Rattle.job.specs.declared.records.Kind.TheVariants.{Run, Register, Setup, Host, End, Other}
use Rattle.job.specs.declared.records.Row.{Row}
use Rattle.job.specs.declared.records.Past.{Past}

-- ---- the table of kinds

-- a row: a kind, its place in the order, and the least and the most bytes of its payload, which go up by fours from the least
abbrev pub line : Kind → ℕ → ℕ → ℕ → Row
line kind rank least most = record { kind = kind; rank = rank; least = least; most = most }

-- the row of a table that has the number, else what is left
abbrev pub among : ℕ → List (ℕ × Row) → Row → Row
among number [] other = other
among number (row ∷ rows) other = cond (eqb number row.0) row.1 (among number rows other)

-- each kind with its number, in their order
abbrev pub kinds : List (ℕ × Row)
kinds =
    (1, line Run 1 6 65538)
    ∷ (2, line Register 2 5 5)
    ∷ (3, line Setup 3 5 5)
    ∷ (5, line Host 4 20 20)
    ∷ (4, line End 5 0 0)
    ∷ []

-- no length fits a kind that is none
abbrev pub no_kind : Row
no_kind = line Other 6 1 0

unfoldable pub row_by : ℕ → Row
row_by number = among number kinds no_kind

abbrev pub known_of : Kind → Bool
known_of Run = true
known_of Register = true
known_of Setup = true
known_of Host = true
known_of End = true
known_of Other = false

-- the lengths that a payload may have
abbrev pub fits_of : Row → ℕ → Bool
fits_of row size = leb row.least size && leb size row.most && eqb ((size - row.least) % 4) 0

-- ---- a record

-- where a record begins: the payload's length in 4 bytes, the kind in 2, and the payload
abbrev pub size_of : List ℕ → ℕ
size_of left = number_at 0 4 left

abbrev pub row_of : List ℕ → Row
row_of left = row_by (number_at 4 2 left)

abbrev pub kind_of : List ℕ → Kind
kind_of left = (row_of left).kind

abbrev pub payload_of : List ℕ → List ℕ
payload_of left = take (size_of left) (drop 6 left)

-- kind 1: a base in 2 bytes, and cells in 4 each
abbrev pub base_of : List ℕ → ℕ
base_of payload = number_at 0 2 payload

abbrev pub count_of : List ℕ → ℕ
count_of payload = (length payload - 2) / 4

unfoldable pub words_of : ℕ → List ℕ → List ℕ
words_of zero bytes = []
words_of (suc n) bytes = number_at 0 4 bytes ∷ words_of n (drop 4 bytes)

abbrev pub cells_in : List ℕ → List ℕ
cells_in payload = words_of (count_of payload) (drop 2 payload)

-- kind 2: a register in 1 byte, and its value in 4
abbrev pub register_of : List ℕ → ℕ
register_of payload = number_at 0 1 payload

abbrev pub register_value : List ℕ → ℕ
register_value payload = number_at 1 4 payload

-- kind 3: flags and mask in 2 bytes each, and the mode in 1
abbrev pub settings_in : List ℕ → Settings
settings_in payload = record { flags = number_at 0 2 payload; mask = number_at 2 2 payload; mode = number_at 4 1 payload }

-- kind 5: the host's five words in 4 bytes each
abbrev pub host_in : List ℕ → List ℕ
host_in payload = words_of 5 payload

-- kind 4 is the last; with a kind that is none the walk ends too
abbrev pub ends_of : Kind → Bool
ends_of Run = false
ends_of Register = false
ends_of Setup = false
ends_of Host = false
ends_of End = true
ends_of Other = true

-- ---- the order of records

-- what the records so far leave to the order: the last kind's place, the end of the last cells, and the least register that may come
abbrev pub nothing_yet : Past
nothing_yet = record { rank = 0; end = 0; next = 0 }

abbrev pub past_of : Past → Kind → ℕ → List ℕ → Past
past_of past Run rank payload = record { rank = rank; end = base_of payload + count_of payload; next = past.next }
past_of past Register rank payload = record { rank = rank; end = past.end; next = register_of payload + 1 }
past_of past Setup rank payload = record { rank = rank; end = past.end; next = past.next }
past_of past Host rank payload = record { rank = rank; end = past.end; next = past.next }
past_of past End rank payload = past
past_of past Other rank payload = past

-- cells begin no earlier than the last ended, a register is above the last, and settings and the host's words come once
abbrev pub rises_of : Past → Kind → ℕ → List ℕ → Bool
rises_of past Run rank payload = leb past.end (base_of payload)
rises_of past Register rank payload = leb past.next (register_of payload)
rises_of past Setup rank payload = ltb past.rank rank
rises_of past Host rank payload = ltb past.rank rank
rises_of past End rank payload = true
rises_of past Other rank payload = true

-- and no kind comes after a later one
unfoldable pub in_order : Past → Row → List ℕ → Bool
in_order past row payload = leb past.rank row.rank && rises_of past row.kind row.rank payload

-- ---- what the records make

-- registers, settings, the host's words and cells
pub record Content : Type 0 where
  pub regs : List ℕ
  pub settings : Settings
  pub host : List ℕ
  pub cells : List ℕ

-- what no record names: a fresh machine's registers and settings, the words that the host gave, and m cells that are 0
abbrev pub unnamed : List ℕ → ℕ → Content
unnamed host m = record { regs = replicate 256 0; settings = fresh_settings; host = host; cells = replicate m 0 }

-- what a record names
abbrev pub content_of : Kind → List ℕ → Content → Content
content_of Run payload c = record { regs = c.regs; settings = c.settings; host = c.host; cells = sets c.cells (base_of payload) (cells_in payload) }
content_of Register payload c = record { regs = set c.regs (register_of payload) (register_value payload); settings = c.settings; host = c.host; cells = c.cells }
content_of Setup payload c = record { regs = c.regs; settings = settings_in payload; host = c.host; cells = c.cells }
content_of Host payload c = record { regs = c.regs; settings = c.settings; host = host_in payload; cells = c.cells }
content_of End payload c = c
content_of Other payload c = c

-- the records left, one after the other up to the last: at most n of them
unfoldable pub content_from : ℕ → List ℕ → Content → Content
content_from zero left c = c
content_from (suc n) left c =
    cond (ends_of (kind_of left)) c
    (content_from n (drop (6 + size_of left) left) (content_of (kind_of left) (payload_of left) c))

-- ---- refusals

-- a refusal has a number and the offset of its record
pub record Notice : Type 0 where
  pub number : ℕ
  pub offset : ℕ

abbrev pub refused_at : ℕ → ℕ → Option Notice
refused_at number offset = some (record { number = number; offset = offset })

-- 45: a run ends within the m cells
abbrev pub within_of : ℕ → Kind → List ℕ → Bool
within_of m Run payload = leb (base_of payload + count_of payload) m
within_of m Register payload = true
within_of m Setup payload = true
within_of m Host payload = true
within_of m End payload = true
within_of m Other payload = true

-- 10: settings are in range
abbrev pub settings_fit : Kind → List ℕ → Bool
settings_fit Run payload = true
settings_fit Register payload = true
settings_fit Setup payload = not (bad_settings (settings_in payload))
settings_fit Host payload = true
settings_fit End payload = true
settings_fit Other payload = true

-- what becomes of a record: refused with a number, the last, or on to the next with this record's bytes and the past
pub data Fate : Type 0 where
  refused : ℕ → Fate
  last : Fate
  further : ℕ → Past → Fate

abbrev pub passed : Bool → Past → ℕ → Fate
passed true past size = last
passed false past size = further (6 + size) past

-- a payload: out of order, past the cells, settings out of range
abbrev pub payload_fate : ℕ → Past → Row → List ℕ → ℕ → Fate
payload_fate m past row payload size =
    cond (not (in_order past row payload)) (refused 46)
    (cond (not (within_of m row.kind payload)) (refused 45)
    (cond (not (settings_fit row.kind payload)) (refused 10)
    (passed (ends_of row.kind) (past_of past row.kind row.rank payload) size)))

-- a record, first: no whole head, no such kind, no such length, no whole payload
unfoldable pub fate_of : ℕ → Past → List ℕ → Fate
fate_of m past left =
    cond (ltb (length left) 6) (refused 41)
    (cond (not (known_of (kind_of left))) (refused 42)
    (cond (not (fits_of (row_of left) (size_of left))) (refused 43)
    (cond (ltb (length left) (6 + size_of left)) (refused 44)
    (payload_fate m past (row_of left) (payload_of left) (size_of left)))))

-- after the last record: 47 where the first byte more stands
abbrev pub after_end : ℕ → ℕ → Option Notice
after_end zero offset = none
after_end (suc more) offset = refused_at 47 offset

abbrev pub followed : (List ℕ → ℕ → Past → Option Notice) → Fate → List ℕ → ℕ → Option Notice
followed rest (refused number) left offset = refused_at number offset
followed rest last left offset = after_end (length left - 6) (offset + 6)
followed rest (further size past) left offset = rest (drop size left) (offset + size) past

-- The first refusal of the records left, from an offset on, or none. A record has at least 6 bytes, so no job has as many records as
-- it has bytes: the first number only says that the walk ends.
unfoldable pub refusal_from : ℕ → ℕ → List ℕ → ℕ → Past → Option Notice
refusal_from zero m left offset past = refused_at 41 offset
refusal_from (suc n) m left offset past = followed (refusal_from n m) (fate_of m past left) left offset

-- before all records: 12, at 0
unfoldable pub refusal_in : ℕ → List ℕ → Option Notice
refusal_in m job = cond (bad_cells m) (refused_at 12 0) (refusal_from (length job) m job 0 nothing_yet)

-- ---- a load

-- all that a load leaves: machine and cells, and what it says: a refusal's number and offset, or 0 and 0
pub record Load : Type 0 where
  pub machine : Machine
  pub cells : List ℕ
  pub said : Notice

abbrev pub loaded_with : Content → Load
loaded_with c = record {
  machine = record { regs = c.regs; settings = c.settings; depth = 0; host = c.host };
  cells = c.cells;
  said = record { number = 0; offset = 0 };
}

-- refused: a fresh machine, and the cells as they were; else what the records make
abbrev pub loaded_by : Option Notice → List ℕ → List ℕ → List ℕ → Load
loaded_by (some said) job host cells = record { machine = fresh_machine; cells = cells; said = said }
loaded_by none job host cells = loaded_with (content_from (length job) job (unnamed host (length cells)))

-- a job, the host's words and the cells
abbrev pub load_of : List ℕ → List ℕ → List ℕ → Load
load_of job host cells = loaded_by (refusal_in (length cells) job) job host cells
