-- A job that loads gives a lawful machine: 256 registers below 2^32, settings in range, depth 0, five words below 2^32 where the host gives such,
-- and as many cells as before, below 2^32.
-- Assumes nothing.
use Prim.Native.Nat.{ℕ, zero, suc, ◌+◌, ◌-◌, ◌≤◌}
use mathlib.Core.Path.{◌≡◌, refl, ap, ◌∙◌}
use mathlib.Core.Bool.{Bool, true, false, cond, not, ◌||◌}
use mathlib.Core.Option.{Option, none, some}
use mathlib.Core.List.{List, [], ◌∷◌}
use native.Mathlib.Omega.{arith}
use lib.Dec.{leb, ltb, eqb}
use lib.ListN.{length, set, drop, replicate, length-set, length-replicate}
use lib.Seq.{sets, length-sets}
use borrow.Author.Tests.{leb-false, eqb-false, not-true}
use Rattle.machine.specs.declared.Settings.{Settings}
use Rattle.machine.specs.State.{flags_bound, InRange, most_cells, state_of, bad_cells, bad_settings}
use Rattle.machine.proofs.Tests.{picked, or_left, or_right}
use Rattle.machine.specs.Lawful.{Words, Lawful}
use Rattle.machine.proofs.Words.{set_words}
use Rattle.job.specs.declared.records.Kind.{Kind}
use Rattle.job.specs.declared.records.Kind.TheVariants.{Run, Register, Setup, Host, End, Other}
use Rattle.job.specs.declared.records.Past.{Past}
use Rattle.job.specs.Job.{words_of, cells_in, base_of, count_of, register_of, register_value, settings_in, known_of, fits_of, ends_of, size_of, row_of, kind_of, payload_of, in_order, within_of, settings_fit, past_of, nothing_yet, Fate, refused, last, further, passed, fate_of, Notice, refused_at, after_end, followed, refusal_from, refusal_in, Content, content_of, content_from, unnamed, loaded_with, loaded_by, load_of}
use Rattle.lent.specs.Little.{Bytes}
use Rattle.lent.proofs.Numbers.{bytes_drop, bytes_take, below_4}
use Rattle.job.specs.Loads.{Loads, Given}
use Rattle.machine.proofs.Checks.{not_above}
use Rattle.job.proofs.Rules.{impossible}
use Rattle.job.proofs.Walk.{passing}
use Rattle.job.proofs.Words.{length-words}

-- what the records so far have made; of the host's words only where something is known of them
record Good (m : ℕ) (P : Type 0) (c : Content) : Type 0 where
  registers : length c.regs ≡ 256
  words : Words c.regs
  settled : InRange c.settings
  host : P → Given c.host
  cells : Words c.cells
  size : length c.cells ≡ m

sets_words : (vs l : List ℕ) (i : ℕ) → Words l → Words vs → Words (sets l i vs)
sets_words [] l i w v = w
sets_words (x ∷ vs) l i w v = sets_words vs (set l i x) (suc i) (set_words l i x w (v 0)) (λ j. v (suc j))

words_of_lem : (n : ℕ) (bytes : List ℕ) → Bytes bytes → Words (words_of n bytes)
unfolding words_of
words_of_lem zero bytes b i = omega arith
words_of_lem (suc n) bytes b zero = below_4 0 4 bytes (omega arith) b
words_of_lem (suc n) bytes b (suc i) = words_of_lem n (drop 4 bytes) (bytes_drop 4 bytes b) i

zeros : (n : ℕ) → Words (replicate n 0)
zeros zero i = omega arith
zeros (suc n) zero = omega arith
zeros (suc n) (suc i) = zeros n i

pub in_range : (s : Settings) → bad_settings s ≡ false → InRange s
in_range s h =
    let f = leb flags_bound s.flags in
    let m = leb flags_bound s.mask in
    let o = leb 4 s.mode in
    record {
      flags = leb-false flags_bound s.flags (or_left f m (or_left (f || m) o h));
      mask = leb-false flags_bound s.mask (or_right f m (or_left (f || m) o h));
      mode = leb-false 4 s.mode (or_right (f || m) o h);
    }

-- a record that has passed keeps it
carried : (m : ℕ) (P : Type 0) (kind : Kind) (payload : List ℕ) (c : Content) → Bytes payload → settings_fit kind payload ≡ true → Good m P c → Good m P (content_of kind payload c)
carried m P Run payload c b s g = record {
  registers = g.registers;
  words = g.words;
  settled = g.settled;
  host = g.host;
  cells = sets_words (cells_in payload) c.cells (base_of payload) g.cells (words_of_lem (count_of payload) (drop 2 payload) (bytes_drop 2 payload b));
  size = length-sets c.cells (base_of payload) (cells_in payload) ∙ g.size;
}
carried m P Register payload c b s g = record {
  registers = length-set c.regs (register_of payload) (register_value payload) ∙ g.registers;
  words = set_words c.regs (register_of payload) (register_value payload) g.words (below_4 1 4 payload (omega arith) b);
  settled = g.settled;
  host = g.host;
  cells = g.cells;
  size = g.size;
}
carried m P Setup payload c b s g = record {
  registers = g.registers;
  words = g.words;
  settled = in_range (settings_in payload) (not-true (bad_settings (settings_in payload)) s);
  host = g.host;
  cells = g.cells;
  size = g.size;
}
carried m P Host payload c b s g = record {
  registers = g.registers;
  words = g.words;
  settled = g.settled;
  host = λ p. record { five = length-words 5 payload; words = words_of_lem 5 payload b };
  cells = g.cells;
  size = g.size;
}
carried m P End payload c b s g = g
carried m P Other payload c b s g = g

-- the course of a record that has passed tells whether it ends the job
ends_by : (t : Bool) (past : Past) (size : ℕ) → passed t past size ≡ last → t ≡ true
ends_by true past size h = refl
ends_by false past size h = impossible (cc)

goes_by : (t : Bool) (past seen : Past) (size n : ℕ) → passed t past size ≡ further n seen → (t ≡ false) × (n ≡ 6 + size)
goes_by true past seen size n h = impossible (cc)
goes_by false past seen size n h = (refl, cc)

walked : (n m : ℕ) (P : Type 0) (left : List ℕ) (offset : ℕ) (past : Past) (c : Content) → Bytes left → refusal_from n m left offset past ≡ none → Good m P c → Good m P (content_from n left c)
unfolding refusal_from content_from
walked zero m P left offset past c b h g = impossible (cc)
walked (suc n) m P left offset past c b h g = by_course (fate_of m past left) refl h (λ size seen d e. walked n m P d e seen _) g
  where
    by_course : (v : Fate) → fate_of m past left ≡ v → followed (refusal_from n m) v left offset ≡ none
        → ((size : ℕ) (seen : Past) (d : List ℕ) (e : ℕ) → Bytes d → refusal_from n m d e seen ≡ none → Good m P (content_of (kind_of left) (payload_of left) c) → Good m P (content_from n d (content_of (kind_of left) (payload_of left) c)))
        → Good m P c → Good m P (cond (ends_of (kind_of left)) c (content_from n (drop (6 + size_of left) left) (content_of (kind_of left) (payload_of left) c)))
    by_course (refused k) e q f g = impossible (cc)
    by_course last e q f g =
        let p = passing m past left last refl e in
        rw (ends_by (ends_of (kind_of left)) _ _ p.course) g
    by_course (further size seen) e q f g =
        let p = passing m past left (further size seen) refl e in
        let w = goes_by (ends_of (kind_of left)) _ seen (size_of left) size p.course in
        let q' : refusal_from n m (drop (6 + size_of left) left) (offset + size) seen ≡ none = rw (← w.1) q in
        rw w.0
        (f size seen (drop (6 + size_of left) left) (offset + size) (bytes_drop (6 + size_of left) left b) q'
        (carried m P (kind_of left) (payload_of left) c (bytes_take (size_of left) (drop 6 left) (bytes_drop 6 left b)) p.settled g))

-- a refusal has a number, so that what is said tells whether a job loads
abbrev Named : Option Notice → Type 0
Named none = Prim.Unit {0}
Named (some x) = x.number ≡ 0 → ⊥

abbrev Numbered : Fate → Type 0
Numbered (refused k) = k ≡ 0 → ⊥
Numbered last = Prim.Unit {0}
Numbered (further size past) = Prim.Unit {0}

passed_numbered : (t : Bool) (past : Past) (size : ℕ) → Numbered (passed t past size)
passed_numbered true past size = tt
passed_numbered false past size = tt

course_numbered : (m : ℕ) (past : Past) (left : List ℕ) → Numbered (fate_of m past left)
unfolding fate_of
course_numbered m past left =
    let row = row_of left in
    let kind = kind_of left in
    let payload = payload_of left in
    picked Numbered (ltb (length left) 6) _ _ (λ t e. omega arith) (λ t.
    picked Numbered (not (known_of kind)) _ _ (λ t e. omega arith) (λ t.
    picked Numbered (not (fits_of row (size_of left))) _ _ (λ t e. omega arith) (λ t.
    picked Numbered (ltb (length left) (6 + size_of left)) _ _ (λ t e. omega arith) (λ t.
    picked Numbered (not (in_order past row payload)) _ _ (λ t e. omega arith) (λ t.
    picked Numbered (not (within_of m kind payload)) _ _ (λ t e. omega arith) (λ t.
    picked Numbered (not (settings_fit kind payload)) _ _ (λ t e. omega arith) (λ t.
    passed_numbered (ends_of kind) (past_of past kind row.rank payload) (size_of left))))))))

end_named : (more offset : ℕ) → Named (after_end more offset)
end_named zero offset = tt
end_named (suc more) offset = λ e. omega arith

follow_named : (rest : List ℕ → ℕ → Past → Option Notice) (v : Fate) (left : List ℕ) (offset : ℕ) → Numbered v
    → ((l : List ℕ) (o : ℕ) (p : Past) → Named (rest l o p)) → Named (followed rest v left offset)
follow_named rest (refused k) left offset h f = h
follow_named rest last left offset h f = end_named (length left - 6) (offset + 6)
follow_named rest (further size past) left offset h f = f (drop size left) (offset + size) past

walk_named : (n m : ℕ) (left : List ℕ) (offset : ℕ) (past : Past) → Named (refusal_from n m left offset past)
unfolding refusal_from
walk_named zero m left offset past = λ e. omega arith
walk_named (suc n) m left offset past =
    follow_named (refusal_from n m) (fate_of m past left) left offset (course_numbered m past left) (walk_named n m)

refusal_named : (m : ℕ) (job : List ℕ) → Named (refusal_in m job)
unfolding refusal_in
refusal_named m job = picked Named (bad_cells m) _ _ (λ t e. omega arith) (λ t. walk_named (length job) m job 0 nothing_yet)

loads : (o : Option Notice) (job host cells : List ℕ) → Named o → (loaded_by o job host cells).said ≡ record { number = 0; offset = 0 } → o ≡ none
loads none job host cells f h = refl
loads (some x) job host cells f h = absurd (f (ap (λ (y : Notice). y.number) h))

module _ (job host cells : List ℕ) (bytes : Bytes job) (h : Loads job host cells) where
  free : refusal_in (length cells) job ≡ none
  free = loads (refusal_in (length cells) job) job host cells (refusal_named (length cells) job) h

  split : (t : Bool) (m : ℕ) {o : Option Notice} → cond t (refused_at 12 0) o ≡ none → (t ≡ false) × (o ≡ none)
  split true m e = impossible (cc)
  split false m e = (refl, e)

  fine : (bad_cells (length cells) ≡ false) × (refusal_from (length job) (length cells) job 0 nothing_yet ≡ none)
  unfolding refusal_in
  fine = split (bad_cells (length cells)) (length cells) free

  pub some_cells : 1 ≤ length cells
  some_cells =
      let z = eqb-false (length cells) 0 (or_left (eqb (length cells) 0) (ltb most_cells (length cells)) fine.0) in
      omega arith

  pub few_cells : length cells ≤ most_cells
  few_cells = not_above (length cells) fine.0

  made : Good (length cells) (Given host) (content_from (length job) job (unnamed host (length cells)))
  made = walked (length job) (length cells) (Given host) job 0 nothing_yet (unnamed host (length cells)) bytes fine.1 (record {
    registers = length-replicate {A = ℕ} 256 0;
    words = zeros 256;
    settled = record { flags = omega arith; mask = omega arith; mode = omega arith };
    host = λ p. p;
    cells = zeros (length cells);
    size = length-replicate {A = ℕ} (length cells) 0;
  })

  pub loaded_lawful : Given host → (journal : List ℕ) → Lawful (state_of (load_of job host cells).machine (load_of job host cells).cells journal)
  loaded_lawful given journal = rw free (record {
    registers = made.registers;
    words = made.words;
    cells = made.cells;
    five = (made.host given).five;
    given = (made.host given).words;
    ready = record { settled = made.settled; room = omega arith };
  })

  pub loaded_depth : (load_of job host cells).machine.depth ≡ 0
  loaded_depth = rw free

  pub loaded_cells : length (load_of job host cells).cells ≡ length cells
  loaded_cells = rw free made.size

  pub loaded_from : load_of job host cells ≡ loaded_with (content_from (length job) job (unnamed host (length cells)))
  loaded_from = rw free
