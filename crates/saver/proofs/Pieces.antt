-- Pieces stored one after the other, and the pieces of a saved job: where each begins, and how long they are at most.
-- Assumes nothing.
use Prim.Native.Nat.{ℕ, suc, ◌+◌, ◌-◌, ◌*◌, ◌≤◌, ◌<◌}
use mathlib.Core.Path.{refl, sym, ap, ◌≡◌, ◌∙◌}
use mathlib.Core.Bool.{true, false}
use mathlib.Core.List.{List, [], append-nil, ◌∷◌, ◌++◌}
use native.Mathlib.Nat.{add-zero}
use native.Mathlib.Numerals.{add-one}
use native.Mathlib.Omega.{arith}
use lib.Dec.{eqb}
use lib.ListN.{length, get_or, take, drop, length-append, length-drop, drop_of_length-le}
use lib.Seq.{sets, length-sets, length-take-le, take-suc, drop-cons}
use Rattle.std.proofs.lemmas.List.{get_or-drop}
use borrow.Author.Tests.{eq-eqb, ne_eqb}
use Rattle.machine.specs.declared.Settings.{Settings}
use Rattle.machine.proofs.Tests.{picked}
use Rattle.text.proofs.Adds.{sets_append}
use Rattle.machine.specs.State.{most_cells}
use Rattle.lent.specs.Little.{bytes_of}
use Rattle.saver.specs.Saving.{record_of, word_bytes, run_record, runs_from, value_record, values_from, fresh_of, setup_of, host_of}
use Rattle.saver.specs.Inner.{Stored, Fits}
use Rattle.lent.proofs.Numbers.{length-bytes}

-- a piece stored where another ends
pub stored_then : (p q : List ℕ) {l m n : List ℕ} {at k r : ℕ} → Stored l at p m k → Stored m k q n r → Stored l at (p ++ q) n r
stored_then p q {l} {m} {n} {at} {k} {r} s t =
    record {
      end = simp length-append (omega arith);
      text = t.text ∙ ap (λ (i : ℕ). sets m i q) s.end ∙ ap (λ (a : List ℕ). sets a (at + length p) q) s.text ∙ sym (sets_append p q l at);
    }

pub stored_none : (l : List ℕ) (at : ℕ) → Stored l at [] l at
stored_none l at = record { end = omega arith; text = refl }

-- A loop that stores a piece: what is left of it leads where the whole piece leads.
pub record Left (before : List ℕ) (at : ℕ) (piece : List ℕ) (now : List ℕ) (next : ℕ) (left : List ℕ) : Type 0 where
  pub end : next + length left ≡ at + length piece
  pub text : sets now next left ≡ sets before at piece

-- a piece made of two
pub record Parts (w q r : List ℕ) : Type 0 where
  pub parts : w ≡ q ++ r

module _ {l p : List ℕ} {at : ℕ} where
  pub whole_left : Left l at p l at p
  whole_left = record { end = refl; text = refl }

  module _ {w q r m : List ℕ} {k : ℕ} (e : Parts w q r) (h : Left l at p m k w) where
    ends : k + (length q + length r) ≡ at + length p
    ends = ap (λ (x : ℕ). k + x) (sym (ap length e.parts ∙ length-append q r)) ∙ h.end

    pub left_fits : Fits at p → Fits k q
    left_fits f = let g = ends in omega arith

    pub left_turn : {n : List ℕ} {j : ℕ} → Stored m k q n j → Left l at p n j r
    left_turn s =
        let g = ends in
        let t : sets (sets m k q) (k + length q) r ≡ sets l at p = sym (ap (λ (x : List ℕ). sets m k x) e.parts ∙ sets_append q r m k) ∙ h.text in
        record { end = omega (arith, s.end); text = rw (s.end, s.text) t }

  pub left_over : {w m : List ℕ} {k : ℕ} → w ≡ [] → Left l at p m k w → Stored l at p m k
  left_over e h = record { end = rw (e, add-zero) at h.end; text = rw e at h.text }

  pub left_same : {w v m : List ℕ} {k : ℕ} → w ≡ v → Left l at p m k w → Left l at p m k v
  left_same e h = record { end = rw e at h.end; text = rw e at h.text }

  pub left_length : {m w : List ℕ} {k : ℕ} → Left l at p m k w → length m ≡ length l
  left_length {m} {w} {k} h = sym (length-sets m k w) ∙ ap length h.text ∙ length-sets l at p

-- ---- a run's cells

pub word_turn : (words : List ℕ) (i : ℕ) → i < length words → Parts (word_bytes (drop i words)) (bytes_of 4 (get_or words i 0)) (word_bytes (drop (i + 1) words))
unfolding word_bytes
word_turn words i h = record { parts = rw (drop-cons words i 0 h, add-one) }

pub word_over : (words : List ℕ) (i : ℕ) → length words ≤ i → word_bytes (drop i words) ≡ []
unfolding word_bytes
word_over words i h = rw (drop_of_length-le words {i = i} h)

pub length-word_bytes : (words : List ℕ) → length (word_bytes words) ≡ 4 * length words
unfolding word_bytes
length-word_bytes [] = refl
length-word_bytes (v ∷ words) = length-append (bytes_of 4 v) (word_bytes words) ∙ rw (length-bytes 4 v, length-word_bytes words) (omega arith)

-- ---- the pieces of a saved job

pub length-record : (kind : ℕ) (payload : List ℕ) → length (record_of kind payload) ≡ 6 + length payload
unfolding record_of
length-record kind payload = simp (length-append, length-bytes)

pub head_length : (size kind : ℕ) → length (bytes_of 4 size ++ bytes_of 2 kind) ≡ 6
head_length size kind = simp (length-append, length-bytes)

-- a record: its head, and then its payload
pub stored_record : (kind n : ℕ) (payload : List ℕ) {l m o : List ℕ} {at k r : ℕ} → length payload ≡ n
    → Stored l at (bytes_of 4 n ++ bytes_of 2 kind) m k → Stored m k payload o r → Stored l at (record_of kind payload) o r
unfolding record_of
stored_record kind n payload e s t = rw e (stored_then (bytes_of 4 n ++ bytes_of 2 kind) payload s t)

pub run_record_lem : (base : ℕ) (run : List ℕ) → (length run ≡ 0 → ⊥) → run_record base run ≡ record_of 1 (bytes_of 2 base ++ word_bytes run)
unfolding run_record
run_record_lem base [] h = absurd (h refl)
run_record_lem base (v ∷ run) h = refl

pub run_payload_lem : (base : ℕ) (run : List ℕ) → length (bytes_of 2 base ++ word_bytes run) ≡ 2 + 4 * length run
run_payload_lem base run = length-append (bytes_of 2 base) (word_bytes run) ∙ rw (length-bytes 2 base, length-word_bytes run)

pub run_length : (base : ℕ) (run : List ℕ) → (length run ≡ 0 → ⊥) → length (run_record base run) ≡ 8 + 4 * length run
run_length base run h = ap length (run_record_lem base run h) ∙ length-record 1 (bytes_of 2 base ++ word_bytes run) ∙ rw (run_payload_lem base run) (omega arith)

-- the record of no payload is its head
pub stored_end : (kind : ℕ) {l m : List ℕ} {at k : ℕ} → Stored l at (bytes_of 4 0 ++ bytes_of 2 kind) m k → Stored l at (record_of kind []) m k
unfolding record_of
stored_end kind s = rw append-nil s

pub run_none : (base : ℕ) (run : List ℕ) → length run ≡ 0 → run_record base run ≡ []
unfolding run_record
run_none base [] h = refl
run_none base (v ∷ run) h = absurd (omega arith)

-- ---- the runs, cell by cell

-- the cells of a run that has begun, up to a place
abbrev pub begun : List ℕ → ℕ → ℕ → List ℕ
begun cells base i = take (i - base) (drop base cells)

pub begun_length : (cells : List ℕ) (base i : ℕ) → i ≤ length cells → length (begun cells base i) ≡ i - base
begun_length cells base i h = length-take-le (i - base) (drop base cells) (simp length-drop (omega arith))

begun_more : (cells : List ℕ) (base i : ℕ) → base ≤ i → i < length cells → begun cells base (i + 1) ≡ begun cells base i ++ (get_or cells i 0 ∷ [])
begun_more cells base i b h =
    let n : i + 1 - base ≡ suc (i - base) = omega arith in
    let k : base + (i - base) ≡ i = omega arith in
    rw (n, take-suc (drop base cells) (i - base) 0 (simp length-drop (omega arith)), get_or-drop base cells (i - base) 0, k)

-- a cell that is not 0 goes to the run
pub runs_on : (cells : List ℕ) (base i : ℕ) → base ≤ i → i < length cells → (get_or cells i 0 ≡ 0 → ⊥)
    → runs_from base (begun cells base i) (drop i cells) ≡ runs_from base (begun cells base (i + 1)) (drop (i + 1) cells)
unfolding runs_from
runs_on cells base i b h z = let m : i + 1 ≡ suc i = omega arith in rw (drop-cons cells i 0 h, ne_eqb (get_or cells i 0) 0 z, begun_more cells base i b h, m)

-- one that is 0 ends it
pub runs_turn : (cells : List ℕ) (base i : ℕ) → base ≤ i → i < length cells → get_or cells i 0 ≡ 0
    → Parts (runs_from base (begun cells base i) (drop i cells)) (run_record base (begun cells base i)) (runs_from (i + 1) (begun cells (i + 1) (i + 1)) (drop (i + 1) cells))
unfolding runs_from
runs_turn cells base i b h z =
    let n : base + length (begun cells base i) + 1 ≡ i + 1 = omega (arith, begun_length cells base i (omega arith)) in
    let k : i + 1 - (i + 1) ≡ 0 = omega arith in
    record { parts = rw (drop-cons cells i 0 h, eq-eqb (get_or cells i 0) 0 z, n, k, add-one) }

-- and so does the last cell's end
pub runs_end : (cells : List ℕ) (base i : ℕ) → i ≡ length cells
    → Parts (runs_from base (begun cells base i) (drop i cells)) (run_record base (begun cells base (length cells))) []
unfolding runs_from
runs_end cells base i e = record { parts = rw (drop_of_length-le cells {i = i} (omega arith), e, append-nil) }

pub value_none : (i v : ℕ) → v ≡ 0 → value_record i v ≡ []
unfolding value_record
value_none i v h = rw (eq-eqb v 0 h)

pub value_record_lem : (i v : ℕ) → (v ≡ 0 → ⊥) → value_record i v ≡ record_of 2 (bytes_of 1 i ++ bytes_of 4 v)
unfolding value_record
value_record_lem i v h = rw (ne_eqb v 0 h)

pub value_payload_lem : (i v : ℕ) → length (bytes_of 1 i ++ bytes_of 4 v) ≡ 5
value_payload_lem i v = simp (length-append, length-bytes)

pub value_length : (i v : ℕ) → (v ≡ 0 → ⊥) → length (value_record i v) ≡ 11
value_length i v h = ap length (value_record_lem i v h) ∙ length-record 2 (bytes_of 1 i ++ bytes_of 4 v) ∙ ap (λ (n : ℕ). 6 + n) (value_payload_lem i v)

pub setup_none : (s : Settings) → fresh_of s ≡ true → setup_of s ≡ []
unfolding setup_of
setup_none s h = rw h

pub setup_record : (s : Settings) → fresh_of s ≡ false → setup_of s ≡ record_of 3 (bytes_of 2 s.flags ++ bytes_of 2 s.mask ++ bytes_of 1 s.mode)
unfolding setup_of
setup_record s h = rw h

pub setup_payload_lem : (s : Settings) → length (bytes_of 2 s.flags ++ bytes_of 2 s.mask ++ bytes_of 1 s.mode) ≡ 5
setup_payload_lem s = simp (length-append, length-bytes)

-- the host's words are a record of 26 bytes
pub host_record : (words : List ℕ) → host_of words ≡ record_of 5 (word_bytes words)
unfolding host_of
host_record words = refl

pub host_payload : (words : List ℕ) → length words ≡ 5 → length (word_bytes words) ≡ 20
host_payload words h = length-word_bytes words ∙ rw h

pub host_length : (words : List ℕ) → length words ≡ 5 → length (host_of words) ≡ 26
host_length words h = ap length (host_record words) ∙ length-record 5 (word_bytes words) ∙ ap (λ (n : ℕ). 6 + n) (host_payload words h)

pub values_turn : (regs : List ℕ) (i : ℕ) → i < length regs → Parts (values_from i (drop i regs)) (value_record i (get_or regs i 0)) (values_from (i + 1) (drop (i + 1) regs))
unfolding values_from
values_turn regs i h = record { parts = rw (drop-cons regs i 0 h, add-one) }

pub values_over : (regs : List ℕ) (i : ℕ) → length regs ≤ i → values_from i (drop i regs) ≡ []
unfolding values_from
values_over regs i h = rw (drop_of_length-le regs {i = i} h)

-- ---- how long they are at most

run_short : (base : ℕ) (run : List ℕ) → length (run_record base run) ≤ 12 * length run
unfolding run_record
run_short base [] = omega arith
run_short base (v ∷ run) = omega (arith, run_length base (v ∷ run) (λ e. omega arith))

pub runs_short : (cells run : List ℕ) (base : ℕ) → length (runs_from base run cells) ≤ 12 * (length run + length cells)
unfolding runs_from
runs_short [] run base = omega (arith, run_short base run)
runs_short (v ∷ cells) run base =
    picked (λ (l : List ℕ). length l ≤ 12 * (length run + suc (length cells))) (eqb v 0) _ _
    (λ t. omega (arith, length-append (run_record base run) (runs_from (base + length run + 1) [] cells), run_short base run, runs_short cells [] (base + length run + 1)))
    (λ t. omega (arith, length-append run (v ∷ []), runs_short cells (run ++ v ∷ []) base))

value_short : (i v : ℕ) → length (value_record i v) ≤ 11
unfolding value_record
value_short i v = picked (λ (l : List ℕ). length l ≤ 11) (eqb v 0) _ _ (λ t. omega arith)
    (λ t. simp (length-record, length-append, length-bytes) (omega arith))

values_short : (regs : List ℕ) (i : ℕ) → length (values_from i regs) ≤ 11 * length regs
unfolding values_from
values_short [] i = omega arith
values_short (v ∷ regs) i = omega (arith, length-append (value_record i v) (values_from (i + 1) regs), value_short i v, values_short regs (i + 1))

pub setup_short : (s : Settings) → length (setup_of s) ≤ 11
unfolding setup_of
setup_short s = picked (λ (l : List ℕ). length l ≤ 11) (fresh_of s) _ _ (λ t. omega arith)
    (λ t. simp (length-record, length-append, length-bytes) (omega arith))

-- cells and registers together
pub job_short : (cells regs : List ℕ) → length cells ≤ most_cells → length regs ≡ 256 → length (runs_from 0 [] cells) + length (values_from 0 regs) ≤ 200000
job_short cells regs h n = omega (arith, runs_short cells [] 0, values_short regs 0)
