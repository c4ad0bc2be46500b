-- A record that was written is read back, and so is each piece of a saved job: the walks over it pass on to what follows the piece, with its
-- content carried out.
-- Assumes nothing.
use Prim.Native.Nat.{ℕ, zero, suc, ◌+◌, ◌-◌, ◌*◌, ◌^◌, ◌%◌, ◌≤◌, ◌<◌}
use mathlib.Core.Path.{◌≡◌, refl, sym, ap, subst, ◌∙◌}
use mathlib.Core.Bool.{Bool, true, false, not, ◌&&◌}
use mathlib.Core.Option.{none}
use mathlib.Core.List.{List, [], ◌∷◌, ◌++◌, append_assoc, append-nil}
use native.Mathlib.Numerals.{add-one}
use native.Mathlib.Omega.{arith}
use lib.Dec.{eqb}
use lib.ListN.{length, get_or, set, drop, length-append}
use lib.Seq.{sets, drop_at, drop-drop, take-append_seam, drop-append_seam, set-get_or, get_or-set_other}
use borrow.Author.Tests.{eqb-true, eqb-false, le-leb, lt-leb, lt-ltb, le-ltb, eq-eqb}
use Rattle.machine.specs.declared.Settings.{Settings}
use Rattle.machine.specs.State.{flags_bound, InRange, most_cells, fresh_settings, bad_settings}
use Rattle.machine.proofs.Tests.{picked}
use Rattle.lent.specs.Little.{little_of, bytes_of, number_at}
use Rattle.job.specs.Job.{row_by, known_of, fits_of, ends_of, base_of, count_of, words_of, cells_in, register_of, register_value, settings_in, host_in, size_of, row_of, kind_of, payload_of, past_of, in_order, within_of, settings_fit, passed, fate_of, refusal_from, Content, content_of, content_from}
use Rattle.saver.specs.Saving.{record_of, word_bytes, run_record, runs_from, value_record, values_from, fresh_of, setup_of, host_of}
use Rattle.lent.proofs.Numbers.{bound, take_bytes, drop_bytes, little_bytes}
use Rattle.job.proofs.Words.{number_drop}
use Rattle.job.proofs.Walk.{SoFar, fate_by}
use Rattle.job.proofs.Rules.{and_left, and_right}
use Rattle.text.proofs.Adds.{sets_append}
use Rattle.saver.proofs.Pieces.{head_length, length-record, run_payload_lem, value_none, value_record_lem, value_payload_lem, setup_none, setup_record, setup_payload_lem, host_record, host_payload}
use Rattle.machine.specs.Lawful.{Words}

-- ---- a number is read as it was written

read_number : (w v : ℕ) (rest : List ℕ) → v < bound w → number_at 0 w (bytes_of w v ++ rest) ≡ v
unfolding number_at
read_number w v rest h = ap little_of (take_bytes w v rest) ∙ little_bytes w v h

read_past : (w v a n : ℕ) (rest : List ℕ) → number_at (w + a) n (bytes_of w v ++ rest) ≡ number_at a n rest
read_past w v a n rest = sym (number_drop a w n (bytes_of w v ++ rest)) ∙ ap (number_at a n) (drop_bytes w v rest)

-- ---- a record

-- The walks over what is left of a job, from the past and the content so far: none of its records is refused, and they make this content.
abbrev pub Reads : ℕ → SoFar → Content → List ℕ → Content → Type 0
Reads m past c left final = (fuel offset : ℕ) → length left ≤ fuel → (refusal_from fuel m left offset past ≡ none) × (content_from fuel left c ≡ final)

-- a payload that passes every test
record Fine (m : ℕ) (past : SoFar) (n : ℕ) (payload : List ℕ) : Type 0 where
  known : known_of (row_by n).kind ≡ true
  fits : fits_of (row_by n) (length payload) ≡ true
  order : in_order past (row_by n) payload ≡ true
  within : within_of m (row_by n).kind payload ≡ true
  settled : settings_fit (row_by n).kind payload ≡ true

abbrev written : ℕ → List ℕ → List ℕ → List ℕ
written n payload rest = record_of n payload ++ rest

module _ (n : ℕ) (payload rest : List ℕ) (low : n < 65536) (short : length payload < 2 ^ 32) where
  headed : written n payload rest ≡ bytes_of 4 (length payload) ++ bytes_of 2 n ++ (payload ++ rest)
  unfolding record_of
  headed = append_assoc (bytes_of 4 (length payload) ++ bytes_of 2 n) payload rest

  parted : written n payload rest ≡ bytes_of 4 (length payload) ++ (bytes_of 2 n ++ (payload ++ rest))
  parted = headed ∙ append_assoc (bytes_of 4 (length payload)) (bytes_of 2 n) (payload ++ rest)

  size_back : size_of (written n payload rest) ≡ length payload
  unfolding bound
  size_back = rw parted (read_number 4 (length payload) (bytes_of 2 n ++ (payload ++ rest)) short)

  row_back : row_of (written n payload rest) ≡ row_by n
  unfolding bound
  row_back = ap row_by (rw parted (read_past 4 (length payload) 0 2 (bytes_of 2 n ++ (payload ++ rest)) ∙ read_number 2 n (payload ++ rest) low))

  kind_back : kind_of (written n payload rest) ≡ (row_by n).kind
  kind_back = λ i. (row_back i).kind

  after_head : drop 6 (written n payload rest) ≡ payload ++ rest
  after_head = rw headed (drop_at (bytes_of 4 (length payload) ++ bytes_of 2 n) (payload ++ rest) 6 (head_length (length payload) n))

  payload_back : payload_of (written n payload rest) ≡ payload
  payload_back = rw (size_back, after_head) (take-append_seam payload rest)

  rest_back : drop (6 + length payload) (written n payload rest) ≡ rest
  rest_back = sym (drop-drop (length payload) 6 (written n payload rest)) ∙ ap (drop (length payload)) after_head ∙ drop-append_seam payload rest

  long : length (written n payload rest) ≡ 6 + length payload + length rest
  long = length-append (record_of n payload) rest ∙ ap (λ (k : ℕ). k + length rest) (length-record n payload)

  module _ (m : ℕ) (past : SoFar) (f : Fine m past n payload) where
    course_back : fate_of m past (written n payload rest) ≡ passed (ends_of (row_by n).kind) (past_of past (row_by n).kind (row_by n).rank payload) (length payload)
    course_back =
        sym (fate_by m past (row_by n) (length payload) (written n payload rest) (sym row_back) (sym size_back))
        ∙ rw (
          le-ltb (length (written n payload rest)) 6 (omega (arith, long)),
          after_head,
          take-append_seam payload rest,
          le-ltb (length (written n payload rest)) (6 + length payload) (omega (arith, long)),
          f.known,
          f.fits,
          f.order,
          f.within,
          f.settled,
        )

    reads_on : (c final : Content) → ends_of (row_by n).kind ≡ false → Reads m (past_of past (row_by n).kind (row_by n).rank payload) (content_of (row_by n).kind payload c) rest final → Reads m past c (written n payload rest) final
    unfolding refusal_from content_from
    reads_on c final e r zero offset h = absurd (omega (arith, long))
    reads_on c final e r (suc k) offset h =
        let q = r k (offset + (6 + length payload)) (omega (arith, long)) in
        (rw (course_back, e, rest_back) q.0, rw (kind_back, e, payload_back, size_back, rest_back) q.1)

-- ---- kind 4

module _ (m : ℕ) (past : SoFar) (c : Content) (p : past.rank ≤ 5) where
  end_fine : Fine m past 4 []
  unfolding in_order row_by
  end_fine = record { known = refl; fits = refl; order = rw (le-leb past.rank 5 p); within = refl; settled = refl }

  ends_4 : ends_of (row_by 4).kind ≡ true
  unfolding row_by
  ends_4 = refl

  last : Reads m past c (written 4 [] []) c
  unfolding refusal_from content_from
  last zero offset h = absurd (omega (arith, long 4 [] [] (omega arith) (omega arith)))
  last (suc k) offset h = (
    rw (course_back 4 [] [] (omega arith) (omega arith) m past end_fine, ends_4, long 4 [] [] (omega arith) (omega arith)),
    rw (kind_back 4 [] [] (omega arith) (omega arith), ends_4),
  )

  pub reads_end : Reads m past c (record_of 4 []) c
  reads_end = subst (λ (l : List ℕ). Reads m past c l c) (append-nil (record_of 4 [])) last

-- ---- kind 3

abbrev setup_payload : Settings → List ℕ
setup_payload s = bytes_of 2 s.flags ++ bytes_of 2 s.mask ++ bytes_of 1 s.mode

alike : (s t : Settings) → s.flags ≡ t.flags → s.mask ≡ t.mask → s.mode ≡ t.mode → s ≡ t
alike s t f m o = λ i. record { flags = f i; mask = m i; mode = o i }

setup_back : (s : Settings) → InRange s → settings_in (setup_payload s) ≡ s
unfolding bound
setup_back s r =
    let e : setup_payload s ≡ bytes_of 2 s.flags ++ (bytes_of 2 s.mask ++ (bytes_of 1 s.mode ++ []))
    = append_assoc (bytes_of 2 s.flags) (bytes_of 2 s.mask) (bytes_of 1 s.mode) ∙ rw (append-nil (bytes_of 1 s.mode)) in
    alike (settings_in (setup_payload s)) s
    (rw e (read_number 2 s.flags (bytes_of 2 s.mask ++ (bytes_of 1 s.mode ++ [])) (omega (arith, r.flags))))
    (rw e (read_past 2 s.flags 0 2 (bytes_of 2 s.mask ++ (bytes_of 1 s.mode ++ [])) ∙ read_number 2 s.mask (bytes_of 1 s.mode ++ []) (omega (arith, r.mask))))
    (rw e (read_past 2 s.flags 2 1 (bytes_of 2 s.mask ++ (bytes_of 1 s.mode ++ [])) ∙ read_past 2 s.mask 0 1 (bytes_of 1 s.mode ++ []) ∙ read_number 1 s.mode [] (omega (arith, r.mode))))

fresh_is : (s : Settings) → fresh_of s ≡ true → s ≡ fresh_settings
fresh_is s h =
    let f = eqb s.flags 0 in
    let m = eqb s.mask 0 in
    let o = eqb s.mode 3 in
    alike s fresh_settings
    (eqb-true s.flags 0 (and_left f m (and_left (f && m) o h)))
    (eqb-true s.mask 0 (and_right f m (and_left (f && m) o h)))
    (eqb-true s.mode 3 (and_right (f && m) o h))

module _ (m : ℕ) (past : SoFar) (c : Content) (s : Settings) (rest : List ℕ) (final : Content) (range : InRange s) (fresh : c.settings ≡ fresh_settings) (p : past.rank < 3)
    (r : (seen : SoFar) → seen.rank ≤ 3 → Reads m seen (record { regs = c.regs; settings = s; host = c.host; cells = c.cells }) rest final) where
  setup_fine : Fine m past 3 (setup_payload s)
  unfolding in_order row_by
  setup_fine = record {
    known = refl;
    fits = rw (setup_payload_lem s);
    order = rw (le-leb past.rank 3 (omega arith), lt-ltb past.rank 3 p);
    within = refl;
    settled = ap (λ (x : Settings). not (bad_settings x)) (setup_back s range) ∙ rw (lt-leb flags_bound s.flags range.flags, lt-leb flags_bound s.mask range.mask, lt-leb 4 s.mode range.mode);
  }

  by_fresh : (t : Bool) → fresh_of s ≡ t → Reads m past c (setup_of s ++ rest) final
  unfolding row_by
  by_fresh true e =
      rw (setup_none s e)
      (subst (λ (x : Settings). Reads m past (record { regs = c.regs; settings = x; host = c.host; cells = c.cells }) rest final) (fresh_is s e ∙ sym fresh) (r past (omega arith)))
  by_fresh false e =
      rw (setup_record s e)
      (reads_on 3 (setup_payload s) rest (omega arith) (omega (arith, setup_payload_lem s)) m past setup_fine c final refl
      (subst (λ (x : Settings). Reads m (past_of past (row_by 3).kind (row_by 3).rank (setup_payload s)) (record { regs = c.regs; settings = x; host = c.host; cells = c.cells }) rest final) (sym (setup_back s range))
      (r (past_of past (row_by 3).kind (row_by 3).rank (setup_payload s)) (omega arith))))

  pub reads_setup : Reads m past c (setup_of s ++ rest) final
  reads_setup = by_fresh (fresh_of s) refl

-- ---- lists that are 0 from a place on

abbrev pub Zeros : List ℕ → ℕ → Type 0
Zeros l i = (j : ℕ) → i ≤ j → get_or l j 0 ≡ 0

zeros_set : (l : List ℕ) (i v : ℕ) → Zeros l i → Zeros (set l i v) (i + 1)
zeros_set l i v z j h = get_or-set_other l i j v 0 (λ e. omega arith) ∙ z j (omega arith)

zeros_sets : (vs l : List ℕ) (i : ℕ) → Zeros l i → Zeros (sets l i vs) (i + length vs)
zeros_sets [] l i z j h = z j (omega arith)
zeros_sets (v ∷ vs) l i z j h = zeros_sets vs (set l i v) (suc i) (λ k q. zeros_set l i v z k (omega arith)) j (omega arith)

-- a 0 stored there changes nothing
zero_kept : (l : List ℕ) (i : ℕ) → Zeros l i → set l i 0 ≡ l
zero_kept l i z = ap (set l i) (sym (z i (omega arith))) ∙ set-get_or l i 0

-- ---- kind 2

abbrev value_payload : ℕ → ℕ → List ℕ
value_payload i v = bytes_of 1 i ++ bytes_of 4 v

value_back : (i v : ℕ) → v < 2 ^ 32 → register_value (value_payload i v) ≡ v
unfolding bound
value_back i v h =
    read_past 1 i 0 4 (bytes_of 4 v) ∙ ap (number_at 0 4) (sym (append-nil (bytes_of 4 v))) ∙ read_number 4 v [] h

register_back : (i v : ℕ) → i < 256 → register_of (value_payload i v) ≡ i
unfolding bound
register_back i v h = read_number 1 i (bytes_of 4 v) h

module _ (i v m : ℕ) (past : SoFar) (c : Content) (rest : List ℕ) (final : Content) (p : past.rank ≤ 2) (q : past.next ≤ i) (b : i < 256) (w : v < 2 ^ 32) (z : Zeros c.regs i)
    (r : (seen : SoFar) → seen.rank ≤ 2 → seen.next ≤ i + 1 → Reads m seen (record { regs = set c.regs i v; settings = c.settings; host = c.host; cells = c.cells }) rest final) where
  value_fine : Fine m past 2 (value_payload i v)
  unfolding in_order row_by
  value_fine = record {
    known = refl;
    fits = rw (value_payload_lem i v);
    order = rw (le-leb past.rank 2 p, register_back i v b, le-leb past.next i q);
    within = refl;
    settled = refl;
  }

  by_value : (t : Bool) → eqb v 0 ≡ t → Reads m past c (value_record i v ++ rest) final
  unfolding row_by
  by_value true e =
      let n : v ≡ 0 = eqb-true v 0 e in
      rw (value_none i v n)
      (subst (λ (x : List ℕ). Reads m past (record { regs = x; settings = c.settings; host = c.host; cells = c.cells }) rest final) (ap (set c.regs i) n ∙ zero_kept c.regs i z)
      (r past p (omega arith)))
  by_value false e =
      let k : set c.regs (register_of (value_payload i v)) (register_value (value_payload i v)) ≡ set c.regs i v = rw (register_back i v b, value_back i v w) in
      rw (value_record_lem i v (eqb-false v 0 e))
      (reads_on 2 (value_payload i v) rest (omega arith) (omega (arith, value_payload_lem i v)) m past value_fine c final refl
      (subst (λ (x : List ℕ). Reads m (past_of past (row_by 2).kind (row_by 2).rank (value_payload i v)) (record { regs = x; settings = c.settings; host = c.host; cells = c.cells }) rest final) (sym k)
      (r (past_of past (row_by 2).kind (row_by 2).rank (value_payload i v)) (omega arith) (omega (arith, register_back i v b)))))

  reads_value : Reads m past c (value_record i v ++ rest) final
  reads_value = by_value (eqb v 0) refl

pub reads_values : (regs : List ℕ) (i m : ℕ) (past : SoFar) (c : Content) (rest : List ℕ) (final : Content)
    → past.rank ≤ 2 → past.next ≤ i → i + length regs ≤ 256 → Words regs → Zeros c.regs i
    → ((seen : SoFar) → seen.rank ≤ 2 → Reads m seen (record { regs = sets c.regs i regs; settings = c.settings; host = c.host; cells = c.cells }) rest final)
    → Reads m past c (values_from i regs ++ rest) final
unfolding values_from
reads_values [] i m past c rest final p q b w z r = r past p
reads_values (v ∷ regs) i m past c rest final p q b w z r =
    rw (append_assoc (value_record i v) (values_from (i + 1) regs) rest)
    (reads_value i v m past c (values_from (i + 1) regs ++ rest) final p q (omega arith) (w 0) z (λ seen a n.
    reads_values regs (i + 1) m seen (record { regs = set c.regs i v; settings = c.settings; host = c.host; cells = c.cells }) rest final a n (omega arith) (λ j. w (suc j)) (zeros_set c.regs i v z) (λ later d.
    rw (add-one i) (r later d))))

-- ---- kind 1

abbrev run_payload : ℕ → List ℕ → List ℕ
run_payload base run = bytes_of 2 base ++ word_bytes run

words_back : (l : List ℕ) → Words l → words_of (length l) (word_bytes l) ≡ l
unfolding words_of word_bytes bound
words_back [] w = refl
words_back (v ∷ l) w = rw (read_number 4 v (word_bytes l) (w 0), drop_bytes 4 v (word_bytes l), words_back l (λ i. w (suc i)))

module _ (base : ℕ) (run : List ℕ) where
  base_back : base < 65536 → base_of (run_payload base run) ≡ base
  unfolding bound
  base_back h = read_number 2 base (word_bytes run) h

  count_back : count_of (run_payload base run) ≡ length run
  count_back = rw (run_payload_lem base run) (omega arith)

  cells_back : Words run → cells_in (run_payload base run) ≡ run
  cells_back w = rw (count_back, drop_bytes 2 base (word_bytes run)) (words_back run w)

  run_fits : 1 ≤ length run → length run ≤ most_cells → fits_of (row_by 1) (length (run_payload base run)) ≡ true
  unfolding row_by
  run_fits h k =
      rw (run_payload_lem base run, le-leb 6 (2 + 4 * length run) (omega arith), le-leb (2 + 4 * length run) 65538 (omega arith), eq-eqb ((2 + 4 * length run - 6) % 4) 0 (omega arith))

reads_run : (run : List ℕ) (base m : ℕ) (past : SoFar) (c : Content) (rest : List ℕ) (final : Content)
    → m ≤ most_cells → past.rank ≤ 1 → past.end ≤ base → past.next ≤ 0 → base + length run ≤ m → Words run
    → ((seen : SoFar) → seen.rank ≤ 1 → seen.end ≤ base + length run → seen.next ≤ 0
    → Reads m seen (record { regs = c.regs; settings = c.settings; host = c.host; cells = sets c.cells base run }) rest final)
    → Reads m past c (run_record base run ++ rest) final
unfolding run_record in_order row_by
reads_run [] base m past c rest final few p e n b w r = r past p (omega arith) n
reads_run (v ∷ run) base m past c rest final few p e n b w r =
    let payload = run_payload base (v ∷ run) in
    let back = base_back base (v ∷ run) (omega arith) in
    let count = count_back base (v ∷ run) in
    let k : sets c.cells (base_of payload) (cells_in payload) ≡ sets c.cells base (v ∷ run) = rw (back, cells_back base (v ∷ run) w) in
    reads_on 1 payload rest (omega arith) (omega (arith, run_payload_lem base (v ∷ run))) m past
    (record {
      known = refl;
      fits = run_fits base (v ∷ run) (omega arith) (omega arith);
      order = rw (le-leb past.rank 1 p, back, le-leb past.end base e);
      within = rw (back, count) (le-leb (base + suc (length run)) m b);
      settled = refl;
    })
    c final refl
    (subst (λ (x : List ℕ). Reads m (past_of past (row_by 1).kind (row_by 1).rank payload) (record { regs = c.regs; settings = c.settings; host = c.host; cells = x }) rest final) (sym k)
    (r (past_of past (row_by 1).kind (row_by 1).rank payload) (omega arith) (omega arith) n))

-- ---- kind 5

module _ (m : ℕ) (past : SoFar) (c : Content) (words rest : List ℕ) (final : Content) (five : length words ≡ 5) (w : Words words) (p : past.rank < 4)
    (r : (seen : SoFar) → seen.rank ≤ 4 → Reads m seen (record { regs = c.regs; settings = c.settings; host = words; cells = c.cells }) rest final) where
  host_fine : Fine m past 5 (word_bytes words)
  unfolding in_order row_by
  host_fine = record {
    known = refl;
    fits = rw (host_payload words five);
    order = rw (le-leb past.rank 4 (omega arith), lt-ltb past.rank 4 p);
    within = refl;
    settled = refl;
  }

  host_back : host_in (word_bytes words) ≡ words
  host_back = ap (λ (n : ℕ). words_of n (word_bytes words)) (sym five) ∙ words_back words w

  pub reads_host : Reads m past c (host_of words ++ rest) final
  unfolding row_by
  reads_host =
      rw (host_record words)
      (reads_on 5 (word_bytes words) rest (omega arith) (omega (arith, host_payload words five)) m past host_fine c final refl
      (subst (λ (x : List ℕ). Reads m (past_of past (row_by 5).kind (row_by 5).rank (word_bytes words)) (record { regs = c.regs; settings = c.settings; host = x; cells = c.cells }) rest final) (sym host_back)
      (r (past_of past (row_by 5).kind (row_by 5).rank (word_bytes words)) (omega arith))))

-- ---- runs

words_append : (a b : List ℕ) → Words a → Words b → Words (a ++ b)
words_append [] b u v i = v i
words_append (x ∷ a) b u v zero = u 0
words_append (x ∷ a) b u v (suc i) = words_append a b (λ j. u (suc j)) v i

one_word : (v : ℕ) → v < 2 ^ 32 → Words (v ∷ [])
one_word v h zero = h
one_word v h (suc i) = omega arith

pub reads_runs : (cells run : List ℕ) (base m : ℕ) (past : SoFar) (c : Content) (rest : List ℕ) (final : Content)
    → m ≤ most_cells → past.rank ≤ 1 → past.end ≤ base → past.next ≤ 0 → base + length run + length cells ≤ m → Words run → Words cells → Zeros c.cells base
    → ((seen : SoFar) → seen.rank ≤ 1 → seen.next ≤ 0 → Reads m seen (record { regs = c.regs; settings = c.settings; host = c.host; cells = sets c.cells base (run ++ cells) }) rest final)
    → Reads m past c (runs_from base run cells ++ rest) final
unfolding runs_from
reads_runs [] run base m past c rest final few p e n b u w z r =
    reads_run run base m past c rest final few p e n (omega arith) u (λ seen a d k. rw (append-nil run) at (r seen a k))
reads_runs (v ∷ cells) run base m past c rest final few p e n b u w z r =
    picked (λ (l : List ℕ). Reads m past c (l ++ rest) final) (eqb v 0) _ _
    (λ t.
    let zero-there : v ≡ 0 = eqb-true v 0 t in
    let after : sets c.cells base (run ++ v ∷ cells) ≡ sets (sets c.cells base run) (base + length run + 1) cells
    = sets_append run (v ∷ cells) c.cells base
    ∙ rw (zero-there, zero_kept (sets c.cells base run) (base + length run) (zeros_sets run c.cells base z), add-one (base + length run)) in
    rw (append_assoc (run_record base run) (runs_from (base + length run + 1) [] cells) rest)
    (reads_run run base m past c (runs_from (base + length run + 1) [] cells ++ rest) final few p e n (omega arith) u (λ seen a d k.
    reads_runs cells [] (base + length run + 1) m seen (record { regs = c.regs; settings = c.settings; host = c.host; cells = sets c.cells base run }) rest final
    few a (omega arith) k (omega arith) (λ i. omega arith) (λ i. w (suc i)) (λ j h. zeros_sets run c.cells base z j (omega arith)) (λ later f g.
    rw (← after) (r later f g)))))
    (λ t.
    reads_runs cells (run ++ v ∷ []) base m past c rest final few p e n (omega (arith, length-append run (v ∷ []))) (words_append run (v ∷ []) u (one_word v (w 0))) (λ i. w (suc i)) z (λ seen a k.
    rw (append_assoc run (v ∷ []) cells) (r seen a k)))
