-- What a turn of the two walks over a job does to the definitions: the one that looks for a refusal, and the one that carries out.
-- Assumes nothing.
use Prim.Native.Nat.{ℕ, zero, suc, pred, ◌+◌, ◌-◌, ◌≤◌, ◌<◌}
use mathlib.Core.Path.{◌≡◌, refl, sym, ap, ◌∙◌}
use mathlib.Core.Bool.{Bool, true, false, cond, not}
use mathlib.Core.Option.{Option, none}
use mathlib.Core.List.{List}
use native.Mathlib.Omega.{arith}
use lib.Dec.{ltb}
use lib.ListN.{length, take, drop, length-drop}
use lib.Seq.{take_all, drop-drop, length-take-le}
use borrow.Author.Tests.{ltb-false, lt-ltb, le-ltb, not-false}
use Rattle.job.specs.declared.records.Kind.{Kind}
use Rattle.job.specs.declared.records.Row.{Row}
use Rattle.job.specs.declared.records.Past.{Past}
use Rattle.std.specs.Prelude.{Result, Ok, Err, MatchResult, IsErrAnd, ⊤}
use Rattle.job.specs.declared.Refused.{Refused}
use Rattle.refusal.specs.declared.Refusal.{Refusal}
use Rattle.refusal.specs.Refusal.{number_of}
use Rattle.job.specs.declared.reading.Look.{Look}
use Rattle.lent.specs.Little.{number_at}
use Rattle.job.specs.Job.{row_by, known_of, fits_of, ends_of, size_of, row_of, kind_of, payload_of, past_of, nothing_yet, in_order, within_of, settings_fit, Fate, refused, last, further, passed, payload_fate, fate_of, Notice, refused_at, followed, refusal_from, Content, content_of, content_from}
use Rattle.job.specs.Inner.{looked_of, noticed, Sound}
use Rattle.job.proofs.Rules.{sized_by}

-- what the records so far leave to the order, by a name for the crates above
abbrev pub SoFar : Type 0
SoFar = Past

-- a record that is not refused
abbrev pub goes : Fate → Bool
goes (refused k) = false
goes last = true
goes (further size past) = true

clash : false ≡ true → ⊥
clash h = let z : ◌≡◌ {A = ℕ} 0 1 = cc in omega arith

by : (t : Bool) (k : ℕ) (o v : Fate) → goes v ≡ true → cond t (refused k) o ≡ v → (t ≡ false) × (o ≡ v)
by true k o v g h = absurd (clash (ap goes h ∙ g))
by false k o v g h = (refl, h)

-- has passed every test
pub record Passed (m : ℕ) (past : Past) (left : List ℕ) (v : Fate) : Type 0 where
  pub head : 6 ≤ length left
  pub known : known_of (kind_of left) ≡ true
  pub fits : fits_of (row_of left) (size_of left) ≡ true
  pub whole : 6 + size_of left ≤ length left
  pub order : in_order past (row_of left) (payload_of left) ≡ true
  pub within : within_of m (kind_of left) (payload_of left) ≡ true
  pub settled : settings_fit (kind_of left) (payload_of left) ≡ true
  pub course : passed (ends_of (kind_of left)) (past_of past (kind_of left) (row_of left).rank (payload_of left)) (size_of left) ≡ v

pub passing : (m : ℕ) (past : Past) (left : List ℕ) (v : Fate) → goes v ≡ true → fate_of m past left ≡ v → Passed m past left v
unfolding fate_of
passing m past left v g h =
    let a = by (ltb (length left) 6) 41 _ v g h in
    let b = by (not (known_of (kind_of left))) 42 _ v g a.1 in
    let c = by (not (fits_of (row_of left) (size_of left))) 43 _ v g b.1 in
    let d = by (ltb (length left) (6 + size_of left)) 44 _ v g c.1 in
    let e = by (not (in_order past (row_of left) (payload_of left))) 46 _ v g d.1 in
    let f = by (not (within_of m (kind_of left) (payload_of left))) 45 _ v g e.1 in
    let s = by (not (settings_fit (kind_of left) (payload_of left))) 10 _ v g f.1 in
    record {
      head = ltb-false (length left) 6 a.0;
      known = not-false (known_of (kind_of left)) b.0;
      fits = not-false (fits_of (row_of left) (size_of left)) c.0;
      whole = ltb-false (length left) (6 + size_of left) d.0;
      order = not-false (in_order past (row_of left) (payload_of left)) e.0;
      within = not-false (within_of m (kind_of left) (payload_of left)) f.0;
      settled = not-false (settings_fit (kind_of left) (payload_of left)) s.0;
      course = s.1;
    }

-- the bytes that a record which is passed takes are its own
sized : (t : Bool) (past seen : Past) (size n : ℕ) → passed t past size ≡ further n seen → n ≡ 6 + size
sized true past seen size n h = let z : ◌≡◌ {A = ℕ} 0 1 = cc in absurd (omega arith)
sized false past seen size n h = cc

pub payload_length : (left : List ℕ) → 6 + size_of left ≤ length left → length (payload_of left) ≡ size_of left
payload_length left h = length-take-le (size_of left) (drop 6 left) (simp length-drop (omega arith))

-- where no byte is left, a walk's end is the record's own refusal
none_left : (m : ℕ) (past : Past) (left : List ℕ) → length left ≤ 0 → fate_of m past left ≡ refused 41
unfolding fate_of
none_left m past left h = rw (lt-ltb (length left) 6 (omega arith))

turn : (fuel m : ℕ) (left : List ℕ) (offset : ℕ) (past : Past) → length left ≤ fuel
    → refusal_from fuel m left offset past ≡ followed (refusal_from (pred fuel) m) (fate_of m past left) left offset
unfolding refusal_from
turn zero m left offset past h = rw (none_left m past left h)
turn (suc n) m left offset past h = refl

pub rest_of : (a : ℕ) (l : List ℕ) → take (length l - a) (drop a l) ≡ drop a l
rest_of a l = take_all (length l - a) (drop a l) (simp length-drop (omega arith))

pub rest_length : (a : ℕ) (l : List ℕ) → length (take (length l - a) (drop a l)) ≡ length l - a
rest_length a l = rw (rest_of a l) (length-drop a l)

-- the payload, as the part that is lent shows it
pub lent_length : (left : List ℕ) (n : ℕ) → 6 + n ≤ length left → length (take (6 + n - 6) (drop 6 left)) ≡ n
lent_length left n h = let e : 6 + n - 6 ≡ n = omega arith in rw e (length-take-le n (drop 6 left) (simp length-drop (omega arith)))

-- the course of a record, by the row and the size that were read of it
abbrev pub fate_with : ℕ → Past → Row → ℕ → List ℕ → Fate
fate_with m past row size left =
    cond (ltb (length left) 6) (refused 41)
    (cond (not (known_of row.kind)) (refused 42)
    (cond (not (fits_of row size)) (refused 43)
    (cond (ltb (length left) (6 + size)) (refused 44)
    (payload_fate m past row (take size (drop 6 left)) size))))

pub fate_by : (m : ℕ) (past : Past) (row : Row) (size : ℕ) (left : List ℕ) → row ≡ row_of left → size ≡ size_of left → fate_with m past row size left ≡ fate_of m past left
unfolding fate_of
fate_by m past row size left e f = λ i. fate_with m past (e i) (f i) left

module _ (m : ℕ) (past : Past) (left : List ℕ) (row : Row) (n : ℕ) (e : row ≡ row_by n) (f : n ≡ number_at 4 2 left) (h : 6 ≤ length left) where
  read : row ≡ row_of left
  read = e ∙ ap row_by f

  module _ (b : Bool) (k : b ≡ known_of row.kind) where
    pub fate_unknown : not b ≡ true → refused 42 ≡ fate_of m past left
    fate_unknown t = rw (le-ltb (length left) 6 h, ← k, t) at (fate_by m past row (size_of left) left read refl)

    module _ (t : not b ≡ false) (size : ℕ) (g : size ≡ size_of left) (d : Bool) (q : d ≡ fits_of row size) where
      pub fate_misfit : not d ≡ true → refused 43 ≡ fate_of m past left
      fate_misfit s = rw (le-ltb (length left) 6 h, ← k, t, ← q, s) at (fate_by m past row size left read g)

      pub fate_cut : not d ≡ false → length left < 6 + size → refused 44 ≡ fate_of m past left
      fate_cut s c = rw (le-ltb (length left) 6 h, ← k, t, ← q, s, lt-ltb (length left) (6 + size) c) at (fate_by m past row size left read g)

      pub fate_payload : not d ≡ false → 6 + size ≤ length left → (v : Fate)
          → v ≡ payload_fate m past row (take (6 + size - 6) (drop 6 left)) (length (take (6 + size - 6) (drop 6 left))) → v ≡ fate_of m past left
      fate_payload s c v p =
          let w : 6 + size - 6 ≡ size = omega arith in
          let l : length (take size (drop 6 left)) ≡ size = rw w at (lent_length left size c) in
          (rw (w, l) at p) ∙ (rw (le-ltb (length left) 6 h, ← k, t, ← q, s, le-ltb (length left) (6 + size) c) at (fate_by m past row size left read g))

-- the parts of the record at an offset, as the part that is lent shows them
row_there : (job : List ℕ) (at : ℕ) (row : Row) (n : ℕ) → row ≡ row_by n → n ≡ number_at 4 2 (take (length job - at) (drop at job)) → row ≡ row_of (drop at job)
row_there job at row n e h = e ∙ rw (h, rest_of at job)

pub kind_there : (job : List ℕ) (at : ℕ) (row : Row) (n : ℕ) → row ≡ row_by n → n ≡ number_at 4 2 (take (length job - at) (drop at job)) → row.kind ≡ kind_of (drop at job)
kind_there job at row n e h = ap (λ (r : Row). r.kind) (row_there job at row n e h)

pub size_there : (job : List ℕ) (at n : ℕ) → n ≡ number_at 0 4 (take (length job - at) (drop at job)) → n ≡ size_of (drop at job)
size_there job at n h = h ∙ rw (rest_of at job)

pub ends_there : (left : List ℕ) (k : Kind) (r b : Bool) → k ≡ kind_of left → r ≡ ends_of k → r ≡ b → ends_of (kind_of left) ≡ b
ends_there left k r b e h t = rw (← e) (sym h ∙ t)

pub payload_there : (job : List ℕ) (at n : ℕ) → n ≡ size_of (drop at job) → take (6 + n - 6) (drop 6 (take (length job - at) (drop at job))) ≡ payload_of (drop at job)
payload_there job at n e = let f : 6 + n - 6 ≡ n = omega arith in rw (f, rest_of at job, e)

-- the record at an offset, as the part that is lent shows it, where the answer's refusal is put beside an offset and the case is known
pub looked_on : (P : Refusal → Refused → Type 0) (r : Result Look Refusal) (told : Result Look Refused) (x : Look) → told ≡ Ok x
    → MatchResult r (λ y. told ≡ Ok y) (λ why. IsErrAnd told (P why)) → r ≡ Ok x
looked_on P (Ok y) told x t h = cc
looked_on P (Err why) (Ok y) x t h = absurd h
looked_on P (Err why) (Err z) x t h = let z : ◌≡◌ {A = ℕ} 0 1 = cc in absurd (omega arith)

pub as_looked : (m : ℕ) (past : Past) (job : List ℕ) (at : ℕ) (r : Result Look Refusal) (told : Result Look Refused) (x v : Look) (P : Refusal → Refused → Type 0) → told ≡ Ok x → x ≡ v
    → MatchResult r (λ y. told ≡ Ok y) (λ why. IsErrAnd told (P why)) → looked_of r ≡ fate_of m past (take (length job - at) (drop at job)) → fate_of m past (drop at job) ≡ looked_of (Ok v)
as_looked m past job at r told x v P t i h e = let k : r ≡ Ok x = looked_on P r told x t h in sym (rw (rest_of at job, k, i) at e)

-- and where it is refused
pub looked_bad : (P : Refusal → Refused → Type 0) (r : Result Look Refusal) (told : Result Look Refused) (z : Refused) → told ≡ Err z
    → MatchResult r (λ y. told ≡ Ok y) (λ why. IsErrAnd told (P why)) → (why : Refusal) × (r ≡ Err why) × P why z
looked_bad P (Ok y) told z t h = let z : ◌≡◌ {A = ℕ} 0 1 = cc in absurd (omega arith)
looked_bad P (Err why) (Ok y) z t h = absurd h
looked_bad P (Err why) (Err x) z t h = let e : x ≡ z = cc in (why, refl, rw (← e) h)

-- A walk that is under way: what is left of it leads where the whole walk leads.
pub record Underway (m : ℕ) (job : List ℕ) (at : ℕ) (past : Past) : Type 0 where
  pub inside : at ≤ length job
  pub fuel : ℕ
  pub enough : length job - at ≤ fuel
  pub rest : refusal_from fuel m (drop at job) at past ≡ refusal_from (length job) m job 0 nothing_yet

pub set_out : (m : ℕ) (job : List ℕ) → Underway m job 0 nothing_yet
set_out m job = record { inside = omega arith; fuel = length job; enough = omega arith; rest = refl }

module _ (m : ℕ) (job : List ℕ) (at : ℕ) (past : Past) (u : Underway m job at past) where
  one_more : (v : Fate) → fate_of m past (drop at job) ≡ v
      → followed (refusal_from (pred u.fuel) m) v (drop at job) at ≡ refusal_from (length job) m job 0 nothing_yet
  one_more v e = rw (← e) (sym (turn u.fuel m (drop at job) at past (simp length-drop u.enough)) ∙ u.rest)

  refused_at_lem : (k : ℕ) → fate_of m past (drop at job) ≡ refused k → refused_at k at ≡ refusal_from (length job) m job 0 nothing_yet
  refused_at_lem k e = one_more (refused k) e

  pub refused_there : (r : Result Look Refusal) (why : Refusal) (out : Result ⊤ Refused) (told : Refused) → r ≡ Err why → IsErrAnd out (λ e. e ≡ told) → told ≡ record { why = why; offset = at }
      → looked_of r ≡ fate_of m past (take (length job - at) (drop at job)) → noticed out ≡ refusal_from (length job) m job 0 nothing_yet
  refused_there r why (Ok x) told k p t e = absurd p
  refused_there r why (Err y) told k p t e = rw (p, t) (refused_at_lem (number_of why) (sym (rw (rest_of at job, k) at e)))

  pub head_there : fate_of m past (drop at job) ≡ last → 6 ≤ length job - at
  head_there e = let p = passing m past (drop at job) last refl e in rw length-drop at p.head

  pub more_after : fate_of m past (drop at job) ≡ last → at + 6 < length job → refused_at 47 (at + 6) ≡ refusal_from (length job) m job 0 nothing_yet
  more_after e h =
      let n : length (drop at job) - 6 ≡ suc (length job - at - 7) = simp length-drop (omega arith) in
      sym (rw n refl) ∙ one_more last e

  pub none_after : fate_of m past (drop at job) ≡ last → length job ≤ at + 6 → none ≡ refusal_from (length job) m job 0 nothing_yet
  none_after e h =
      let n : length (drop at job) - 6 ≡ 0 = simp length-drop (omega arith) in
      sym (rw n refl) ∙ one_more last e

  module _ (size : ℕ) (seen : Past) (e : fate_of m past (drop at job) ≡ further size seen) where
    fitting : Passed m past (drop at job) (further size seen)
    fitting = passing m past (drop at job) (further size seen) refl e

    pub further_size : (6 ≤ size) × (at + size ≤ length job)
    further_size =
        let p = fitting in
        let s = sized (ends_of (kind_of (drop at job))) (past_of past (kind_of (drop at job)) (row_of (drop at job)).rank (payload_of (drop at job))) seen (size_of (drop at job)) size p.course in
        let w : 6 + size_of (drop at job) ≤ length job - at = rw length-drop at p.whole in
        (omega arith, omega (arith, u.inside))

    pub again : Underway m job (at + size) seen
    again =
        let p = further_size in
        record {
          inside = p.1;
          fuel = pred u.fuel;
          enough = omega (arith, u.enough);
          rest = rw (← drop-drop size at job) (one_more (further size seen) e);
        }

-- a walk that ends in no refusal has none at its next record
going : (rest : List ℕ → ℕ → Past → Option Notice) (v : Fate) (left : List ℕ) (offset : ℕ) → followed rest v left offset ≡ none → goes v ≡ true
going rest (refused k) left offset h = let z : ◌≡◌ {A = ℕ} 0 1 = cc in absurd (omega arith)
going rest last left offset h = refl
going rest (further size past) left offset h = refl

-- A job that has no refusal and is being carried out: the records left lead where all of them lead.
pub record Carrying (m : ℕ) (job : List ℕ) (from : Content) (at : ℕ) (now : Content) : Type 0 where
  pub inside : at ≤ length job
  pub cells : length now.cells ≡ m
  pub fuel : ℕ
  pub enough : length job - at ≤ fuel
  pub past : Past
  pub sound : refusal_from fuel m (drop at job) at past ≡ none
  pub rest : content_from fuel (drop at job) now ≡ content_from (length job) job from

pub begin : (m : ℕ) (job : List ℕ) (from : Content) → length from.cells ≡ m → refusal_from (length job) m job 0 nothing_yet ≡ none → Carrying m job from 0 from
begin m job from e h =
    record { inside = omega arith; cells = e; fuel = length job; enough = omega arith; past = nothing_yet; sound = h; rest = refl }

ended : (n : ℕ) (left : List ℕ) (c : Content) → 0 < n → ends_of (kind_of left) ≡ true → content_from n left c ≡ c
unfolding content_from
ended zero left c p e = absurd (omega arith)
ended (suc n) left c p e = rw e

carried : (n : ℕ) (left : List ℕ) (c : Content) → 0 < n → ends_of (kind_of left) ≡ false
    → content_from n left c ≡ content_from (pred n) (drop (6 + size_of left) left) (content_of (kind_of left) (payload_of left) c)
unfolding content_from
carried zero left c p e = absurd (omega arith)
carried (suc n) left c p e = rw e

module _ (m : ℕ) (job : List ℕ) (from : Content) (at : ℕ) (now : Content) (u : Carrying m job from at now) where
  walked : followed (refusal_from (pred u.fuel) m) (fate_of m u.past (drop at job)) (drop at job) at ≡ none
  walked = sym (turn u.fuel m (drop at job) at u.past (simp length-drop u.enough)) ∙ u.sound

  pub fine : Passed m u.past (drop at job) (fate_of m u.past (drop at job))
  fine = passing m u.past (drop at job) _ (going (refusal_from (pred u.fuel) m) (fate_of m u.past (drop at job)) (drop at job) at walked) refl

  -- the record's bytes are there
  pub there : (6 ≤ length job - at) × (6 + size_of (drop at job) ≤ length job - at)
  there = (rw length-drop at fine.head, rw length-drop at fine.whole)

  pub record_sound : Sound m (kind_of (drop at job)) (payload_of (drop at job))
  record_sound = record { sized = rw (payload_length (drop at job) fine.whole) (sized_by (row_of (drop at job)) (number_at 4 2 (drop at job)) (size_of (drop at job)) refl fine.fits); within = fine.within }

  pub over : ends_of (kind_of (drop at job)) ≡ true → now ≡ content_from (length job) job from
  over e = let t = there in sym (ended u.fuel (drop at job) now (omega (arith, u.enough)) e) ∙ u.rest

  module _ (e : ends_of (kind_of (drop at job)) ≡ false) where
    next_course : further (6 + size_of (drop at job)) (past_of u.past (kind_of (drop at job)) (row_of (drop at job)).rank (payload_of (drop at job))) ≡ fate_of m u.past (drop at job)
    next_course = let c = fine.course in rw e at c

    pub on : (next : Content) → next ≡ content_of (kind_of (drop at job)) (payload_of (drop at job)) now → length next.cells ≡ length now.cells
        → Carrying m job from (at + (6 + size_of (drop at job))) next
    on next p q =
        let t = there in
        let h : followed (refusal_from (pred u.fuel) m) (further (6 + size_of (drop at job)) (past_of u.past (kind_of (drop at job)) (row_of (drop at job)).rank (payload_of (drop at job)))) (drop at job) at ≡ none
        = ap (λ (v : Fate). followed (refusal_from (pred u.fuel) m) v (drop at job) at) next_course ∙ walked in
        record {
          inside = omega (arith, u.inside);
          cells = q ∙ u.cells;
          fuel = pred u.fuel;
          enough = omega (arith, u.enough);
          past = past_of u.past (kind_of (drop at job)) (row_of (drop at job)).rank (payload_of (drop at job));
          sound = rw (← drop-drop (6 + size_of (drop at job)) at job) h;
          rest = rw (p, ← drop-drop (6 + size_of (drop at job)) at job) (sym (carried u.fuel (drop at job) now (omega (arith, u.enough)) e) ∙ u.rest);
        }
