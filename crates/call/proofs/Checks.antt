-- What the check at the start of a call makes of the call.
-- Assumes nothing.
use Prim.Native.Nat.{ℕ, ◌≤◌, ◌<◌}
use mathlib.Core.Path.{◌≡◌, refl, sym}
use mathlib.Core.Bool.{true, false, ◌||◌}
use mathlib.Core.Option.{Option, none, some, or_else}
use mathlib.Core.List.{List}
use native.Mathlib.Omega.{arith}
use lib.Dec.{leb, ltb, eqb}
use lib.ListN.{length}
use borrow.Author.Tests.{leb-false, ltb-false, eqb-false, lt-ltb, lt-leb, le-ltb, ne_eqb}
use Rattle.machine.specs.declared.Settings.{Settings}
use Rattle.machine.specs.State.{State, most_cells, capacity_of, bad_cells, bad_settings, entries_in, flags_bound, InRange}
use Rattle.machine.specs.Stops.{Said}
use Rattle.machine.specs.declared.Kind.{Kind}
use Rattle.call.specs.Calls.{Out, stop_at, check_of, said_by, barred, begins_of, called}
use Rattle.std.specs.Prelude.{Result, Ok, Err, ⊤}
use Rattle.machine.specs.declared.Stop.{Stop}
use Rattle.profile.specs.declared.BadRule.{BadRule}
use Rattle.profile.specs.declared.BadRule.TheVariants.{Length, Cell}
use Rattle.profile.specs.Answers.{barred_by}
use Rattle.call.specs.Answers.{checked_of}
use Rattle.machine.proofs.Tests.{or_left, or_right}
use Rattle.step.proofs.Keeps.{past}

none_said : (o : Option ℕ) → said_by o ≡ none → o ≡ none
none_said none h = refl
none_said (some k) h = let z : ◌≡◌ {A = ℕ} 0 1 = cc in absurd (omega arith)

-- what the check at its start makes of a call
module _ (body : ℕ → ℕ → State → Out) (n : ℕ) (s : State) where
  pub called_fine : (o : Option Said) → none ≡ o → body n 0 s ≡ called o body n s
  called_fine o h = rw (← h)

  pub called_bad : (o : Option Said) (x : Said) → some x ≡ o → stop_at x 0 s ≡ called o body n s
  called_bad o x h = rw (← h)

-- nothing was named by either
pub neither : (o p : Option Said) → none ≡ or_else o p → (none ≡ o) × (none ≡ p)
unfolding or_else
neither none p h = (refl, h)
neither (some x) p h = let z : ◌≡◌ {A = ℕ} 0 1 = cc in absurd (omega arith)

-- a run begins as every call does, and then by its rule
module _ (kind : Kind) (cells : List ℕ) (s : Settings) (j depth : ℕ) where
  pub begins_bad : (x : Said) → some x ≡ said_by (check_of (length cells) s j depth) → some x ≡ begins_of kind cells s j depth
  unfolding or_else
  begins_bad x h = rw (← h)

  pub begins_rule : none ≡ said_by (check_of (length cells) s j depth) → barred kind cells ≡ begins_of kind cells s j depth
  unfolding or_else
  begins_rule h = rw (← h)

-- the check, test by test
module _ (m : ℕ) (s : Settings) (j depth : ℕ) where
  pub few : bad_cells m ≡ true → check_of m s j depth ≡ some 12
  unfolding check_of
  few a = rw a

  pub unsettled : bad_cells m ≡ false → bad_settings s ≡ true → check_of m s j depth ≡ some 10
  unfolding check_of
  unsettled a b = rw (a, b)

  pub deep : bad_cells m ≡ false → bad_settings s ≡ false → j < depth → check_of m s j depth ≡ some 11
  unfolding check_of
  deep a b c = rw (a, b, lt-ltb j depth c)

  pub fine : bad_cells m ≡ false → bad_settings s ≡ false → depth ≤ j → check_of m s j depth ≡ none
  unfolding check_of
  fine a b c = rw (a, b, le-ltb j depth c)

pub record Passed (m : ℕ) (s : Settings) (j depth : ℕ) : Type 0 where
  pub some_cells : 1 ≤ m
  pub few_cells : m ≤ most_cells
  pub settled : InRange s
  pub room : depth ≤ j

pub checked : (m : ℕ) (s : Settings) (j depth : ℕ) → none ≡ said_by (check_of m s j depth) → Passed m s j depth
unfolding check_of
checked m s j depth h =
    let a = past (bad_cells m) 12 _ (none_said _ (sym h)) in
    let b = past (bad_settings s) 10 _ a.1 in
    let c = past (ltb j depth) 11 _ b.1 in
    let fl = leb flags_bound s.flags in
    let ma = leb flags_bound s.mask in
    let mo = leb 4 s.mode in
    let not_zero = eqb-false m 0 (or_left (eqb m 0) _ a.0) in
    record {
      some_cells = omega arith;
      few_cells = ltb-false most_cells m (or_right (eqb m 0) _ a.0);
      settled = record {
        flags = leb-false flags_bound s.flags (or_left fl ma (or_left (fl || ma) mo b.0));
        mask = leb-false flags_bound s.mask (or_right fl ma (or_left (fl || ma) mo b.0));
        mode = leb-false 4 s.mode (or_right (fl || ma) mo b.0);
      };
      room = ltb-false j depth c.0;
    }

-- a run that begins has passed the check of every call, and its rule the profile's
pub rule_passed : (r : Result ⊤ BadRule) → none ≡ barred_by r → r ≡ Ok tt
rule_passed (Ok tt) h = refl
rule_passed (Err Length) h = let z : ◌≡◌ {A = ℕ} 0 1 = cc in absurd (omega arith)
rule_passed (Err (Cell place flaw)) h = let z : ◌≡◌ {A = ℕ} 0 1 = cc in absurd (omega arith)

pub run_checked : (kind : Kind) (cells : List ℕ) (s : Settings) (j depth : ℕ) → none ≡ begins_of kind cells s j depth
    → Passed (length cells) s j depth × (none ≡ barred kind cells)
run_checked kind cells s j depth h =
    let b = neither (said_by (check_of (length cells) s j depth)) (barred kind cells) h in
    (checked (length cells) s j depth b.0, b.1)

-- the answer's case is known, and J with it
pub as_told : (r v : Result ⊤ Stop) (m : ℕ) (s : Settings) (j depth : ℕ) (journal : List ℕ) → j ≡ entries_in (length journal) → r ≡ v → checked_of r ≡ said_by (check_of m s j depth)
    → checked_of v ≡ said_by (check_of m s (capacity_of journal) depth)
unfolding capacity_of
as_told r v m s j depth journal e p h = rw (← e, ← p) h

-- the same of a run
pub run_told : (kind : Kind) (r v : Result ⊤ Stop) (cells : List ℕ) (s : Settings) (j depth : ℕ) (journal : List ℕ) → j ≡ entries_in (length journal) → r ≡ v
    → checked_of r ≡ begins_of kind cells s j depth → checked_of v ≡ begins_of kind cells s (capacity_of journal) depth
unfolding capacity_of
run_told kind r v cells s j depth journal e p h = rw (← e, ← p) h

-- a call on M cells from 1 to 16,384, settings in range and depth at most J is not refused at once
pub passes : (m : ℕ) (s : Settings) (j depth : ℕ) → Passed m s j depth → check_of m s j depth ≡ none
unfolding check_of
passes m s j depth p =
    rw (
      ne_eqb m 0 (λ e. omega (arith, p.some_cells)),
      le-ltb most_cells m p.few_cells,
      lt-leb flags_bound s.flags p.settled.flags,
      lt-leb flags_bound s.mask p.settled.mask,
      lt-leb 4 s.mode p.settled.mode,
      le-ltb j depth p.room,
    )
