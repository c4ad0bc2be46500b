-- What the table of kinds shows: a payload of a length that fits its row holds its kind's parts.
-- Assumes nothing.
use Prim.Native.Nat.{ℕ, ◌+◌, ◌-◌, ◌^◌, ◌%◌, ◌≤◌, ◌<◌}
use mathlib.Core.Path.{◌≡◌, refl}
use mathlib.Core.Bool.{Bool, true, false, ◌&&◌}
use mathlib.Core.List.{List, [], ◌∷◌}
use native.Mathlib.Omega.{arith}
use lib.Dec.{leb, eqb}
use borrow.Author.Tests.{leb-true, eqb-true}
use Rattle.machine.proofs.Tests.{picked}
use Rattle.job.specs.declared.records.Kind.{Kind}
use Rattle.job.specs.declared.records.Kind.TheVariants.{Run, Host}
use Rattle.job.specs.declared.records.Row.{Row}
use Rattle.job.specs.Job.{among, kinds, no_kind, row_by, fits_of, base_of, count_of}
use Rattle.job.specs.Inner.{Sized, Sound}

-- 0 is not 1: where `cc` joins them, there is nothing to show
pub impossible : {P : Type 0} → ◌≡◌ {A = ℕ} 0 1 → P
impossible z = absurd (omega arith)

pub and_left : (a b : Bool) → (a && b) ≡ true → a ≡ true
and_left true b h = refl
and_left false b h = h

pub and_right : (a b : Bool) → (a && b) ≡ true → b ≡ true
and_right true b h = h
and_right false b h = impossible (cc)

-- what each row of a table has, the row of any number has
abbrev Each : (Row → Type 0) → List (ℕ × Row) → Row → Type 0
Each P [] other = P other
Each P (row ∷ rows) other = P row.1 × Each P rows other

by_row : (P : Row → Type 0) (number : ℕ) (rows : List (ℕ × Row)) (other : Row) → Each P rows other → P (among number rows other)
by_row P number [] other p = p
by_row P number (row ∷ rows) other p = picked P (eqb number row.0) row.1 (among number rows other) (λ t. p.0) (λ t. by_row P number rows other p.1)

both : {A B : Type 0} → A → B → A × B
both a b = (a, b)

-- a length that fits a row
record Between (row : Row) (size : ℕ) : Type 0 where
  least : row.least ≤ size
  most : size ≤ row.most
  fours : (size - row.least) % 4 ≡ 0

fits_between : (row : Row) (size : ℕ) → fits_of row size ≡ true → Between row size
fits_between row size h =
    let l = leb row.least size in
    let m = leb size row.most in
    let f = eqb ((size - row.least) % 4) 0 in
    record {
      least = leb-true row.least size (and_left l m (and_left (l && m) f h));
      most = leb-true size row.most (and_right l m (and_left (l && m) f h));
      fours = eqb-true ((size - row.least) % 4) 0 (and_right (l && m) f h);
    }

-- a row's lengths are its kind's
record Sizes (row : Row) : Type 0 where
  sizes : (size : ℕ) → Between row size → Sized row.kind size

plain : (row : Row) → (row.kind ≡ Run → ⊥) → (row.kind ≡ Host → ⊥) → row.most < 2 ^ 31 → Sizes row
plain row r h m = record { sizes = λ size b. record { run = λ e. absurd (r e); host = λ e. absurd (h e); short = omega (arith, b.most) } }

row_sizes : (number : ℕ) → Sizes (row_by number)
unfolding row_by
row_sizes number =
    by_row Sizes number kinds no_kind
    (both (record { sizes = λ size b. record { run = λ e. omega (arith, b.least); host = λ e. impossible (cc); short = omega (arith, b.most) } })
    (both (plain (row_by 2) (λ e. impossible (cc)) (λ e. impossible (cc)) (omega arith))
    (both (plain (row_by 3) (λ e. impossible (cc)) (λ e. impossible (cc)) (omega arith))
    (both (record { sizes = λ size b. record { run = λ e. impossible (cc); host = λ e. omega (arith, b.least, b.most); short = omega (arith, b.most) } })
    (both (plain (row_by 4) (λ e. impossible (cc)) (λ e. impossible (cc)) (omega arith))
    (plain no_kind (λ e. impossible (cc)) (λ e. impossible (cc)) (omega arith)))))))

pub sized_by : (row : Row) (number size : ℕ) → row ≡ row_by number → fits_of row size ≡ true → Sized row.kind size
sized_by row number size e h =
    let s : Sizes row = rw e (row_sizes number) in
    s.sizes size (fits_between row size h)

-- the kind is known
pub as_sized : (k v : Kind) (n : ℕ) → k ≡ v → Sized k n → Sized v n
as_sized k v n e s = rw (← e) s

pub as_sound : (m : ℕ) (k v : Kind) (payload : List ℕ) → k ≡ v → Sound m k payload → Sound m v payload
as_sound m k v payload e s = rw (← e) s

-- a run that is sound ends within the cells
pub within_cells : (m : ℕ) (payload : List ℕ) → Sound m Run payload → base_of payload + count_of payload ≤ m
within_cells m payload s = leb-true _ _ s.within
