-- Little-endian numbers over the width: one byte more, their bound, and that they are read as they were written.
-- Assumes nothing.
use Prim.Native.Nat.{ℕ, zero, suc, ◌+◌, ◌-◌, ◌*◌, ◌/◌, ◌%◌, ◌^◌, ◌≤◌, ◌<◌, min}
use mathlib.Core.Path.{◌≡◌, refl, sym, ap, ◌∙◌, subst}
use mathlib.Core.Bool.{Bool, true, false}
use mathlib.Core.List.{List, [], ◌∷◌, ◌++◌, append-nil, append_assoc}
use native.Mathlib.Omega.{arith}
use lib.Dec.{ltb}
use lib.ListN.{length, take, drop, length-append, length-drop, drop_of_length-le}
use lib.Seq.{take_all, drop-append_seam}
use Rattle.std.specs.Int.{w32, to_le_bytes}
use borrow.Author.Tests.{ltb-true, ltb-false}
use Rattle.lent.specs.Little.{Bytes, little_of, bytes_of, number_at}

-- the parts of a list of bytes
pub bytes_drop : (n : ℕ) (l : List ℕ) → Bytes l → Bytes (drop n l)
bytes_drop zero l b = b
bytes_drop (suc n) [] b = b
bytes_drop (suc n) (x ∷ l) b = bytes_drop n l (λ i. b (suc i))

pub bytes_take : (n : ℕ) (l : List ℕ) → Bytes l → Bytes (take n l)
bytes_take zero l b i = omega arith
bytes_take (suc n) [] b i = omega arith
bytes_take (suc n) (x ∷ l) b zero = b 0
bytes_take (suc n) (x ∷ l) b (suc i) = bytes_take n l (λ i. b (suc i)) i

-- A number of w bytes is below 256 to the power of w.
unfoldable pub bound : ℕ → ℕ
bound zero = 1
bound (suc w) = 256 * bound w

bound_pos : (w : ℕ) → 0 < bound w
unfolding bound
bound_pos zero = omega arith
bound_pos (suc w) = omega (arith, bound_pos w)

little_below : (w : ℕ) (l : List ℕ) → Bytes l → little_of (take w l) < bound w
unfolding little_of bound
little_below zero l b = omega arith
little_below (suc w) [] b = omega (arith, bound_pos w)
little_below (suc w) (x ∷ l) b = omega (arith, b 0, little_below w l (λ i. b (suc i)))

pub below_1 : (at : ℕ) (l : List ℕ) → Bytes l → number_at at 1 l < 256
unfolding number_at bound
below_1 at l b = little_below 1 (drop at l) (bytes_drop at l b)

pub below_2 : (at : ℕ) (l : List ℕ) → Bytes l → number_at at 2 l < 65536
unfolding number_at bound
below_2 at l b = little_below 2 (drop at l) (bytes_drop at l b)

pub below_4 : (at w : ℕ) (l : List ℕ) → w ≤ 4 → Bytes l → number_at at w l < 2 ^ 32
unfolding number_at bound
below_4 at zero l h b = omega (arith, little_below 0 (drop at l) (bytes_drop at l b))
below_4 at (suc zero) l h b = omega (arith, little_below 1 (drop at l) (bytes_drop at l b))
below_4 at (suc (suc zero)) l h b = omega (arith, little_below 2 (drop at l) (bytes_drop at l b))
below_4 at (suc (suc (suc zero))) l h b = omega (arith, little_below 3 (drop at l) (bytes_drop at l b))
below_4 at (suc (suc (suc (suc zero)))) l h b = omega (arith, little_below 4 (drop at l) (bytes_drop at l b))
below_4 at (suc (suc (suc (suc (suc w))))) l h b = absurd (omega arith)

-- four bytes hold a number below 2 ^ 32
little_4 : (l : List ℕ) → length l ≤ 4 → Bytes l → little_of l < 2 ^ 32
unfolding number_at
little_4 l h b = rw (← take_all 4 l h) (below_4 0 4 l (omega arith) b)

-- Bytes that are read from the last to the first: those that are left, and the number of those that were taken.
pub record Read (bytes left : List ℕ) (v : ℕ) : Type 0 where
  pub taken : List ℕ
  pub all : left ++ taken ≡ bytes
  pub is : v ≡ little_of taken

pub read_none : {bytes left : List ℕ} → left ≡ bytes → Read bytes left 0
unfolding little_of
read_none e = record { taken = []; all = append-nil _ ∙ e; is = refl }

-- one byte more
pub read_more : {bytes left : List ℕ} {v : ℕ} (rest : List ℕ) (b : ℕ) → Read bytes left v → left ≡ rest ++ (b ∷ []) → Read bytes rest (256 * v + b)
unfolding little_of
read_more rest b r e = record {
  taken = b ∷ r.taken;
  all = sym (append_assoc rest (b ∷ []) r.taken) ∙ ap (λ (l : List ℕ). l ++ r.taken) (sym e) ∙ r.all;
  is = omega (arith, r.is);
}

read_below : {bytes left : List ℕ} {v : ℕ} → Read bytes left v → length bytes ≤ 4 → Bytes bytes → v < 2 ^ 32
read_below {bytes} {left} r h b =
    let d : drop (length left) bytes ≡ r.taken = ap (drop (length left)) (sym r.all) ∙ drop-append_seam left r.taken in
    let n : length r.taken ≤ length bytes = omega (arith, simp length-append at (ap length r.all)) in
    let t : Bytes r.taken = subst Bytes d (bytes_drop (length left) bytes b) in
    rw r.is (little_4 r.taken (omega arith) t)

pub more_fits : {bytes left : List ℕ} {v : ℕ} (rest : List ℕ) (b : ℕ) → Read bytes left v → left ≡ rest ++ (b ∷ []) → length bytes ≤ 4 → Bytes bytes → 256 * v + b < 2 ^ 32
more_fits rest b r e = read_below (read_more rest b r e)

pub read_all : {bytes : List ℕ} {v : ℕ} (left : List ℕ) → Read bytes left v → length left ≡ 0 → v ≡ little_of bytes
read_all [] r e = r.is ∙ ap little_of r.all
read_all (x ∷ left) r e = absurd (omega arith)

-- a number is read as it was written
pub length-bytes : (w v : ℕ) → length (bytes_of w v) ≡ w
unfolding bytes_of
length-bytes zero v = refl
length-bytes (suc w) v = ap suc (length-bytes w (v / 256))

pub take_bytes : (w v : ℕ) (rest : List ℕ) → take w (bytes_of w v ++ rest) ≡ bytes_of w v
unfolding bytes_of
take_bytes zero v rest = refl
take_bytes (suc w) v rest = ap (λ (l : List ℕ). v % 256 ∷ l) (take_bytes w (v / 256) rest)

pub drop_bytes : (w v : ℕ) (rest : List ℕ) → drop w (bytes_of w v ++ rest) ≡ rest
unfolding bytes_of
drop_bytes zero v rest = refl
drop_bytes (suc w) v rest = drop_bytes w (v / 256) rest

pub little_bytes : (w v : ℕ) → v < bound w → little_of (bytes_of w v) ≡ v
unfolding little_of bytes_of bound
little_bytes zero v h = omega arith
little_bytes (suc w) v h =
    let r : little_of (bytes_of w (v / 256)) ≡ v / 256 = little_bytes w (v / 256) (omega arith) in
    rw r (omega arith)

-- the four bytes of a number, and the first of them
pub four_bytes : (v : ℕ) → v < 2 ^ 32 → to_le_bytes w32 v ≡ bytes_of 4 v
unfolding bytes_of
four_bytes v h =
    let third : v / 65536 ≡ v / 256 / 256 = omega arith in
    let last : v / 16777216 ≡ v / 256 / 256 / 256 = omega arith in
    rw (third, last)

pub first_bytes : (width k v : ℕ) → width ≤ k → take width (bytes_of k v) ≡ bytes_of width v
unfolding bytes_of
first_bytes zero k v h = refl
first_bytes (suc width) zero v h = absurd (omega arith)
first_bytes (suc width) (suc k) v h = ap (λ (l : List ℕ). v % 256 ∷ l) (first_bytes width k (v / 256) (omega arith))

-- where a place or a width goes past the end, there is nothing more to read
cut_drop : (l : List ℕ) (at n : ℕ) → n ≡ min at (length l) → drop n l ≡ drop at l
cut_drop l at n e = by (ltb at (length l)) refl
  where
    by : (t : Bool) → ltb at (length l) ≡ t → drop n l ≡ drop at l
    by true h = let s : n ≡ at = omega (arith, ltb-true at (length l) h) in rw s
    by false h =
        let q : length l ≤ at = ltb-false at (length l) h in
        let s : length l ≤ n = omega arith in
        rw (drop_of_length-le l {i = n} s, drop_of_length-le l {i = at} q)

cut_take : (l : List ℕ) (width n : ℕ) → n ≡ min width (length l) → take n l ≡ take width l
cut_take l width n e = by (ltb width (length l)) refl
  where
    by : (t : Bool) → ltb width (length l) ≡ t → take n l ≡ take width l
    by true h = let s : n ≡ width = omega (arith, ltb-true width (length l) h) in rw s
    by false h =
        let q : length l ≤ width = ltb-false width (length l) h in
        let s : length l ≤ n = omega arith in
        rw (take_all n l s, take_all width l q)

pub number_cut : (l : List ℕ) (at width start count : ℕ) → start ≡ min at (length l) → count ≡ min width (length (take (length l - start) (drop start l)))
    → little_of (take count (take (length l - start) (drop start l))) ≡ number_at at width l
unfolding number_at
number_cut l at width start count p q =
    let e : take (length l - start) (drop start l) ≡ drop start l = take_all (length l - start) (drop start l) (omega (arith, length-drop start l)) in
    let n : count ≡ min width (length (drop start l)) = q ∙ ap (λ (r : List ℕ). min width (length r)) e in
    ap (λ (r : List ℕ). little_of (take count r)) e
    ∙ ap little_of (cut_take (drop start l) width count n)
    ∙ ap (λ (r : List ℕ). little_of (take width r)) (cut_drop l at start p)
