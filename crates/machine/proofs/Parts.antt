-- A run of stores into a part that was lent is that run of stores into the whole.
-- Assumes nothing.
use Prim.Native.Nat.{ℕ, ◌+◌, ◌-◌, ◌≤◌}
use native.Mathlib.Nat.{zero-add}
use native.Mathlib.Omega.{arith}
use mathlib.Core.Path.{◌≡◌, ◌∙◌}
use mathlib.Core.List.{List, [], ◌++◌, append_assoc, append-nil}
use lib.ListN.{length, take, drop, length-drop, drop_of_length-le}
use lib.Seq.{sets, sets-eq, take_all, drop-drop, length-take-le}
use borrow.Rule.Slice.PartMut.{mid_of, put_mid}

pub part_sets : (l vs : List ℕ) (a : ℕ) → a + length vs ≤ length l → put_mid a (length l - a) l (sets (mid_of a (length l - a) l) 0 vs) ≡ sets l a vs
part_sets l vs a fits =
    let mid : take (length l - a) (drop a l) ≡ drop a l = take_all (length l - a) (drop a l) (simp length-drop (omega arith)) in
    let post : drop (length l - a) (drop a l) ≡ [] = drop_of_length-le (drop a l) {i = length l - a} (simp length-drop (omega arith)) in
    let inner : sets (drop a l) 0 vs ≡ vs ++ drop (a + length vs) l =
    sets-eq vs (drop a l) 0 (simp length-drop (omega arith)) ∙ rw (zero-add, drop-drop) in
    rw (mid, post, inner, sets-eq vs l a fits) (simp (append-nil, append_assoc))

-- the same for a part that is as long as the run
pub exact_sets : (l vs : List ℕ) (a : ℕ) → a + length vs ≤ length l → put_mid a (length vs) l (sets (mid_of a (length vs) l) 0 vs) ≡ sets l a vs
exact_sets l vs a fits =
    let long : length (take (length vs) (drop a l)) ≡ length vs = length-take-le (length vs) (drop a l) (simp length-drop (omega arith)) in
    let rest : drop (length vs) (take (length vs) (drop a l)) ≡ [] = drop_of_length-le (take (length vs) (drop a l)) {i = length vs} (omega (arith, long)) in
    let inner : sets (take (length vs) (drop a l)) 0 vs ≡ vs = sets-eq vs (take (length vs) (drop a l)) 0 (omega (arith, long)) ∙ rw (zero-add, rest) (append-nil vs) in
    rw (inner, sets-eq vs l a fits, drop-drop) (simp append_assoc)
