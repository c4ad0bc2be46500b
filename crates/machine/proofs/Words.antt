-- A list of 32-bit words stays one where a word is written.
-- Assumes nothing.
use Prim.Native.Nat.{ℕ, ◌^◌, ◌<◌}
use mathlib.Core.Path.{◌≡◌, refl}
use mathlib.Core.Bool.{Bool, true, false}
use mathlib.Core.List.{List}
use lib.Dec.{ltb, eqb}
use lib.ListN.{length, get_or, set}
use lib.Seq.{get_or-set_same, get_or-set_other, set_out}
use borrow.Author.Tests.{ltb-true, ltb-false, eqb-true, eqb-false}
use Rattle.machine.specs.Lawful.{Words}

pub set_words : (l : List ℕ) (i v : ℕ) → Words l → v < 2 ^ 32 → Words (set l i v)
set_words l i v w h j = at (eqb j i) refl (ltb i (length l)) refl
  where
    at : (t : Bool) → eqb j i ≡ t → (u : Bool) → ltb i (length l) ≡ u → get_or (set l i v) j 0 < 2 ^ 32
    at false q u r = rw (get_or-set_other l i j v 0 (eqb-false j i q)) (w j)
    at true q true r = rw (eqb-true j i q, get_or-set_same l i v 0 (ltb-true i (length l) r)) h
    at true q false r = rw (set_out l i v (ltb-false i (length l) r)) (w j)
