-- A table of what a function gives for the numbers below n: functions with equal tables agree at each of these numbers.
-- Assumes nothing.
use Prim.Native.Nat.{ℕ, zero, suc, ◌<◌}
use mathlib.Core.Path.{◌≡◌}
use mathlib.Core.Logic.{⊎_elim}
use mathlib.Core.List.{List, [], ◌∷◌}
use native.Mathlib.Nat.{eq-or-lt_of_le, le_of_suc-le-suc}
use native.Mathlib.Omega.{arith}
use Rattle.std.specs.Prelude.{Result, ⊤}
use Rattle.profile.specs.declared.Flaw.{Flaw}

abbrev pub table : (ℕ → Result ⊤ Flaw) → ℕ → List (Result ⊤ Flaw)
table f zero = []
table f (suc n) = f n ∷ table f n

pub agree : (f g : ℕ → Result ⊤ Flaw) (n : ℕ) → table f n ≡ table g n → (x : ℕ) → x < n → f x ≡ g x
agree f g zero e x h = absurd (omega arith)
agree f g (suc n) e x h =
    let last : f n ≡ g n = cc in
    let rest : table f n ≡ table g n = cc in
    ⊎_elim (λ (q : x ≡ n). rw q last) (λ (q : x < n). agree f g n rest x q) (eq-or-lt_of_le (le_of_suc-le-suc h))
