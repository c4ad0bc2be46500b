-- `half::ex` meets its contract: its cases are the definition's, and a fraction moves up by what its leading zeros say.
use Rattle.std.proofs.Common.{◌≡◌, ℕ, ◌+◌, ◌-◌, ◌*◌, ◌%◌, ◌^◌, arith, ne_eqb}
use lib.Count.{count_leading_zeros}
use Rattle.half.specs.Half.{single, up_of, ex_of}
use Rattle.half.proofs.Up.{Up, up}
use Rattle.half.proofs.ex.Goals as goal

fraction_up : (x : ℕ) → (x % 1024 ≡ 0 → ⊥) → Up (x % 1024)
fraction_up x n = up (x % 1024) (omega (arith, n)) (omega arith)

-- counted among 32 bits, the zeros are 22 more than among ten
moved : (s t : ℕ) → Up t
    → s * 2147483648 + (113 - (count_leading_zeros 32 t - 21)) * 8388608 + t * 2 ^ (count_leading_zeros 32 t - 21) % 4294967296 % 1024 * 8192
    ≡ single s (113 - up_of t) (t * 2 ^ up_of t % 2 ^ 10 * 2 ^ 13)
moved s t u =
    let same : count_leading_zeros 32 t - 21 ≡ up_of t = omega (arith, u.counted) in
    rw same (omega (arith, u.below))

pub overflow_sub-up : goal.overflow_sub-up
overflow_sub-up c = omega (arith, (fraction_up _ c.in-0-default.is-1.1).counted)

pub returns-in-0-default : goal.returns-in-0-default
unfolding ex_of
returns-in-0-default c = rw (c.in-0-default.is-0, ne_eqb _ _ c.in-0-default.is-1.1) (moved _ _ (fraction_up _ c.in-0-default.is-1.1))
