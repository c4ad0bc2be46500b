-- A fraction moved up by `up_of`: its leading digit then stands just above the ten bits.
-- Assumes nothing.
use Rattle.std.proofs.Common.{◌≡◌, ℕ, suc, ◌+◌, ◌*◌, ◌^◌, ◌<◌, ◌≤◌, sym, ap, ◌∙◌, subst, le_trans, le_of_eq, mul-le-mul_right, pow-suc, arith, pow-add, shl_lt}
use lib.Count.{count_leading_zeros, leading_top, leading_unique}
use Rattle.half.specs.Half.{up_of}

pub record Up (t : ℕ) : Type 0 where
  pub most : up_of t ≤ 10
  pub above : 2 ^ 10 ≤ t * 2 ^ up_of t
  pub below : t * 2 ^ up_of t < 2 ^ 11
  pub counted : count_leading_zeros 32 t ≡ 21 + up_of t

pub up : (t : ℕ) → 0 < t → t < 2 ^ 10 → Up t
up t p h = go (leading_top 10 t p h)
  where
    go : (j : ℕ) × (count_leading_zeros 10 t + suc j ≡ 10) × (2 ^ j ≤ t) × (t < 2 ^ suc j) → Up t
    go (j, sum, least, under) =
        let ten : j + up_of t ≡ 10 = omega (arith, sum) in
        let eleven : suc j + up_of t ≡ 11 = omega (arith, sum) in
        record {
          most = omega (arith, sum);
          above = le_trans (le_of_eq (ap (λ (k : ℕ). 2 ^ k) (sym ten) ∙ pow-add 2 j (up_of t))) (mul-le-mul_right (2 ^ up_of t) least);
          below = subst (λ (k : ℕ). t * 2 ^ up_of t < 2 ^ k) eleven (shl_lt (suc j) (up_of t) under);
          counted = sym (leading_unique 32 t (21 + up_of t) (suc j) (omega (arith, sum)) under (omega (arith, least, pow-suc 2 j)));
        }
