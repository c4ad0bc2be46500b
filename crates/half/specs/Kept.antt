-- What ex is for: document 02, 2026-01.
use Rattle.std.specs.Prelude.{◌≡◌, ℕ}
use Rattle.binary.specs.Value.{nan, binary16, binary32, value}

-- the single r stands for what the half x stands for, and of all NaNs it is this one
pub record Kept (x r : ℕ) : Type 0 where
  pub same : value binary32 r ≡ value binary16 x
  pub one : value binary16 x ≡ nan → r ≡ 0x7FC00000
