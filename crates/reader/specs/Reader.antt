-- What reading a line may answer: document 01, 'Lines and jobs'.
use Rattle.std.specs.Prelude.{◌≡◌, ◌↔◌, List, ℕ, ◌^◌, ◌<◌}
use Rattle.cell.specs.Cell.{Reply}
use Rattle.line.specs.Line.{line_of}

-- a cell for its own line and no other text, and 30 for a text that is no cell's line and no other
pub record Reads (text : List ℕ) (said : Reply) : Type 0 where
  pub cell : (c : ℕ) → c < 2 ^ 32 → (said ≡ record { number = 0; cell = c }) ↔ (text ≡ line_of c)
  pub refused : (said ≡ record { number = 30; cell = 0 }) ↔ ((c : ℕ) → c < 2 ^ 32 → text ≡ line_of c → ⊥)
