-- What is left in register n, settings and what is told, for contracts of private functions.
use Rattle.std.specs.Prelude.{◌≡◌, ℕ, cond, List, ◌==◌, slice_set}
use Rattle.word.specs.declared.Written.{Written}
use Rattle.effect.specs.Parts.{flags_of}

-- register n, the flags of a word of settings, and what is told, after an operation that wrote w
pub record Operated (w : Written) (n s : ℕ) (regs regs' : List ℕ) (told told' r : ℕ) : Type 0 where
  pub wrote : regs' ≡ slice_set regs n w.value
  pub settled : r ≡ flags_of s w.governed w.raised
  pub raised : told' ≡ cond (w.raised == 0) told w.raised
