-- What the theorems on loaded jobs take as given.
use Rattle.std.specs.Prelude.{◌≡◌, Bool, true, false, List, ℕ, zero, suc, ◌+◌, length, drop}
use Rattle.machine.specs.Lawful.{Words}
use Rattle.job.specs.declared.records.Kind.{Kind}
use Rattle.job.specs.declared.records.Kind.TheVariants.{Run, Register, Setup, Host, End, Other}
use Rattle.job.specs.Job.{size_of, kind_of, load_of}

-- loading these bytes with the host's words into these cells is not refused
abbrev pub Loads : List ℕ → List ℕ → List ℕ → Type 0
Loads job host cells = (load_of job host cells).said ≡ record { number = 0; offset = 0 }

-- the host gives five words of 32 bits
pub record Given (host : List ℕ) : Type 0 where
  pub five : length host ≡ 5
  pub words : Words host

-- no record of kind 5 is among those left, up to the last: at most n of them
abbrev pub wordless_by : Kind → Bool → Bool
wordless_by Run rest = rest
wordless_by Register rest = rest
wordless_by Setup rest = rest
wordless_by Host rest = false
wordless_by End rest = true
wordless_by Other rest = true

unfoldable pub wordless : ℕ → List ℕ → Bool
wordless zero left = true
wordless (suc n) left = wordless_by (kind_of left) (wordless n (drop (6 + size_of left) left))
