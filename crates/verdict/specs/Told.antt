-- What `check-rule` prints. Each line ends in LF.
use Rattle.std.specs.Prelude.{List, ◌++◌, ℕ, ◌≤◌, length, replicate, Ok, Err}
use Rattle.text.specs.Text.{bytes, named, Added}
use Rattle.line.specs.Line.{line_of}
use Rattle.intake.specs.Intake.{cell_count, refused_text}
use Rattle.profile.specs.declared.Flaw.{Flaw}
use Rattle.profile.specs.declared.Flaw.TheVariants as flaw
use Rattle.verdict.specs.declared.Unfit.TheVariants.{Refused, NoStart, BadLength, BadCell}
use Rattle.verdict.specs.Verdict.{Verdict, verdict_of}

-- why a cell is not allowed
abbrev pub flaw_text : Flaw → List ℕ
flaw_text flaw.Reserved = bytes "not allowed: the opcode is reserved\n"
flaw_text flaw.Float = bytes "not allowed: opcodes 80 to 106 are for floats\n"
flaw_text flaw.Int = bytes "not allowed: INT would stop the rule\n"
flaw_text flaw.Back = bytes "not allowed: the branch goes back\n"
flaw_text flaw.Target = bytes "not allowed: R255 is a target, which it may be in LDUI R255, #65535 alone\n"

-- the text of a verdict
unfoldable pub told_of : Verdict → List ℕ
told_of (Err (Refused r)) = refused_text r.number r.offset
told_of (Err NoStart) = bytes "refused 60: the first record does not begin at cell 0\n"
told_of (Err (BadLength most)) = named "refused 60: L must be 1 to " most ++ bytes "\n"
told_of (Ok l) = named "forward only: at most " l ++ bytes " steps\n"
-- as `cell 3: BZ R1, #65533`
told_of (Err (BadCell place cell flaw)) = named "cell " place ++ bytes ": " ++ line_of cell ++ flaw_text flaw

-- what `check-rule` prints for an input and an argument
unfoldable pub text_of : List ℕ → List ℕ → List ℕ
text_of input argument = told_of (verdict_of input argument (replicate cell_count 0))

-- no text is longer
abbrev pub longest : ℕ
longest = 128

-- a text is put from a place on, as much of it as there is room for, and is not longer than the longest
pub record Told (before : List ℕ) (at : ℕ) (text : List ℕ) (after : List ℕ) (next : ℕ) : Type 0 where
  pub added : Added before at text after next
  pub short : length text ≤ longest
