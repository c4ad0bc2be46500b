-- What `runjob` prints of a job's outcome: document 01, 'Lines and jobs', its last part. Each line ends in LF.
use Rattle.std.specs.Prelude.{cond, List, [], ◌∷◌, ◌++◌, ℕ, ◌+◌, ◌*◌, ◌≤◌, eqb, length, take, replicate}
use Rattle.machine.specs.declared.Machine.{Machine}
use Rattle.machine.specs.State.{pc_of}
use Rattle.text.specs.Text.{bytes, named, Added}
use Rattle.intake.specs.Intake.{cell_count, refused_text}
use Rattle.outcome.specs.Outcome.{End, refused, ran, Outcome, outcome_of, entry_count}

-- the first line of a run, as `exit 1 steps 3 pc 4294901763 flags 256`
abbrev pub exit_text : ℕ → ℕ → ℕ → ℕ → List ℕ
exit_text stop count pc flags =
    named "exit " stop ++ named " steps " count ++ named " pc " pc ++ named " flags " flags ++ bytes "\n"

-- a register's line, as `R1 5`; none for 0
abbrev pub register_text : ℕ → ℕ → List ℕ
register_text i v = cond (eqb v 0) [] (named "R" i ++ named " " v ++ bytes "\n")

-- the lines of registers, of which the first is register i
unfoldable pub registers_text : ℕ → List ℕ → List ℕ
registers_text i [] = []
registers_text i (v ∷ regs) = register_text i v ++ registers_text (i + 1) regs

-- the first line, and then registers 0 to 254
unfoldable pub ran_text : ℕ → ℕ → Machine → List ℕ
ran_text stop count m = exit_text stop count (pc_of m.regs) m.settings.flags ++ registers_text 0 (take 255 m.regs)

-- the text of an outcome, from its end and the machine
abbrev pub told_of : End → Machine → List ℕ
told_of (refused number offset) m = refused_text number offset
told_of (ran said count) m = ran_text said.number count m

abbrev pub told_by : Outcome → List ℕ
told_by o = told_of o.end o.machine

-- what `runjob` prints for an input
unfoldable pub text_of : List ℕ → List ℕ
text_of input = told_by (outcome_of input (replicate cell_count 0) (replicate (8 * entry_count) 0))

-- no text is longer: a first line of at most 84 bytes, and 255 of at most 16
abbrev pub longest : ℕ
longest = 4164

-- a text is put from a place on, as much of it as there is room for, and is not longer than the longest
pub record Told (before : List ℕ) (at : ℕ) (text : List ℕ) (after : List ℕ) (next : ℕ) : Type 0 where
  pub added : Added before at text after next
  pub short : length text ≤ longest
