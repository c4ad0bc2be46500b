-- What `runjob` takes in: document 01, 'Lines and jobs', its last part; `check-rule` takes in the same.
use Rattle.std.specs.Prelude.{cond, List, ◌++◌, ℕ, ltb, length}
use Rattle.machine.specs.State.{fresh_host, fresh_machine}
use Rattle.job.specs.Job.{Load, load_of}
use Rattle.text.specs.Text.{bytes, named}

-- the cells that a job is loaded into, and the longest input in bytes
abbrev pub cell_count : ℕ
cell_count = 4096

abbrev pub most_input : ℕ
most_input = 32768

-- a refusal, as `refused 41 at 0`, ended by LF
abbrev pub refused_text : ℕ → ℕ → List ℕ
refused_text number offset = named "refused " number ++ named " at " offset ++ bytes "\n"

-- a longer input is refused with 50 at 32768, whatever it holds; the host's words are zeros
unfoldable pub taken_of : List ℕ → List ℕ → Load
taken_of input cells =
    cond (ltb most_input (length input))
    (record { machine = fresh_machine; cells = cells; said = record { number = 50; offset = most_input } })
    (load_of input fresh_host cells)
