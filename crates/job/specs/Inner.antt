-- What only the contracts of private functions cite, each a short way to name what the definitions make: nothing here is promised.
use Rattle.std.specs.Prelude.{◌≡◌, ℕ, ◌^◌, ◌≤◌, ◌<◌, true, List, length, Result, Ok, Err, ⊤}
use Rattle.std.proofs.Math.Option.{Option, none, some}
use Rattle.machine.specs.declared.Machine.{Machine}
use Rattle.job.specs.declared.Refused.{Refused}
use Rattle.job.specs.declared.records.Kind.{Kind}
use Rattle.job.specs.declared.records.Kind.TheVariants.{Run, Host}
use Rattle.job.specs.declared.reading.Look.{Look}
use Rattle.job.specs.declared.reading.Look.TheVariants.{Last, Next}
use Rattle.job.specs.Job.{within_of, Fate, refused, last, further, Notice, Content}
use Rattle.refusal.specs.declared.Refusal.{Refusal}
use Rattle.refusal.specs.Refusal.{number_of}

-- the course of a record, and the refusal of a job, from the code's answers
abbrev pub looked_of : Result Look Refusal → Fate
looked_of (Err why) = refused (number_of why)
looked_of (Ok Last) = last
looked_of (Ok (Next size past)) = further size past

abbrev pub noticed : Result ⊤ Refused → Option Notice
noticed (Ok _) = none
noticed (Err r) = some (record { number = number_of r.why; offset = r.offset })

-- what a machine and its cells hold of a job
abbrev pub content_with : Machine → List ℕ → Content
content_with m cells = record { regs = m.regs; settings = m.settings; host = m.host; cells = cells }

-- a length that a payload of its kind can have: a run holds its base and a cell, the host's words are five, and none is long
pub record Sized (kind : Kind) (size : ℕ) : Type 0 where
  pub run : kind ≡ Run → 6 ≤ size
  pub host : kind ≡ Host → size ≡ 20
  pub short : size < 2 ^ 31

-- a payload that a record of its kind can have, over m cells
pub record Sound (m : ℕ) (kind : Kind) (payload : List ℕ) : Type 0 where
  pub sized : Sized kind (length payload)
  pub within : within_of m kind payload ≡ true
