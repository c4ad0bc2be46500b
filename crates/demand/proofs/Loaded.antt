-- Demand 3, from a job: load any bytes that load, with any five words of the host's, any number of cells and any journal, then any calls.
-- Assumes nothing.
use Prim.Native.Nat.{ℕ}
use mathlib.Core.List.{List}
use Rattle.lent.specs.Little.{Bytes}
use Rattle.job.specs.Loads.{Loads, Given}
use Rattle.job.proofs.Lawful.{some_cells, few_cells, loaded_lawful, loaded_depth, loaded_cells}
use Rattle.demand.specs.Journey.{Call, set_out, travel, loaded, Arrived}
use Rattle.demand.proofs.Travel.{journey}

pub loaded_journey : (job host cells journal : List ℕ) → Bytes job → Given host → Loads job host cells → (cs : List Call)
    → Arrived (loaded job host cells journal) (travel cs (set_out (loaded job host cells journal)))
loaded_journey job host cells journal bytes given h cs =
    journey (loaded job host cells journal) (loaded_lawful job host cells bytes h given journal) (loaded_depth job host cells bytes h)
    (rw (loaded_cells job host cells bytes h) (some_cells job host cells bytes h)) (rw (loaded_cells job host cells bytes h) (few_cells job host cells bytes h)) cs
