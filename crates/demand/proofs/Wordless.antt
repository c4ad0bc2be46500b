-- A job that was loaded, saved and loaded again is the same machine, whatever words the host gives the second time; without kind 5 its words are those
-- that the host gave the first time (`host_stays`).
-- Assumes nothing.
use Prim.Native.Nat.{ℕ}
use mathlib.Core.Path.{◌≡◌, sym, ◌∙◌}
use mathlib.Core.List.{List, []}
use lib.ListN.{length}
use Rattle.lent.specs.Little.{Bytes}
use Rattle.job.specs.Job.{Load, load_of}
use Rattle.job.specs.Loads.{Loads, Given}
use Rattle.job.proofs.Lawful.{some_cells, few_cells, loaded_lawful, loaded_cells, loaded_from}
use Rattle.saver.specs.Saving.{saved_of}
use Rattle.demand.specs.Reload.{Saveable, reloaded}
use Rattle.demand.proofs.Reload.{reload}

module _ (job host cells : List ℕ) (bytes : Bytes job) (given : Given host) (loads : Loads job host cells) where
  abbrev l : Load
  l = load_of job host cells

  saveable : Saveable l.machine l.cells
  saveable =
      let f = loaded_lawful job host cells bytes loads given [] in
      let size = loaded_cells job host cells bytes loads in
      record {
        held = record { registers = f.registers; values = f.words; words = f.cells; five = f.five; given = f.given };
        some = rw size (some_cells job host cells bytes loads);
        few = rw size (few_cells job host cells bytes loads);
        settled = f.ready.settled;
      }

  as_loaded : reloaded l.machine l.cells ≡ l
  as_loaded = rw (loaded_from job host cells bytes loads)

  pub saved_again : (other before : List ℕ) → length before ≡ length cells → load_of (saved_of l.machine l.cells) other before ≡ l
  saved_again other before e =
      reload l.machine l.cells other before saveable (e ∙ sym (loaded_cells job host cells bytes loads)) ∙ as_loaded
