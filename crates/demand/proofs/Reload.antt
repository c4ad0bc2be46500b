-- Loading a saved job into as many cells gives that machine with its words and those cells, at depth 0. The proof walks over the saved job's pieces,
-- each of which is read back.
-- Assumes nothing.
use Prim.Native.Nat.{ℕ, zero, suc, ◌+◌}
use mathlib.Core.Path.{◌≡◌, refl, ◌∙◌}
use mathlib.Core.Bool.{false}
use mathlib.Core.List.{List, [], ◌++◌, append_assoc, append-nil}
use native.Mathlib.Omega.{arith}
use lib.ListN.{length, get_or, take, drop, replicate, length-replicate, drop_of_length-le}
use lib.Seq.{sets, sets-eq, take-append_seam}
use borrow.Author.Tests.{ne_eqb, le-ltb}
use Rattle.machine.specs.State.{InRange, most_cells, bad_cells}
use Rattle.machine.specs.declared.Machine.{Machine}
use Rattle.job.specs.Job.{nothing_yet, Content, unnamed, refusal_in, load_of}
use Rattle.saver.specs.Saving.{record_of, runs_from, values_from, setup_of, host_of, saved_of, save_of}
use Rattle.saver.proofs.Saving.{done}
use Rattle.machine.proofs.Checks.{not_above}
use Rattle.job.proofs.Lawful.{in_range}
use Rattle.demand.specs.Reload.{Held, Saveable, reloaded}
use Rattle.demand.proofs.Readback.{Reads, reads_end, reads_host, reads_setup, reads_values, reads_runs}

-- a list stored over as many zeros
over_zeros : (n : ℕ) (l : List ℕ) → length l ≡ n → sets (replicate n 0) 0 l ≡ l
over_zeros n l e =
    let z : length (replicate {A = ℕ} n 0) ≡ n = length-replicate {A = ℕ} n 0 in
    let d : drop (0 + length l) (replicate {A = ℕ} n 0) ≡ [] = drop_of_length-le (replicate n 0) {i = 0 + length l} (omega arith) in
    sets-eq l (replicate n 0) 0 (omega arith) ∙ rw d (append-nil l)

all_zero : (n j : ℕ) → ◌≡◌ {A = ℕ} (get_or (replicate n 0) j 0) 0
all_zero zero j = refl
all_zero (suc n) zero = refl
all_zero (suc n) (suc j) = all_zero n j

module _ (m : Machine) (cells : List ℕ) (held : Held m cells) (settled : InRange m.settings) (fine : bad_cells (length cells) ≡ false) where
  -- what the walk over a saved job makes of cells and registers that are 0
  abbrev made : Content
  made = record { regs = sets (replicate 256 0) 0 m.regs; settings = m.settings; host = m.host; cells = sets (replicate (length cells) 0) 0 cells }

  parts : saved_of m cells ≡ runs_from 0 [] cells ++ (values_from 0 m.regs ++ (setup_of m.settings ++ (host_of m.host ++ record_of 4 [])))
  unfolding saved_of
  parts =
      append_assoc (runs_from 0 [] cells ++ values_from 0 m.regs ++ setup_of m.settings) (host_of m.host) (record_of 4 [])
      ∙ append_assoc (runs_from 0 [] cells ++ values_from 0 m.regs) (setup_of m.settings) (host_of m.host ++ record_of 4 [])
      ∙ append_assoc (runs_from 0 [] cells) (values_from 0 m.regs) (setup_of m.settings ++ (host_of m.host ++ record_of 4 []))

  module _ (host : List ℕ) where
    walked : Reads (length cells) nothing_yet (unnamed host (length cells)) (saved_of m cells) made
    walked =
        rw parts
        (reads_runs cells [] 0 (length cells) nothing_yet (unnamed host (length cells)) _ made (not_above (length cells) fine) (omega arith) (omega arith) (omega arith) (omega arith) (λ i. omega arith) held.words (λ j h. all_zero (length cells) j) (λ seen a k.
        reads_values m.regs 0 (length cells) seen _ _ made (omega arith) k (omega (arith, held.registers)) held.values (λ j h. all_zero 256 j) (λ later b.
        reads_setup (length cells) later _ m.settings _ made settled refl (omega arith) (λ next d.
        reads_host (length cells) next _ m.host _ made held.five held.given (omega arith) (λ last f.
        reads_end (length cells) last made (omega arith))))))

    back : (before : List ℕ) → length before ≡ length cells → load_of (saved_of m cells) host before ≡ reloaded m cells
    unfolding refusal_in
    back before e =
        let w = walked (length (saved_of m cells)) 0 (omega arith) in
        rw (e, fine, w.0, e, w.1, over_zeros 256 m.regs held.registers, over_zeros (length cells) cells refl)

-- Loading a saved job into as many cells gives that machine with its words and those cells, at depth 0, whatever words the host gives.
pub reload : (m : Machine) (cells host before : List ℕ) → Saveable m cells → length before ≡ length cells → load_of (saved_of m cells) host before ≡ reloaded m cells
reload m cells host before s e =
    back m cells s.held s.settled (rw (ne_eqb (length cells) 0 (λ z. omega (arith, s.some)), le-ltb most_cells (length cells) s.few)) host before e

-- The bytes that a save wrote, loaded into as many cells, give that machine and those cells.
pub save_reload : (m : Machine) (cells room host before : List ℕ) → Held m cells → length before ≡ length cells → (save_of m cells room).number ≡ 0
    → load_of (take (save_of m cells room).length (save_of m cells room).room) host before ≡ reloaded m cells
save_reload m cells room host before held e h =
    let d = done m cells room h in
    let front : take (length (saved_of m cells)) (sets room 0 (saved_of m cells)) ≡ saved_of m cells
    = rw (sets-eq (saved_of m cells) room 0 (omega (arith, d.fits))) (take-append_seam (saved_of m cells) (drop (0 + length (saved_of m cells)) room)) in
    rw (d.saved, front) (back m cells held (in_range m.settings d.settled) d.fine host before e)
