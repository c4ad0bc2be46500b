-- A store into a profile's code, as the code asks for it and as the definition does.
-- Assumes nothing.
use Prim.Native.Nat.{ℕ, ◌≤◌, ◌<◌}
use mathlib.Core.Path.{◌≡◌, refl}
use mathlib.Core.Bool.{Bool, true, false, cond, not, ◌&&◌, ◌||◌}
use mathlib.Core.List.{List}
use mathlib.Core.Logic.{◌⊎◌, inl, inr}
use mathlib.Core.Option.{Option, none, some, or_else}
use native.Mathlib.Omega.{arith}
use lib.Dec.{leb, ltb, eqb}
use lib.ListN.{length}
use borrow.Author.Tests.{eq-eqb, ne_eqb, eqb-true, le-leb, lt-leb, le-ltb, lt-ltb}
use Rattle.cell.specs.Cell.{opcode_of, m_of, l_of, decode_of}
use Rattle.cell.proofs.Tests.{never}
use Rattle.machine.specs.declared.Kind.{Kind}
use Rattle.machine.specs.declared.Kind.TheVariants.{Plain, Profile}
use Rattle.machine.specs.State.{State}
use Rattle.machine.proofs.Tests.{and_false}
use Rattle.effect.specs.Action.{Action, action_of}
use Rattle.effect.specs.Operands.{operand_of, reg}
use Rattle.effect.specs.Refusal.{faults, refused_by}
use Rattle.effect.proofs.Opcodes.{ldst}
use Rattle.step.specs.Step.{stores_into, guard_of}
use Rattle.guard.specs.Guard.{guarded_of, stores_below}
use Rattle.effect.proofs.Rows.{by_rows}

-- tests on stores: f, a pointer faults; t, the store is below the guard
or_none : (o : Option ℕ) → or_else o none ≡ o
unfolding or_else
or_none none = refl
or_none (some k) = refl

lets_pass : (t f : Bool) → (t && not f) ≡ false → or_else {A = ℕ} (cond f (some 5) none) (cond t (some 61) none) ≡ cond f (some 5) none
unfolding or_else
lets_pass true true h = refl
lets_pass true false h = never (cc)
lets_pass false true h = refl
lets_pass false false h = refl

stops_it : (t f : Bool) → (t && not f) ≡ true → or_else {A = ℕ} (cond f (some 5) none) (cond t (some 61) none) ≡ some 61
unfolding or_else
stops_it true true h = never (cc)
stops_it true false h = refl
stops_it false true h = never (cc)
stops_it false false h = never (cc)

-- nothing is below 0
nothing : (a b c : Bool) → (a && (b && false) && c) ≡ false
nothing true true c = refl
nothing true false c = refl
nothing false b c = refl

pub unguarded : (size : ℕ) (regs : List ℕ) (cell : ℕ) → stores_below 0 size regs cell ≡ false
unfolding stores_below
unguarded size regs cell = rw (le-ltb (operand_of regs (m_of cell)) 0 (omega arith)) (nothing (eqb (opcode_of cell) 1) (leb 1 (operand_of regs (m_of cell))) _)

-- nor does another opcode store, or one whose pointer is 0 or past the guard
pub other_opcode : (guard size : ℕ) (regs : List ℕ) (cell : ℕ) → (opcode_of cell ≡ 1 → ⊥) → stores_below guard size regs cell ≡ false
unfolding stores_below
other_opcode guard size regs cell h = rw (ne_eqb _ _ h)

neither : (a b c d : Bool) → (b && c) ≡ false → (a && (b && c) && d) ≡ false
neither true b c d h = rw h
neither false b c d h = refl

pub not_below : (guard size : ℕ) (regs : List ℕ) (cell : ℕ) → (operand_of regs (m_of cell) ≡ 0) ⊎ (guard ≤ operand_of regs (m_of cell)) → stores_below guard size regs cell ≡ false
unfolding stores_below
not_below guard size regs cell h = neither (eqb (opcode_of cell) 1) (leb 1 (operand_of regs (m_of cell))) (ltb (operand_of regs (m_of cell)) guard) _ (go h)
  where
    go : (operand_of regs (m_of cell) ≡ 0) ⊎ (guard ≤ operand_of regs (m_of cell)) → (leb 1 (operand_of regs (m_of cell)) && ltb (operand_of regs (m_of cell)) guard) ≡ false
    go (inl z) = rw (lt-leb 1 (operand_of regs (m_of cell)) (omega arith))
    go (inr z) = rw (le-ltb (operand_of regs (m_of cell)) guard z) (and_false (leb 1 (operand_of regs (m_of cell))))

-- the tests of a store, as the code asks them
pub below : (guard size : ℕ) (regs : List ℕ) (cell : ℕ) → opcode_of cell ≡ 1 → (operand_of regs (m_of cell) ≡ 0 → ⊥) → operand_of regs (m_of cell) < guard
    → stores_below guard size regs cell ≡ not (faults size (operand_of regs (l_of cell)) || faults size (operand_of regs (m_of cell)))
unfolding stores_below
below guard size regs cell e nonzero near =
    rw (eq-eqb _ _ e, le-leb 1 (operand_of regs (m_of cell)) (omega arith), lt-ltb (operand_of regs (m_of cell)) guard near)

-- what the cell asks for, in a state
module _ (s : State) (cell : ℕ) where
  abbrev action : Action
  action = action_of (decode_of cell)

  abbrev near : ℕ → Bool
  near l = leb 1 (reg s (m_of cell)) && ltb (reg s (m_of cell)) l

  abbrev fault : Bool
  fault = faults (length s.cells) (reg s (l_of cell)) || faults (length s.cells) (reg s (m_of cell))

  abbrev stop : Kind → Option ℕ
  stop kind = or_else (refused_by action s) (guard_of kind action s)

  -- no other opcode stores into the code
  others : (l : ℕ) → eqb (opcode_of cell) 1 ≡ false → stores_into l action s ≡ false
  unfolding stores_into
  others l h = by_rows (λ (a : Action). stores_into l a s ≡ false) cell (record {
    cpswp = refl;
    ldst = λ t. never (cc);
    put = λ n v. refl;
    operate = λ op n v w. refl;
    split = λ e. refl;
    bz = refl;
    int = λ t. refl;
    calculate = λ op n v w. refl;
    float = refl;
    illegal = refl;
  })

  profile_passes : (l : ℕ) (t : Bool) → eqb (opcode_of cell) 1 ≡ t → (t && near l && not fault) ≡ false → stop (Profile l) ≡ refused_by action s
  unfolding refused_by stores_into
  profile_passes l true e h = rw (ldst cell (eqb-true _ _ e)) (lets_pass (near l) fault h)
  profile_passes l false e h = rw (others l e) (or_none _)

  -- a cell that the guard lets pass is refused by its own stop, if any
  pub passes : (kind : Kind) → stores_below (guarded_of kind) (length s.cells) s.regs cell ≡ false → stop kind ≡ refused_by action s
  unfolding stores_below
  passes Plain h = or_none _
  passes (Profile l) h = profile_passes l (eqb (opcode_of cell) 1) refl h

  profile_stops : (l : ℕ) (t : Bool) → eqb (opcode_of cell) 1 ≡ t → (t && near l && not fault) ≡ true → stop (Profile l) ≡ some 61
  unfolding refused_by stores_into
  profile_stops l true e h = rw (ldst cell (eqb-true _ _ e)) (stops_it (near l) fault h)
  profile_stops l false e h = never (cc)

  -- .. and one that it does not is refused by 61
  pub caught : (kind : Kind) → stores_below (guarded_of kind) (length s.cells) s.regs cell ≡ true → stop kind ≡ some 61
  unfolding stores_below
  caught Plain h = never (let z = unguarded (length s.cells) s.regs cell in cc)
  caught (Profile l) h = profile_stops l (eqb (opcode_of cell) 1) refl h
