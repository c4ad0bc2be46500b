-- How a run can still end, document 02, 2026-04: by a write to R255, and by no branch.
use Rattle.std.specs.Prelude.{ℕ, suc, ◌≤◌, ◌<◌, ◌≡◌, Bool, true, false, ◌&&◌, ◌||◌, eqb, length}
use Rattle.machine.specs.declared.Kind.{Kind}
use Rattle.machine.specs.State.{State, pc_of, most_cells}
use Rattle.effect.specs.Parts.{Write, Effect}
use Rattle.effect.specs.Action.{Action, Cpswp, Ldst, Put, Operate, Split, Bz, Int, Calculate, Float, Illegal}
use Rattle.step.specs.Step.{action_in, effect_in}
use Rattle.step.specs.Steps.{steps}
use Rattle.call.specs.Calls.{Out}

abbrev pub is_pc : ℕ → Bool
is_pc i = eqb 255 i

-- an effect writes R255: it is the journal's a, or its b
abbrev pub to_pc : Write → Bool
to_pc w = w.used && is_pc w.number

abbrev pub writes_pc : Effect → Bool
writes_pc e = to_pc e.a || to_pc e.b

-- The instructions that can, by their registers: CPSWP, LDST, 3 to 7, 16 to 53, the float opcodes that run, SPLIT and FSPLIT; not BZ and INT, the other float opcodes, reserved cells.
abbrev pub can_write_pc : Action → Bool
can_write_pc (Cpswp n m l) = is_pc n || is_pc l
can_write_pc (Ldst n m l) = is_pc n
can_write_pc (Put n v) = is_pc n
can_write_pc (Operate op n x y) = is_pc n
can_write_pc (Split x n m l) = is_pc m || is_pc l
can_write_pc (Bz n imm) = false
can_write_pc (Int n imm) = false
can_write_pc (Calculate op n x y) = is_pc n
can_write_pc Float = false
can_write_pc Illegal = false

-- 256 registers, at most 16,384 cells, PC below M
pub record Underway (s : State) : Type 0 where
  pub registers : length s.regs ≡ 256
  pub few : length s.cells ≤ most_cells
  pub inside : pc_of s.regs < length s.cells

-- The next step writes R255: it is an instruction that can, and no branch.
pub record Exits (s : State) : Type 0 where
  pub wrote : writes_pc (effect_in s) ≡ true
  pub can : can_write_pc (action_in s) ≡ true
  pub no_branch : (n imm : ℕ) → action_in s ≡ Bz n imm → ⊥

-- A run from s that ended did a step at least, and the last one wrote R255.
pub record Exited (kind : Kind) (s : State) (o : Out) : Type 0 where
  pub before : ℕ
  pub count : o.count ≡ suc before
  pub last : Exits (steps kind before s)
