-- `backward::back_over` meets its contract: the loop's invariant is that what is left of going back leads where the whole leads.
use Prim.Native.Nat.{ℕ}
use mathlib.Core.List.{List}
use Rattle.machine.specs.declared.Settings.{Settings}
use Rattle.backward.specs.Reached.{machine_with}
use Rattle.backward.proofs.Returns.{Returning}
use Rattle.backward.proofs.back_over.Given as goal

-- the loop knows registers and depth of the machine; the rest may be any
abbrev pub invariant-loop-count : goal.invariant-loop-count
invariant-loop-count l = (s : Settings) (host : List ℕ) → Returning l.number (machine_with l.initial.regs s l.depth host) l.initial.cells l.journal l.count l.at l.regs l.cells
