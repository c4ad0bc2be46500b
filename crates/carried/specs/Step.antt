-- What is lent to a step, by the definitions of `Left`: the state that it finds, and what it leaves.
use Rattle.std.specs.Prelude.{◌≡◌, ℕ, ◌^◌, ◌<◌, List, length}
use Rattle.machine.specs.State.{State}
use Rattle.carried.specs.declared.Step.{Step}
use Rattle.carried.specs.Left.{Left, left, before}

-- the part and the registers are those that were lent, and the part is as long as it was
abbrev pub Lent : Step → Step → Type 0
Lent old new = (new.part.ghost_name ≡ old.part.ghost_name) × (new.regs.ghost_name ≡ old.regs.ghost_name) × (length new.part.now ≡ length old.part.now)

-- what its types say of it
abbrev pub Typed : Step → Type 0
Typed step = (length step.regs.now ≡ 256) × (step.settings < 2 ^ 32)

-- settings and what is told are as they were
abbrev pub Settled : Step → Step → Type 0
Settled old new = (new.settings ≡ old.settings) × (new.told ≡ old.told)

abbrev pub left_in : Step → List ℕ → Left
left_in step cells = left step.regs.now cells step.part.now step.settings step.told

abbrev pub before_in : Step → List ℕ → List ℕ → State
before_in step host cells = before step.regs.now step.settings host cells step.part.now
