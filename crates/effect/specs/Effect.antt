-- What an action does, as a value: document 01, 'One step'; where LDST may load from: document 02, 2026-05; floats: 2026-06.
use Rattle.std.specs.Prelude.{ℕ, ◌/◌, ◌%◌, Bool, cond, ◌&&◌, ◌||◌, leb, ltb, eqb}
use Rattle.half.specs.Half.{se_of, extended}
use Rattle.word.specs.Word.{written_of}
use Rattle.float.specs.Float.{calculated_of}
use Rattle.machine.specs.State.{State, flags_bound, first_special}
use Rattle.effect.specs.Parts.{Interrupt, Effect, still, ◌then◌, write_a, write_b, gain, say, result, illegal, store, load}
use Rattle.effect.specs.Action.{Action, Cpswp, Ldst, Put, Operate, Split, Bz, Int, Calculate, Float, Illegal}
use Rattle.machine.specs.Addresses.{mask_address, mode_address, host_address, host_last}
use Rattle.effect.specs.Operands.{reg, value_of, behind}

-- Illegal: a load past the mode's address that is not of the host's words; above memory, a store to any address but the mask's and the mode's, or of a value too large for it.
abbrev pub illegal_load : ℕ → Bool
illegal_load p = ltb mode_address p && (ltb p host_address || ltb host_last p)

abbrev pub illegal_store : ℕ → ℕ → Bool
illegal_store p v =
    cond (eqb p mask_address) (leb flags_bound v)
    (cond (eqb p mode_address) (leb 4 v)
    (leb first_special p))

-- What an action does to a state: all that it reads is s, and parts are written in the order in which they stand.
unfoldable pub effect_of : Action → State → Effect
-- 0: first l, then n; where both are one register, n's write stays
effect_of (Cpswp n m l) s = still s then write_b l (reg s n) then write_a n (reg s m)
-- 1: store Rn at Rm, then load Rn from Rl, or neither where one of them is illegal
effect_of (Ldst n m l) s =
    cond (illegal_load (reg s l) || illegal_store (reg s m) (reg s n)) (still s then illegal)
    (still s then store (reg s m) (reg s n) then load (reg s l) n (behind s.cells s.settings s.host (reg s l)))
-- 3 to 7
effect_of (Put n v) s = still s then write_a n (value_of s v)
-- 16 to 53: the operation also sees Rn, which division by zero keeps, and the flags
effect_of (Operate op n x y) s = still s then result n (written_of op (value_of s x) (value_of s y) (reg s n) s.settings.flags)
-- 54 and 107: the lower half to m, then the upper half to l
effect_of (Split x n m l) s = still s then write_a m (extended x (reg s n % 65536)) then write_b l (extended x (reg s n / 65536))
-- 121: a branch if Rn is 0
effect_of (Bz n imm) s = cond (eqb (reg s n) 0) (still s then gain (se_of imm)) (still s)
-- 122: nothing but its answer
effect_of (Int n imm) s = still s then say (Interrupt (reg s n) imm)
-- 80 to 83, 89, 90, 93 to 96, 102 to 104
effect_of (Calculate op n x y) s = still s then result n (calculated_of op (value_of s x) (value_of s y))
-- the others of 80 to 106 are refused, so that nothing is carried out
effect_of Float s = still s
-- all reserved opcodes
effect_of Illegal s = still s then illegal
