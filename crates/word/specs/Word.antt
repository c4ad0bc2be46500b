-- What opcodes 16 to 53 write: document 01, 'One step' and 'Flags'.
use Rattle.std.specs.Prelude.{ℕ, ◌+◌, ◌-◌, ◌*◌, ◌/◌, ◌%◌, ◌^◌, Bool, true, false, cond, ◌||◌, List, [], ◌∷◌, ℤ, pos, ◌==◌, bit_and, bit_or, bit_xor, int_div, int_le, int_lt, nat_le, nat_lt, slice_index_or}
use Rattle.std.specs.Int.Signed.{shr_z}
use Rattle.std.specs.Int.{w32}
use Rattle.std.proofs.Common.{to_z, of_z}
use Rattle.word.specs.declared.Written.{Written}
use Rattle.word.specs.declared.Op.{Op}
use Rattle.word.specs.declared.Op.TheVariants.{Add, Adc, Sub, Sbb, Mul, Udiv, Sdiv, Mod, And, Or, Xor, Nand, Lnand, Lsh, Ursh, Srsh, Ugt, Sgt, Eq}
use Rattle.word.specs.Operation.{Asked, Given, Turned, Other}

-- the lowest 32 bits of a number
abbrev pub wrap : ℕ → ℕ
wrap x = x % 4294967296

-- 32 bits read as a signed number, and the 32 bits of a signed number (two's complement)
abbrev pub signed : ℕ → ℤ
signed x = to_z w32 x

abbrev pub bits : ℤ → ℕ
bits z = of_z w32 z

-- the flags that an operation writes, a bit each
abbrev pub carry : ℕ
carry = 1

abbrev pub borrow : ℕ
borrow = 2

abbrev pub overflow : ℕ
overflow = 4

abbrev pub underflow : ℕ
underflow = 8

abbrev pub divide_by_zero : ℕ
divide_by_zero = 16

-- the old carry and the old borrow, 1 or 0
abbrev pub carry_of : ℕ → ℕ
carry_of flags = flags % 2

abbrev pub borrow_of : ℕ → ℕ
borrow_of flags = flags / 2 % 2

-- 1 for a test that holds, else 0
abbrev pub truth : Bool → ℕ
truth true = 1
truth false = 0

-- the flags g for a test that holds, else none
abbrev pub when : Bool → ℕ → ℕ
when true g = g
when false g = 0

-- a value, with no flag governed
abbrev pub plain_of : ℕ → Written
plain_of v = record { value = v; governed = 0; raised = 0 }

-- 16, 17: from the whole sum; carry and overflow say that 32 bits do not hold it
abbrev pub sum_of : ℕ → Written
sum_of whole = record {
  value = wrap whole;
  governed = carry + overflow;
  raised = when (nat_le (2 ^ 32) whole) (carry + overflow);
}

-- 18, 19: m less a whole amount; borrow and overflow say that m was too small for it
abbrev pub difference_of : ℕ → ℕ → Written
difference_of m amount = record {
  value = wrap (m + 2 ^ 32 - amount);
  governed = borrow + overflow;
  raised = when (nat_lt m amount) (borrow + overflow);
}

-- 20: from the whole product; overflow says that 32 bits do not hold it
abbrev pub product_of : ℕ → Written
product_of whole = record { value = wrap whole; governed = overflow; raised = when (nat_le (2 ^ 32) whole) overflow }

-- 21 and 23, unsigned: a division by zero keeps n and raises its flag
abbrev pub udiv_of : ℕ → ℕ → ℕ → Written
udiv_of m l n = record {
  value = cond (l == 0) n (m / l);
  governed = divide_by_zero;
  raised = when (l == 0) divide_by_zero;
}

abbrev pub mod_of : ℕ → ℕ → ℕ → Written
mod_of m l n = record {
  value = cond (l == 0) n (m % l);
  governed = divide_by_zero;
  raised = when (l == 0) divide_by_zero;
}

-- 22, signed and cut toward zero: by zero it keeps n, and overflow is 0; only the quotient 2^31 raises overflow
abbrev pub sdiv_by : Bool → ℤ → ℕ → Written
sdiv_by true quotient n = record { value = n; governed = divide_by_zero + overflow; raised = divide_by_zero }
sdiv_by false quotient n = record {
  value = bits quotient;
  governed = divide_by_zero + overflow;
  raised = when (int_le (pos (2 ^ 31)) quotient) overflow;
}

abbrev pub sdiv_of : ℕ → ℕ → ℕ → Written
sdiv_of m l n = sdiv_by (l == 0) (int_div (signed m) (signed l)) n

-- 29 to 31: m shifted by l places, or by more than 31, which leaves 0, and for 31 the sign in each bit
abbrev pub lsh_by : Bool → ℕ → ℕ → ℕ
lsh_by true m l = 0
lsh_by false m l = wrap (m * 2 ^ l)

abbrev pub ursh_by : Bool → ℕ → ℕ → ℕ
ursh_by true m l = 0
ursh_by false m l = m / 2 ^ l

abbrev pub srsh_by : Bool → ℕ → ℕ → ℕ
srsh_by true m l = cond (nat_le (2 ^ 31) m) 0xFFFFFFFF 0
srsh_by false m l = bits (shr_z (signed m) (2 ^ l))

-- a shift, and the flag that says that it was by more than 31
abbrev pub shift_of : (Bool → ℕ → ℕ → ℕ) → ℕ → ℕ → ℕ → Written
shift_of by flag m l = record { value = by (nat_lt 31 l) m l; governed = flag; raised = when (nat_lt 31 l) flag }

-- What an operation writes, from the operands m and l, the old Rn and the flags: a line for each of 16 to 34.
unfoldable pub written_of : Op → ℕ → ℕ → ℕ → ℕ → Written
written_of Add m l n flags = sum_of (m + l)
written_of Adc m l n flags = sum_of (m + l + carry_of flags)
written_of Sub m l n flags = difference_of m l
written_of Sbb m l n flags = difference_of m (l + borrow_of flags)
written_of Mul m l n flags = product_of (m * l)
written_of Udiv m l n flags = udiv_of m l n
written_of Sdiv m l n flags = sdiv_of m l n
written_of Mod m l n flags = mod_of m l n
written_of And m l n flags = plain_of (bit_and m l)
written_of Or m l n flags = plain_of (bit_or m l)
written_of Xor m l n flags = plain_of (bit_xor m l)
written_of Nand m l n flags = plain_of (2 ^ 32 - 1 - bit_and m l)
written_of Lnand m l n flags = plain_of (truth (m == 0 || l == 0))
written_of Lsh m l n flags = shift_of lsh_by overflow m l
written_of Ursh m l n flags = shift_of ursh_by underflow m l
written_of Srsh m l n flags = shift_of srsh_by underflow m l
written_of Ugt m l n flags = plain_of (truth (nat_lt l m))
written_of Sgt m l n flags = plain_of (truth (int_lt (signed l) (signed m)))
written_of Eq m l n flags = plain_of (truth (m == l))

-- the operation of an opcode from 16 to 34
abbrev pub operations : List Op
operations = Add ∷ Adc ∷ Sub ∷ Sbb ∷ Mul ∷ Udiv ∷ Sdiv ∷ Mod ∷ And ∷ Or ∷ Xor ∷ Nand ∷ Lnand ∷ Lsh ∷ Ursh ∷ Srsh ∷ Ugt ∷ Sgt ∷ Eq ∷ []

unfoldable pub op_of : ℕ → Op
op_of opcode = slice_index_or operations (opcode - 16) Add

-- An immediate form asks for the operation of an opcode 19 lower up to 45, and 17 lower up to 51; 52 and 53 for UGT and SGT turned.
unfoldable pub asked_of : ℕ → Asked
asked_of opcode =
    cond (nat_lt opcode 16) Other
    (cond (nat_le opcode 34) (Given (op_of opcode))
    (cond (nat_le opcode 45) (Given (op_of (opcode - 19)))
    (cond (nat_le opcode 51) (Given (op_of (opcode - 17)))
    (cond (opcode == 52) (Turned Ugt)
    (cond (opcode == 53) (Turned Sgt) Other)))))
