-- A cell's numbers are in range: opcode and registers below 256, the immediate below 65,536; so what is decoded is of its opcode's
-- form and in range too, and a reserved cell is below 2^32.
-- Assumes nothing.
use mathlib.Core.Path.{◌≡◌, refl}
use Prim.Native.Nat.{ℕ, ◌^◌, ◌<◌}
use native.Mathlib.Omega.{arith}
use Rattle.cell.specs.declared.Form.{Form}
use Rattle.cell.specs.declared.Form.TheVariants as form
use Rattle.cell.specs.declared.Instruction.{Instruction}
use Rattle.cell.specs.declared.Instruction.TheVariants.{Registers, Immediate, Reserved}
use Rattle.cell.specs.Cell.{opcode_of, n_of, m_of, l_of, imm_of, form_of, read_in, decode_of}

pub opcode_below : (c : ℕ) → c < 2 ^ 32 → opcode_of c < 256
opcode_below c h = omega arith

pub n_below : (c : ℕ) → n_of c < 256
n_below c = omega arith

pub m_below : (c : ℕ) → m_of c < 256
m_below c = omega arith

pub l_below : (c : ℕ) → l_of c < 256
l_below c = omega arith

pub imm_below : (c : ℕ) → imm_of c < 65536
imm_below c = omega arith

abbrev pub InRange : Instruction → Type 0
InRange (Registers x n m l) = (form_of x ≡ form.Registers) × (x < 256) × (n < 256) × (m < 256) × (l < 256)
InRange (Immediate x n i) = (form_of x ≡ form.Immediate) × (x < 256) × (n < 256) × (i < 65536)
InRange (Reserved c) = (form_of (opcode_of c) ≡ form.Reserved) × (c < 2 ^ 32)

read_in_range : (f : Form) (c : ℕ) → c < 2 ^ 32 → form_of (opcode_of c) ≡ f → InRange (read_in f c)
read_in_range form.Registers c h e = (e, opcode_below c h, n_below c, m_below c, l_below c)
read_in_range form.Immediate c h e = (e, opcode_below c h, n_below c, imm_below c)
read_in_range form.Reserved c h e = (e, h)

pub decoded_in_range : (c : ℕ) → c < 2 ^ 32 → InRange (decode_of c)
unfolding decode_of
decoded_in_range c h = read_in_range (form_of (opcode_of c)) c h refl
