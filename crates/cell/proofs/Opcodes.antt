-- How many opcodes are legal and how many of immediate form, counted over all 256; every immediate opcode is legal, and an opcode
-- above 122 is reserved.
use mathlib.Core.Path.{◌≡◌, refl}
use mathlib.Core.Bool.{true, not, ◌&&◌}
use Prim.Native.Nat.{ℕ, ◌<◌, ◌≤◌}
use borrow.Author.Tests.{not-false, le-leb}
use lib.Dec.{leb}
use Rattle.cell.specs.declared.Form.TheVariants as form
use Rattle.cell.specs.Cell.{legal, immediate, form_of}
use Rattle.cell.proofs.Tests.{count, none_passes}

pub legal_opcodes : count legal 256 ≡ 76
unfolding legal
legal_opcodes = refl

pub immediate_opcodes : count immediate 256 ≡ 40
unfolding immediate
immediate_opcodes = refl

-- no opcode is of immediate form and reserved
none_astray : count (λ (x : ℕ). immediate x && not (legal x)) 256 ≡ 0
unfolding immediate legal
none_astray = refl

pub immediate_legal : (x : ℕ) → x < 256 → immediate x ≡ true → legal x ≡ true
immediate_legal x h i = not-false (legal x) (rw i at (none_passes (λ (y : ℕ). immediate y && not (legal y)) 256 none_astray x h))

none_above : count (λ (x : ℕ). leb 123 x && legal x) 256 ≡ 0
unfolding legal
none_above = refl

pub reserved_above : (x : ℕ) → x < 256 → 123 ≤ x → form_of x ≡ form.Reserved
unfolding form_of
reserved_above x h a = rw (rw (le-leb 123 x a) at (none_passes (λ (y : ℕ). leb 123 y && legal y) 256 none_above x h))
