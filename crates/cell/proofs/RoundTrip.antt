-- Encoding what was decoded gives the cell back; decoding what was encoded gives opcode and operands back; and what encoding
-- says tells its answers apart.
use mathlib.Core.Path.{◌≡◌, refl, sym, ap, ◌∙◌}
use mathlib.Core.Bool.{Bool, true, false, cond}
use Rattle.std.specs.Prelude.{Result, Ok, Err}
use Prim.Native.Nat.{ℕ, ◌+◌, ◌*◌, ◌^◌, ◌<◌}
use native.Mathlib.Omega.{arith}
use lib.Dec.{eqb}
use Rattle.cell.specs.declared.Form.{Form}
use Rattle.cell.specs.declared.Form.TheVariants as form
use Rattle.cell.specs.declared.Instruction.TheVariants as instruction
use Rattle.cell.specs.declared.Operands.TheVariants as operands
use Rattle.cell.specs.declared.EncodeError.{EncodeError}
use Rattle.cell.specs.declared.EncodeError.TheVariants.{ReservedOpcode, OtherForm}
use Rattle.cell.specs.Cell.{legal, immediate, form_of, opcode_of, n_of, m_of, l_of, imm_of, read_in, decode_of, Reply, write_as, encode_of}
use Rattle.cell.specs.Answers.{encoded_reply}
use Rattle.cell.proofs.Tests.{never}

-- number 0 and the cell
abbrev pub made : ℕ → Reply
made c = record { number = 0; cell = c }

-- the answer that was said
abbrev heard : Reply → Result ℕ EncodeError
heard s = cond (eqb s.number 0) (Ok s.cell) (Err (cond (eqb s.number 21) ReservedOpcode OtherForm))

heard_said : (a : Result ℕ EncodeError) → heard (encoded_reply a) ≡ a
heard_said (Ok c) = refl
heard_said (Err ReservedOpcode) = refl
heard_said (Err OtherForm) = refl

pub said_once : (a b : Result ℕ EncodeError) → encoded_reply a ≡ encoded_reply b → a ≡ b
said_once a b e = sym (heard_said a) ∙ ap heard e ∙ heard_said b

-- encoding what was decoded
module _ (c : ℕ) (h : c < 2 ^ 32) where
  registers_read : (f : Form) → form_of (opcode_of c) ≡ f → {x n m l : ℕ} → read_in f c ≡ instruction.Registers x n m l → encode_of x (operands.Registers n m l) ≡ made c
  unfolding encode_of
  registers_read form.Registers e {x} {n} {m} {l} d =
      let ex : opcode_of c ≡ x = cc in
      let en : n_of c ≡ n = cc in
      let em : m_of c ≡ m = cc in
      let el : l_of c ≡ l = cc in
      rw (← ex, e) (ap made (omega arith))
  registers_read form.Immediate e d = never (cc)
  registers_read form.Reserved e d = never (cc)

  immediate_read : (f : Form) → form_of (opcode_of c) ≡ f → {x n i : ℕ} → read_in f c ≡ instruction.Immediate x n i → encode_of x (operands.Immediate n i) ≡ made c
  unfolding encode_of
  immediate_read form.Registers e d = never (cc)
  immediate_read form.Immediate e {x} {n} {i} d =
      let ex : opcode_of c ≡ x = cc in
      let en : n_of c ≡ n = cc in
      let ei : imm_of c ≡ i = cc in
      rw (← ex, e) (ap made (omega arith))
  immediate_read form.Reserved e d = never (cc)

  pub encode_registers : {x n m l : ℕ} → decode_of c ≡ instruction.Registers x n m l → encode_of x (operands.Registers n m l) ≡ made c
  unfolding decode_of
  encode_registers d = registers_read (form_of (opcode_of c)) refl d

  pub encode_immediate : {x n i : ℕ} → decode_of c ≡ instruction.Immediate x n i → encode_of x (operands.Immediate n i) ≡ made c
  unfolding decode_of
  encode_immediate d = immediate_read (form_of (opcode_of c)) refl d

reserved_read : (c : ℕ) (f : Form) → form_of (opcode_of c) ≡ f → {d : ℕ} → read_in f c ≡ instruction.Reserved d → (d ≡ c) × (form_of (opcode_of c) ≡ form.Reserved)
reserved_read c form.Registers e d = never (cc)
reserved_read c form.Immediate e d = never (cc)
reserved_read c form.Reserved e d = (cc, e)

unlegal : (a b : Bool) → cond a (cond b form.Immediate form.Registers) form.Reserved ≡ form.Reserved → a ≡ false
unlegal true true e = never (cc)
unlegal true false e = never (cc)
unlegal false b e = refl

-- a reserved cell is answered whole, and only for an opcode that is not legal
pub reserved_whole : (c : ℕ) {d : ℕ} → decode_of c ≡ instruction.Reserved d → (d ≡ c) × (legal (opcode_of c) ≡ false)
unfolding decode_of form_of
reserved_whole c {d} e =
    let r : (d ≡ c) × (form_of (opcode_of c) ≡ form.Reserved) = reserved_read c (form_of (opcode_of c)) refl e in
    (r.0, unlegal (legal (opcode_of c)) (immediate (opcode_of c)) r.1)

-- decoding what was encoded, which is a cell of 32 bits
module _ (x n : ℕ) (hx : x < 256) (hn : n < 256) where
  registers_written : (f : Form) → form_of x ≡ f → {m l c : ℕ} → m < 256 → l < 256 → write_as f x (operands.Registers n m l) ≡ made c → (decode_of c ≡ instruction.Registers x n m l) × (c < 2 ^ 32)
  unfolding decode_of
  registers_written form.Registers e {m} {l} {c} hm hl w =
      let s : 16777216 * x + 65536 * n + 256 * m + l ≡ c = ap (λ (s : Reply). s.cell) w in
      let ex : opcode_of c ≡ x = omega arith in
      let en : n_of c ≡ n = omega arith in
      let em : m_of c ≡ m = omega arith in
      let el : l_of c ≡ l = omega arith in
      (simp (ex, e, en, em, el), omega arith)
  registers_written form.Immediate e hm hl w = never (cc (ap heard w))
  registers_written form.Reserved e hm hl w = never (cc (ap heard w))

  immediate_written : (f : Form) → form_of x ≡ f → {i c : ℕ} → i < 65536 → write_as f x (operands.Immediate n i) ≡ made c → (decode_of c ≡ instruction.Immediate x n i) × (c < 2 ^ 32)
  unfolding decode_of
  immediate_written form.Registers e hi w = never (cc (ap heard w))
  immediate_written form.Immediate e {i} {c} hi w =
      let s : 16777216 * x + 65536 * n + i ≡ c = ap (λ (s : Reply). s.cell) w in
      let ex : opcode_of c ≡ x = omega arith in
      let en : n_of c ≡ n = omega arith in
      let ei : imm_of c ≡ i = omega arith in
      (simp (ex, e, en, ei), omega arith)
  immediate_written form.Reserved e hi w = never (cc (ap heard w))

  pub decode_registers : {m l c : ℕ} → m < 256 → l < 256 → encode_of x (operands.Registers n m l) ≡ made c → (decode_of c ≡ instruction.Registers x n m l) × (c < 2 ^ 32)
  unfolding encode_of
  decode_registers hm hl w = registers_written (form_of x) refl hm hl w

  pub decode_immediate : {i c : ℕ} → i < 65536 → encode_of x (operands.Immediate n i) ≡ made c → (decode_of c ≡ instruction.Immediate x n i) × (c < 2 ^ 32)
  unfolding encode_of
  decode_immediate hi w = immediate_written (form_of x) refl hi w
