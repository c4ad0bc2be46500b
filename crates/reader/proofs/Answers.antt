-- What reading answers: a cell's printed line gives the cell back, what is read was that cell's line, and so the answer is as stated.
use mathlib.Core.Path.{◌≡◌, refl, sym, ap, subst, ◌∙◌}
use mathlib.Core.Bool.{Bool, true, false, cond, ◌&&◌}
use mathlib.Core.List.{List, [], ◌∷◌, ◌++◌, append_assoc}
use Prim.Native.Nat.{ℕ, ◌^◌, ◌<◌}
use native.Mathlib.Omega.{arith}
use borrow.Author.Tests.{eqb-true}
use lib.Dec.{eqb, lit<}
use lib.ListN.{length, get_or}
use Rattle.cell.specs.declared.Form.{Form}
use Rattle.cell.specs.declared.Form.TheVariants as form
use Rattle.cell.specs.declared.Instruction.{Instruction}
use Rattle.cell.specs.declared.Instruction.TheVariants.{Registers, Immediate, Reserved}
use Rattle.cell.specs.declared.Operands.TheVariants as operands
use Rattle.cell.specs.Cell.{Reply, form_of, opcode_of, legal, immediate, decode_of, encode_of}
use Rattle.cell.proofs.RoundTrip.{made, encode_registers, encode_immediate, decode_registers, decode_immediate, reserved_whole}
use Rattle.cell.proofs.Fields.{InRange, decoded_in_range}
use Rattle.std.specs.Prelude.{Result, Ok, Err}
use Rattle.reader.specs.declared.NoLine.{NoLine}
use Rattle.text.specs.Text.{bytes, decimal}
use Rattle.mnemonic.specs.Mnemonic.{word_of}
use Rattle.line.specs.Line.{spelled, line_of}
use Rattle.line.proofs.Sizes.{line_spelled}
use Rattle.reader.specs.Reader.{Reads}
use Rattle.reader.specs.Answers.{read_reply}
use Rattle.reader.specs.Reading.{Taken, taken, missing, numeral_of, field_of, word_from, ended, refused, finished, on_taken, registers_of, immediate_of, reserved_of, cell_of, rest_of, read_of}
use Rattle.cell.proofs.Tests.{never, both_left, both_right}
use Rattle.reader.proofs.Numbers.{number_back, number_true, field_back, field_true}
use Rattle.reader.proofs.Search.{word_true, word_back, reserved, cell_word, cell_words, cell_back}

-- the operands of each form, with what ends the line
abbrev registers_text : ℕ → ℕ → ℕ → List ℕ
registers_text n m l = bytes "R" ++ (decimal n ++ (bytes ", R" ++ (decimal m ++ (bytes ", R" ++ (decimal l ++ bytes "\n")))))

abbrev immediate_text : ℕ → ℕ → List ℕ
immediate_text n i = bytes "R" ++ (decimal n ++ (bytes ", #" ++ (decimal i ++ bytes "\n")))

registers_spelled : (x n m l : ℕ) → spelled (Registers x n m l) ≡ word_of x ++ registers_text n m l
registers_spelled x n m l = simp append_assoc

immediate_spelled : (x n i : ℕ) → spelled (Immediate x n i) ≡ word_of x ++ immediate_text n i
immediate_spelled x n i = simp append_assoc

cell_spelled : (c : ℕ) → spelled (Reserved c) ≡ word_of 2 ++ (decimal c ++ bytes "\n")
cell_spelled c = rw cell_word (simp append_assoc)

-- what is printed is read
registers_back : (x n m l : ℕ) → n < 256 → m < 256 → l < 256 → registers_of x (registers_text n m l) ≡ finished (encode_of x (operands.Registers n m l)) (bytes "\n")
unfolding registers_of
registers_back x n m l hn hm hl =
    rw (
      field_back 255 (lit< tt) (bytes "R") n 44 (bytes " R" ++ (decimal m ++ (bytes ", R" ++ (decimal l ++ bytes "\n")))) (omega arith) refl,
      field_back 255 (lit< tt) (bytes ", R") m 44 (bytes " R" ++ (decimal l ++ bytes "\n")) (omega arith) refl,
      field_back 255 (lit< tt) (bytes ", R") l 10 [] (omega arith) refl,
    )

immediate_back : (x n i : ℕ) → n < 256 → i < 65536 → immediate_of x (immediate_text n i) ≡ finished (encode_of x (operands.Immediate n i)) (bytes "\n")
unfolding immediate_of
immediate_back x n i hn hi =
    rw (
      field_back 255 (lit< tt) (bytes "R") n 44 (bytes " #" ++ (decimal i ++ bytes "\n")) (omega arith) refl,
      field_back 65535 (lit< tt) (bytes ", #") i 10 [] (omega arith) refl,
    )

cell_rest : (c : ℕ) → c < 2 ^ 32 → cell_of (decimal c ++ bytes "\n") ≡ finished (reserved_of (form_of (opcode_of c)) c) (bytes "\n")
unfolding cell_of
cell_rest c h = rw (number_back 4294967295 (lit< tt) c 10 [] (omega arith) refl)

two_reserved : form_of 2 ≡ form.Reserved
unfolding form_of legal immediate
two_reserved = refl

module _ (c : ℕ) (h : c < 2 ^ 32) where
  back_registers : (x n m l : ℕ) → decode_of c ≡ Registers x n m l → read_of (spelled (Registers x n m l)) ≡ made c
  unfolding read_of
  back_registers x n m l e =
      let r : InRange (Registers x n m l) = subst InRange e (decoded_in_range c h) in
      rw (
        registers_spelled x n m l,
        word_back x (registers_text n m l) r.1 (ap reserved r.0),
        r.0,
        registers_back x n m l (omega arith) (omega arith) (omega arith),
        encode_registers c h e,
      )

  back_immediate : (x n i : ℕ) → decode_of c ≡ Immediate x n i → read_of (spelled (Immediate x n i)) ≡ made c
  unfolding read_of
  back_immediate x n i e =
      let r : InRange (Immediate x n i) = subst InRange e (decoded_in_range c h) in
      rw (
        immediate_spelled x n i,
        word_back x (immediate_text n i) r.1 (ap reserved r.0),
        r.0,
        immediate_back x n i (omega arith) (omega arith),
        encode_immediate c h e,
      )

  back_reserved : (d : ℕ) → decode_of c ≡ Reserved d → read_of (spelled (Reserved d)) ≡ made c
  unfolding read_of
  back_reserved d e =
      let r : InRange (Reserved d) = subst InRange e (decoded_in_range c h) in
      rw (cell_spelled d, cell_back (decimal d ++ bytes "\n"), two_reserved, cell_rest d r.1, r.0)
      (ap made (reserved_whole c e).0)

  back : (i : Instruction) → decode_of c ≡ i → read_of (spelled i) ≡ made c
  back (Registers x n m l) e = back_registers x n m l e
  back (Immediate x n i) e = back_immediate x n i e
  back (Reserved d) e = back_reserved d e

  -- reading a printed line gives its cell
  pub read_back : read_of (line_of c) ≡ made c
  unfolding line_of
  read_back = back (decode_of c) refl

-- what is read was printed
not_made : {P : Type 0} {c : ℕ} → refused ≡ made c → P
not_made e = let z : ◌≡◌ {A = ℕ} 30 0 = ap (λ (s : Reply). s.number) e in absurd (omega arith)

record Opened (o : Taken) (f : ℕ → List ℕ → Reply) (c : ℕ) : Type 0 where
  value : ℕ
  rest : List ℕ
  is : o ≡ taken value rest
  then : f value rest ≡ made c

opened : (o : Taken) (f : ℕ → List ℕ → Reply) {c : ℕ} → on_taken o f ≡ made c → Opened o f c
opened (taken v t) f e = record { value = v; rest = t; is = refl; then = e }
opened missing f e = not_made e

ended_true : (s : List ℕ) → ended s ≡ true → s ≡ bytes "\n"
ended_true [] e = never (cc)
ended_true (b ∷ []) e = ap (λ (a : ℕ). a ∷ []) (eqb-true b 10 e)
ended_true (b ∷ (a ∷ s)) e =
    let n : length (b ∷ (a ∷ s)) ≡ 1 = eqb-true (length (b ∷ (a ∷ s))) 1 (both_left (eqb (length (b ∷ (a ∷ s))) 1) (eqb (get_or (b ∷ (a ∷ s)) 0 0) 10) e) in
    absurd (omega arith)

finished_tested : (a : Reply) (s : List ℕ) {c : ℕ} (b : Bool) → eqb a.number 0 && ended s ≡ b → cond b a refused ≡ made c → (a ≡ made c) × (s ≡ bytes "\n")
finished_tested a s true e r = (r, ended_true s (both_right (eqb a.number 0) (ended s) e))
finished_tested a s false e r = not_made r

finished_true : (a : Reply) (s : List ℕ) {c : ℕ} → finished a s ≡ made c → (a ≡ made c) × (s ≡ bytes "\n")
finished_true a s r = finished_tested a s (eqb a.number 0 && ended s) refl r

reserved_true : (f : Form) (v : ℕ) {c : ℕ} → reserved_of f v ≡ made c → (f ≡ form.Reserved) × (v ≡ c)
reserved_true form.Registers v e = not_made e
reserved_true form.Immediate v e = not_made e
reserved_true form.Reserved v e = (refl, ap (λ (s : Reply). s.cell) e)

reserved_decoded : (c : ℕ) → form_of (opcode_of c) ≡ form.Reserved → decode_of c ≡ Reserved c
unfolding decode_of
reserved_decoded c e = rw e

module _ (x : ℕ) (t : List ℕ) {c : ℕ} (h : x < 123) where
  registers_true : registers_of x t ≡ made c → (word_of x ++ t ≡ line_of c) × (c < 2 ^ 32)
  unfolding registers_of
  registers_true e =
      let n = opened (field_of (bytes "R") 255 t) _ e in
      let m = opened (field_of (bytes ", R") 255 n.rest) _ n.then in
      let l = opened (field_of (bytes ", R") 255 m.rest) _ m.then in
      let f = finished_true (encode_of x (operands.Registers n.value m.value l.value)) l.rest l.then in
      let tn = field_true 255 (lit< tt) (bytes "R") t n.is in
      let tm = field_true 255 (lit< tt) (bytes ", R") n.rest m.is in
      let tl = field_true 255 (lit< tt) (bytes ", R") m.rest l.is in
      let d = decode_registers x n.value (omega arith) (omega arith) (omega arith) (omega arith) f.0 in
      (rw (tn.0, tm.0, tl.0, f.1) (sym (line_spelled c d.0 ∙ registers_spelled x n.value m.value l.value)), d.1)

  immediate_true : immediate_of x t ≡ made c → (word_of x ++ t ≡ line_of c) × (c < 2 ^ 32)
  unfolding immediate_of
  immediate_true e =
      let n = opened (field_of (bytes "R") 255 t) _ e in
      let i = opened (field_of (bytes ", #") 65535 n.rest) _ n.then in
      let f = finished_true (encode_of x (operands.Immediate n.value i.value)) i.rest i.then in
      let tn = field_true 255 (lit< tt) (bytes "R") t n.is in
      let ti = field_true 65535 (lit< tt) (bytes ", #") n.rest i.is in
      let d = decode_immediate x n.value (omega arith) (omega arith) (omega arith) f.0 in
      (rw (tn.0, ti.0, f.1) (sym (line_spelled c d.0 ∙ immediate_spelled x n.value i.value)), d.1)

  cell_true : form_of x ≡ form.Reserved → cell_of t ≡ made c → (word_of x ++ t ≡ line_of c) × (c < 2 ^ 32)
  unfolding cell_of
  cell_true r e =
      let v = opened (numeral_of 4294967295 t) _ e in
      let f = finished_true (reserved_of (form_of (opcode_of v.value)) v.value) v.rest v.then in
      let w = reserved_true (form_of (opcode_of v.value)) v.value f.0 in
      let tv = number_true 4294967295 (lit< tt) t v.is in
      let k : decode_of c ≡ Reserved c = reserved_decoded c (ap (λ (d : ℕ). form_of (opcode_of d)) (sym w.1) ∙ w.0) in
      (rw (cell_words x h r, tv.0, f.1, w.1) (sym (line_spelled c k ∙ cell_spelled c)), omega arith)

  rest_true : (f : Form) → form_of x ≡ f → rest_of f x t ≡ made c → (word_of x ++ t ≡ line_of c) × (c < 2 ^ 32)
  rest_true form.Registers r e = registers_true e
  rest_true form.Immediate r e = immediate_true e
  rest_true form.Reserved r e = cell_true r e

-- the text that was read is the cell's line
pub read_true : (s : List ℕ) {c : ℕ} → read_of s ≡ made c → (s ≡ line_of c) × (c < 2 ^ 32)
unfolding read_of
read_true s {c} e =
    let w = opened (word_from 123 0 s) _ e in
    let t = word_true 123 0 s (omega arith) w.is in
    let r = rest_true w.value w.rest t.1 (form_of w.value) refl w.then in
    (t.0 ∙ r.0, r.1)

-- an answer that is as `read_of` has it is as promised
pub stated : (s : List ℕ) (r : Result ℕ NoLine) → read_reply r ≡ read_of s → Reads s (read_reply r)
stated s (Ok d) e =
    let t : (s ≡ line_of d) × (d < 2 ^ 32) = read_true s (sym e) in
    record {
      cell = λ c h. (λ q. (read_true s (sym e ∙ q)).0, λ q. e ∙ ap read_of q ∙ read_back c h);
      refused = (λ q. not_made (sym q), λ q. absurd (q d t.1 t.0));
    }
stated s (Err n) e =
    record {
      cell = λ c h. (λ q. not_made q, λ q. not_made (e ∙ ap read_of q ∙ read_back c h));
      refused = (λ q c h p. not_made (e ∙ ap read_of p ∙ read_back c h), λ q. refl);
    }

-- and so is what the parts answer
pub reads_none : (s : List ℕ) → missing ≡ word_from 123 0 s → Reads s refused
unfolding read_of
reads_none s w = stated s (Err (record {})) (rw (← w))

pub reads_rest : (s : List ℕ) {x : ℕ} {t : List ℕ} {f : Form} (r : Result ℕ NoLine) → taken x t ≡ word_from 123 0 s → f ≡ form_of x → read_reply r ≡ rest_of f x t → Reads s (read_reply r)
unfolding read_of
reads_rest s r w f e = stated s r (rw (← w, ← f) e)
