-- What a cell asks for is a row of the table of opcodes: a law that holds of every row holds of every cell.
-- Assumes nothing.
use Prim.Native.Nat.{ℕ}
use mathlib.Core.Path.{◌≡◌}
use mathlib.Core.Bool.{true}
use lib.Dec.{eqb}
use mathlib.Core.List.{List, [], ◌∷◌}
use Rattle.word.specs.declared.Op.{Op}
use Rattle.word.specs.Operation.{Asked, Given, Turned, Other}
use Rattle.word.specs.Word.{asked_of}
use Rattle.half.specs.declared.Extension.{Extension}
use Rattle.float.specs.declared.FloatOp.{FloatOp}
use Rattle.cell.specs.declared.Form.{Form}
use Rattle.cell.specs.declared.Form.TheVariants as form
use Rattle.cell.specs.Cell.{opcode_of, n_of, m_of, l_of, imm_of, form_of, read_in, decode_of}
use Rattle.machine.proofs.Tests.{picked}
use Rattle.effect.specs.Action.{Value, Action, Cpswp, Ldst, Put, Operate, Split, Bz, Int, Calculate, Float, Illegal, among, operation, floats, calculations, calculation, action_of}

-- a law of every row of a table, and of what is left, is one of what is found in it
abbrev All : (Action → Type 0) → List (ℕ × Action) → Type 0
All P [] = Unit
All P (row ∷ rows) = P row.1 × All P rows

in_table : (P : Action → Type 0) (opcode : ℕ) (rows : List (ℕ × Action)) (other : Action) → All P rows → P other → P (among opcode rows other)
in_table P opcode [] other all left = left
in_table P opcode (row ∷ rows) other all left = picked P (eqb opcode row.0) _ _ (λ t. all.0) (λ t. in_table P opcode rows other all.1 left)

-- a law of every operation on two floats, in either order, and of what is out, is one of every float opcode
pub calculated : (P : Action → Type 0) (opcode n : ℕ) (v w : Value) → ((op : FloatOp) → P (Calculate op n v w)) → ((op : FloatOp) → P (Calculate op n w v)) → P Float → P (calculation opcode n v w)
calculated P opcode n v w given turned out =
    in_table P opcode (calculations n v w) Float
    (given _, (given _, (given _, (given _, (given _, (given _, (given _, (given _, (given _, (given _, (given _, (given _, (turned _, tt))))))))))))) out

module _ (P : Action → Type 0) (c : ℕ) where
  abbrev x : ℕ
  x = opcode_of c

  -- what holds of the rows
  pub record Rows : Type 0 where
    pub cpswp : P (Cpswp (n_of c) (m_of c) (l_of c))
    pub ldst : eqb x 1 ≡ true → P (Ldst (n_of c) (m_of c) (l_of c))
    pub put : (n : ℕ) (v : Value) → P (Put n v)
    pub operate : (op : Op) (n : ℕ) (v w : Value) → P (Operate op n v w)
    pub split : (e : Extension) → P (Split e (n_of c) (m_of c) (l_of c))
    pub bz : P (Bz (n_of c) (imm_of c))
    pub int : eqb x 122 ≡ true → P (Int (n_of c) (imm_of c))
    pub calculate : (op : FloatOp) (n : ℕ) (v w : Value) → P (Calculate op n v w)
    pub float : P Float
    pub illegal : P Illegal

  module _ (r : Rows) where
    operated : (a : Asked) (n : ℕ) (v w : Value) → P (operation a n v w)
    operated (Given op) n v w = r.operate op n v w
    operated (Turned op) n v w = r.operate op n w v
    operated Other n v w = r.illegal

    floated : (n : ℕ) (v w : Value) → P (calculation x n v w)
    floated n v w = calculated P x n v w (λ op. r.calculate op n v w) (λ op. r.calculate op n w v) r.float

    read : (f : Form) → P (action_of (read_in f c))
    unfolding action_of
    read form.Registers =
        picked P (eqb x 0) _ _ (λ t. r.cpswp) (λ t.
        picked P (eqb x 1) _ _ r.ldst (λ t.
        picked P (eqb x 54) _ _ (λ t. r.split _) (λ t.
        picked P (eqb x 107) _ _ (λ t. r.split _) (λ t.
        picked P (floats x) _ _ (λ t. floated _ _ _) (λ t. operated (asked_of x) _ _ _)))))
    read form.Immediate =
        picked P (eqb x 3) _ _ (λ t. r.put _ _) (λ t.
        picked P (eqb x 4) _ _ (λ t. r.put _ _) (λ t.
        picked P (eqb x 5) _ _ (λ t. r.put _ _) (λ t.
        picked P (eqb x 6) _ _ (λ t. r.put _ _) (λ t.
        picked P (eqb x 7) _ _ (λ t. r.put _ _) (λ t.
        picked P (eqb x 121) _ _ (λ t. r.bz) (λ t.
        picked P (eqb x 122) _ _ r.int (λ t.
        picked P (floats x) _ _ (λ t. floated _ _ _) (λ t. operated (asked_of x) _ _ _))))))))
    read form.Reserved = r.illegal

    pub by_rows : P (action_of (decode_of c))
    unfolding decode_of
    by_rows = read (form_of (opcode_of c))
