-- Document 01, 'Small cases, proved together', as entries of one table; 8 and 10 as document 02 has them.
use Rattle.std.specs.Prelude.{ℕ, Bool, true, false, ◌&&◌, List, [], ◌∷◌, eqb, get_or, set, replicate}
use Prim.Native.String.{String}
use Rattle.text.specs.Text.{bytes}
use Rattle.line.specs.Line.{line_of}
use Rattle.machine.specs.State.{State, fresh_host}
use Rattle.machine.specs.declared.Kind.TheVariants.{Plain}
use Rattle.call.specs.Calls.{Out, run_of}

-- What a step is given: R1, R2 and the flags; and what it leaves: R1, R2, R3, PC, the flags and the stop's number.
pub record Before : Type 0 where
  pub r1 : ℕ
  pub r2 : ℕ
  pub flags : ℕ

pub record After : Type 0 where
  pub r1 : ℕ
  pub r2 : ℕ
  pub r3 : ℕ
  pub pc : ℕ
  pub flags : ℕ
  pub stop : ℕ

-- A case: the instruction as a line and as a cell, what it is given and what it leaves.
pub data Case : Type 0 where
  case : String → ℕ → Before → After → Case

abbrev pub given : ℕ → ℕ → ℕ → Before
given r1 r2 flags = record { r1 = r1; r2 = r2; flags = flags }

abbrev pub leaves : ℕ → ℕ → ℕ → ℕ → ℕ → ℕ → After
leaves r1 r2 r3 pc flags stop = record { r1 = r1; r2 = r2; r3 = r3; pc = pc; flags = flags; stop = stop }

unfoldable pub cases : List Case
cases =
    -- 1. ADD FFFFFFFF, 1: 0, flags 5.
    case "ADD R3, R1, R2\n" 0x10030102 (given 0xFFFFFFFF 1 0) (leaves 0xFFFFFFFF 1 0 1 5 0) ∷
    -- 2. ADC FFFFFFFF, FFFFFFFF, carry 1: FFFFFFFF, flags 5.
    case "ADC R3, R1, R2\n" 0x11030102 (given 0xFFFFFFFF 0xFFFFFFFF 1) (leaves 0xFFFFFFFF 0xFFFFFFFF 0xFFFFFFFF 1 5 0) ∷
    -- 3. SUB 0, 1: FFFFFFFF, flags 6. SUB 5, 5: 0, flags 0.
    case "SUB R3, R1, R2\n" 0x12030102 (given 0 1 0) (leaves 0 1 0xFFFFFFFF 1 6 0) ∷
    case "SUB R3, R1, R2\n" 0x12030102 (given 5 5 0) (leaves 5 5 0 1 0 0) ∷
    -- 4. SDIV FFFFFFF9, 2: FFFFFFFD.
    case "SDIV R3, R1, R2\n" 0x16030102 (given 0xFFFFFFF9 2 0) (leaves 0xFFFFFFF9 2 0xFFFFFFFD 1 0 0) ∷
    -- 5. LSHI #65535: 0, flags 4.
    case "LSHI R1, #65535\n" 0x2E01FFFF (given 1 0 0) (leaves 0 0 0 1 4 0) ∷
    -- 6. SRSH 80000000 by 31: FFFFFFFF, flags 0; by 32: FFFFFFFF, flags 8.
    case "SRSH R3, R1, R2\n" 0x1F030102 (given 0x80000000 31 0) (leaves 0x80000000 31 0xFFFFFFFF 1 0 0) ∷
    case "SRSH R3, R1, R2\n" 0x1F030102 (given 0x80000000 32 0) (leaves 0x80000000 32 0xFFFFFFFF 1 8 0) ∷
    -- 7. SPLIT 8000FFFF: FFFFFFFF and FFFF8000.
    case "SPLIT R1, R2, R3\n" 0x36010203 (given 0x8000FFFF 0 0) (leaves 0x8000FFFF 0xFFFFFFFF 0xFFFF8000 1 0 0) ∷
    -- 8. ex(B5B9) = BEB72000 (2026-01).
    case "LDLIF R1, #46521\n" 0x0701B5B9 (given 0 0 0) (leaves 0xBEB72000 0 0 1 0 0) ∷
    -- 9. FFFFFF00: UGTI #17 gives 1, SGTI #17 gives 0.
    case "UGTI R1, #17\n" 0x31010011 (given 0xFFFFFF00 0 0) (leaves 1 0 0 1 0 0) ∷
    case "SGTI R1, #17\n" 0x32010011 (given 0xFFFFFF00 0 0) (leaves 0 0 0 1 0 0) ∷
    -- 10. At PC 0, taken BZ #65534: refused with 13, nothing done (2026-04).
    case "BZ R1, #65534\n" 0x7901FFFE (given 0 0 0) (leaves 0 0 0 0 0 13) ∷
    -- 11. Taken BZ #65535: PC as before.
    case "BZ R1, #65535\n" 0x7901FFFF (given 0 0 0) (leaves 0 0 0 0 0 0) ∷
    -- 12. Cell 02000000: flag 128.
    case "CELL 33554432\n" 0x02000000 (given 0 0 0) (leaves 0 0 0 1 128 0) ∷
    []

-- a fresh machine but for R1, R2 and the flags, with the cell at PC 0
abbrev pub stage : ℕ → Before → State
stage c b = record {
  regs = set (set (replicate 256 0) 1 b.r1) 2 b.r2;
  settings = record { flags = b.flags; mask = 0; mode = 3 };
  depth = 0;
  host = fresh_host;
  cells = c ∷ [];
  journal = replicate 8 0;
}

abbrev pub same : List ℕ → List ℕ → Bool
same [] [] = true
same (x ∷ xs) (y ∷ ys) = eqb x y && same xs ys
same [] (y ∷ ys) = false
same (x ∷ xs) [] = false

abbrev pub left : Out → After → Bool
left o a =
    eqb (get_or o.state.regs 1 0) a.r1
    && eqb (get_or o.state.regs 2 0) a.r2
    && eqb (get_or o.state.regs 3 0) a.r3
    && eqb (get_or o.state.regs 255 0) a.pc
    && eqb o.state.settings.flags a.flags
    && eqb o.said.number a.stop

-- the cell prints as the line, and one step leaves what the case says
unfoldable pub holds : Case → Bool
holds (case line c b a) = same (line_of c) (bytes line) && left (run_of Plain 1 (stage c b)) a

unfoldable pub all : (Case → Bool) → List Case → Bool
all f [] = true
all f (c ∷ cs) = f c && all f cs
