-- What a step keeps: 256 registers below 2^32, settings in range, the number of cells and of journal words, depth at most J. A step that
-- is done has passed every test before it, writes eight words and raises depth by one; one that is refused changes nothing.
-- Assumes nothing.
use Prim.Native.Nat.{ℕ, ◌*◌, ◌^◌, ◌≤◌, ◌<◌}
use mathlib.Core.Path.{◌≡◌, refl, ◌∙◌}
use mathlib.Core.Bool.{Bool, true, false, cond}
use mathlib.Core.List.{List}
use mathlib.Core.Option.{Option, none, some, or_else}
use native.Mathlib.Omega.{arith}
use lib.Dec.{leb}
use lib.ListN.{length}
use lib.Seq.{sets, length-sets}
use borrow.Author.Tests.{leb-false, lt-leb}
use Rattle.machine.specs.declared.Settings.{Settings}
use Rattle.machine.specs.State.{State, capacity_of, write_if, entries_in, first_special, pc_of, InRange}
use Rattle.journal.specs.Words.{eight_of}
use Rattle.journal.specs.Journal.{writes_in, settled_of, settings_after, cells_after, regs_after, entry_of, ended_of, apply_of}
use Rattle.machine.specs.declared.Kind.{Kind}
use Rattle.machine.specs.declared.Kind.TheVariants.{Plain, Profile}
use Rattle.step.specs.Step.{action_in, code_of, outside, guard_of, refusal_of, effect_in, moved, step_of}
use Rattle.effect.specs.Refusal.{refused_by}
use Rattle.machine.specs.Lawful.{Ready, Lawful, Words}
use Rattle.machine.proofs.Flags.{flags_or}
use Rattle.machine.proofs.Words.{set_words}
use Rattle.cell.proofs.Fields.{decoded_in_range}
use Rattle.effect.specs.Parts.{Write}
use Rattle.effect.proofs.Safe.{Safe, safe}
use Rattle.effect.proofs.Ranges.{Ranged, ranged}
use Rattle.journal.proofs.Undo.{Formed, length-regs, lengths}

-- no test of a row stopped
not_some : {k : ℕ} → some k ≡ none → ⊥
not_some h = let z : ◌≡◌ {A = ℕ} 0 1 = cc in omega arith

pub past : (t : Bool) (k : ℕ) (o : Option ℕ) → cond t (some k) o ≡ none → (t ≡ false) × (o ≡ none)
past true k o h = absurd (not_some h)
past false k o h = (refl, h)

-- nothing was named by either
pub neither : (o p : Option ℕ) → or_else o p ≡ none → (o ≡ none) × (p ≡ none)
unfolding or_else
neither none p h = (refl, h)
neither (some k) p h = absurd (not_some h)

-- what a state shows whose step is not refused
pub record Clear (s : State) : Type 0 where
  pub on : pc_of s.regs < first_special
  pub within : pc_of s.regs < length s.cells
  pub space : s.depth < capacity_of s.journal
  pub allowed : refused_by (action_in s) s ≡ none

-- the code lies within the cells
pub code_within : (kind : Kind) (m : ℕ) → code_of kind m ≤ m
code_within Plain m = omega arith
code_within (Profile l) m = omega arith

-- what a profile run shows besides: PC is in the code, and nothing is stored there
pub record ClearIn (kind : Kind) (s : State) : Type 0 where
  pub clear : Clear s
  pub inside : pc_of s.regs < code_of kind (length s.cells)
  pub guarded : guard_of kind (action_in s) s ≡ none

pub clear_in : (kind : Kind) (s : State) → refusal_of kind s ≡ none → ClearIn kind s
unfolding refusal_of
clear_in kind s h =
    let a = past (leb first_special (pc_of s.regs)) 1 _ h in
    let b = past (leb (code_of kind (length s.cells)) (pc_of s.regs)) (outside kind) _ a.1 in
    let c = past (leb (capacity_of s.journal) s.depth) 7 _ b.1 in
    let d = neither _ _ c.1 in
    let inside : pc_of s.regs < code_of kind (length s.cells) = leb-false _ _ b.0 in
    record {
      clear = record {
        on = leb-false _ _ a.0;
        within = omega (arith, inside, code_within kind (length s.cells));
        space = leb-false _ _ c.0;
        allowed = d.0;
      };
      inside = inside;
      guarded = d.1;
    }

pub clear : (kind : Kind) (s : State) → refusal_of kind s ≡ none → Clear s
clear kind s h = (clear_in kind s h).clear

-- a step that is clear is done by a plain run: what a profile does is what a plain run does
pub plain_too : (s : State) → Clear s → refusal_of Plain s ≡ none
unfolding refusal_of or_else
plain_too s c = rw (lt-leb _ _ c.on, lt-leb _ _ c.within, lt-leb _ _ c.space, c.allowed)

-- the effect of a step that is not refused is safe to carry out
pub safe_in : (s : State) → Clear s → Safe (length s.cells) s.settings (effect_in s)
unfolding effect_in
safe_in s c = safe s (action_in s) c.allowed

settled_in_lem : (t : Bool) (s : Settings) → InRange s → InRange (settled_of t s)
settled_in_lem true s r = record { flags = flags_or s.flags 256 r.flags (omega arith); mask = r.mask; mode = r.mode }
settled_in_lem false s r = r

capacity_sets : (journal words : List ℕ) (i : ℕ) → capacity_of (sets journal i words) ≡ capacity_of journal
unfolding capacity_of entries_in
capacity_sets journal words i = rw (length-sets journal i words)

-- settings stay in range, and depth at most J
ready_after : (s : State) → Ready s.settings s.depth s.journal → Clear s
    → Ready (apply_of (effect_in s) s).settings (apply_of (effect_in s) s).depth (apply_of (effect_in s) s).journal
unfolding settings_after
ready_after s r c = record {
  settled = settled_in_lem (ended_of (regs_after (effect_in s) s.regs)) (effect_in s).settings ((safe_in s c).settings r.settled);
  room = rw (capacity_sets s.journal (eight_of (entry_of (effect_in s) s.regs s.settings s.cells)) (8 * s.depth)) (omega (arith, c.space));
}

-- writes of 32-bit words keep a list of them one
write_if-words : (u : Bool) (l : List ℕ) (i v : ℕ) → Words l → v < 2 ^ 32 → Words (write_if u l i v)
write_if-words true l i v w h = set_words l i v w h
write_if-words false l i v w h = w

writes_words : (f : Bool) (a b : Write) (l : List ℕ) → Words l → a.value < 2 ^ 32 → b.value < 2 ^ 32 → Words (writes_in f a b l)
writes_words true a b l w p q = write_if-words a.used _ a.number a.value (write_if-words b.used l b.number b.value w q) p
writes_words false a b l w p q = write_if-words b.used _ b.number b.value (write_if-words a.used l a.number a.value w p) q

module _ (s : State) (l : Lawful s) where
  ranged_in : Ranged (effect_in s)
  unfolding effect_in
  ranged_in =
      ranged s l.words l.cells l.given l.ready.settled _ (decoded_in_range _ (l.cells (pc_of s.regs)))

  -- the effect of a step that is done is one that going back undoes
  pub formed_in : Clear s → Formed (effect_in s) s
  formed_in c = record {
    a = ranged_in.a.0;
    b = ranged_in.b.0;
    store = (safe_in s c).store;
    fetched = c.within;
  }

  pub lawful_after : Clear s → Lawful (apply_of (effect_in s) s)
  unfolding regs_after cells_after
  lawful_after c = record {
    registers = length-regs (effect_in s) s.regs ∙ l.registers;
    words = writes_words (effect_in s).reversed (effect_in s).a (effect_in s).b _ (set_words s.regs 255 (effect_in s).pc l.words ranged_in.pc) ranged_in.a.1 ranged_in.b.1;
    cells = write_if-words (effect_in s).store.used s.cells (effect_in s).store.address (effect_in s).store.value l.cells ranged_in.store;
    five = l.five;
    given = l.given;
    ready = ready_after s l.ready c;
  }

  lawful_moved : (kind : Kind) (o : Option ℕ) → refusal_of kind s ≡ o → Lawful (moved o s).state
  lawful_moved kind (some k) e = l
  lawful_moved kind none e = lawful_after (clear kind s e)

  pub lawful_kept : (kind : Kind) → Lawful (step_of kind s).state
  unfolding step_of
  lawful_kept kind = lawful_moved kind (refusal_of kind s) refl

-- the number of cells and of journal words, whatever the state
lengths_moved : (s : State) (o : Option ℕ) → (length (moved o s).state.cells ≡ length s.cells) × (length (moved o s).state.journal ≡ length s.journal)
lengths_moved s (some k) = (refl, refl)
lengths_moved s none = ((lengths (effect_in s) s).1, (lengths (effect_in s) s).2)

pub lengths_kept : (kind : Kind) (s : State) → (length (step_of kind s).state.cells ≡ length s.cells) × (length (step_of kind s).state.journal ≡ length s.journal)
unfolding step_of
lengths_kept kind s = lengths_moved s (refusal_of kind s)
