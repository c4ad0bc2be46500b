-- `saver::writing::put` meets its contract: what is put is the first bytes of the number's four.
use mathlib.Core.Path.{◌≡◌, ap, ◌∙◌}
use mathlib.Core.List.{List}
use Prim.Native.Nat.{ℕ}
use lib.ListN.{take}
use lib.Seq.{sets}
use Rattle.lent.specs.Little.{bytes_of}
use Rattle.lent.proofs.Numbers.{length-bytes, first_bytes}
use Rattle.saver.proofs.writing.put.Goals as goal

pub returns : goal.returns
returns c = let s = c in
    let a = s.args in
    let e : take a.width c.bytes-all.result ≡ bytes_of a.width a.number =
    rw c.bytes-all.ensures (first_bytes a.width 4 a.number s.requires.short)
    in
    record {
      end = rw length-bytes;
      text = c.put.ensures.text ∙ ap (λ (p : List ℕ). sets a.room.now a.at p) e;
    }
