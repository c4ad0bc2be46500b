-- `main`: the journal is as long as it is made, by the lemma at its level and type, since nothing here may count to 524288.
use Rattle.std.proofs.Common.{ℕ, sym}
use Rattle.std.proofs.lemmas.List.{length-replicate}
use Rattle.bench.proofs.main.Goals as goal

pub slice_bounds-measure-end-3 : goal.slice_bounds-measure-end-3
slice_bounds-measure-end-3 c = sym (length-replicate {0} {A = ℕ} 524288 0)
