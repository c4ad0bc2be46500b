-- `ldst::store_and_load` meets its contract: what each part leaves, put together.
use Rattle.std.proofs.Common.{rules, arith}
use Rattle.ldst.proofs.Parts.{uses_most, carried}
use Rattle.ldst.proofs.store_and_load.Goals as goal

pub overflow_add-entry : goal.overflow_add-entry
overflow_add-entry c = omega (arith, uses_most _ _ _ _ 1 c.load-loaded.ensures.kept, uses_most _ _ _ _ 4 c.store-stored.ensures.kept)

pub returns-clause-left : goal.returns-clause-left
returns-clause-left c =
    let a = c.args in
    let s = a.step.now in
    carried a.n a.v a.x a.y s.settings s.told _ _ _ _ _ _ a.host.now s.regs.now a.cells.now s.part.now _ _ _ (search rules) c.requires.allowed.2
    c.unpack-settings.ensures c.behind_pointer-got.ensures c.store-stored.ensures.kept c.store-stored.ensures.stored
    c.load-loaded.ensures.kept c.load-loaded.ensures.loaded (rw c.entry_at-found.ensures at c.enter.ensures) c.resettled.ensures c.pack-step.ensures
