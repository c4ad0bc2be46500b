-- `forward::run_on` meets its contract: what the run over lent registers is given is the machine's, and what it leaves is put into a machine.
use Rattle.forward.proofs.Loop.{settled_first, from_machine}
use Rattle.forward.proofs.run_on.Goals as goal

pub run_over-upshot-requires : goal.run_over-upshot-requires
run_over-upshot-requires c =
    (settled_first c.args.plan.kind c.args.m c.pack-settings.ensures c.requires.2, c.requires.0, c.requires.1, c.requires.3)

pub returns : goal.returns
returns c =
    from_machine c.args.plan.kind c.args.m c.pack-settings.ensures c.requires.2 _ _ _ _ c.run_over-upshot.ensures
