-- returns-clause-address: the address is the least multiple of the alignment.
use Rattle.toc_groups.proofs.Runs.{placed_is}
use Rattle.toc_groups.proofs.extents.lay.Goals as goal

pub returns-clause-address : goal.returns-clause-address
returns-clause-address c =
    placed_is c.args.end.now c.align_up-address.result c.args.piece c.requires.fit c.align_up-address.ensures
