-- returns-else-piece-eq0: a piece that isn't empty ends behind its place.
use Rattle.toc_groups.proofs.Runs.{placed_is, behind_is}
use Rattle.toc_groups.proofs.extents.behind.Goals as goal

pub returns-else-piece-eq0 : goal.returns-else-piece-eq0
returns-else-piece-eq0 c =
    behind_is c.args.end c.align_up.result c.args.piece c.if-piece-eq0.false
    (placed_is c.args.end c.align_up.result c.args.piece c.requires.fit c.align_up.ensures)
