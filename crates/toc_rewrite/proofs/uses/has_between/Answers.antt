-- returns: uses stand between the bounds where more come before the second one.
use Rattle.toc_rewrite.specs.inside.Uses.{rank}
use Rattle.toc_rewrite.proofs.Windows.{between}
use Rattle.toc_rewrite.proofs.uses.has_between.Goals as goal

pub returns : goal.returns
returns c =
    let a = c.count_before.ensures in
    let b = c.count_before-2.ensures in
    between rank c.args.uses.now (rank c.args.first) (rank c.args.end) c.count_before.result c.count_before-2.result c.args.first
    (record { within = a.within; before = a.before; after = a.after }) (record { within = b.within; before = b.before; after = b.after })
    c.requires.bounds
