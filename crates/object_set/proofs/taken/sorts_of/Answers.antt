use Rattle.object_set.proofs.KeptSorts.{sorts_more}
use Rattle.object_set.proofs.taken.sorts_of.Goals as goal

-- the sort of one section more
pub loop-section-preserved : goal.loop-section-preserved
loop-section-preserved c =
    sorts_more c.args.view.now c.loop-section.section c.loop-section.sorts.items c.push.new.self.items c.sort_of.result
    c.loop-section.invariant c.sort_of.ensures c.in_ok-push.ensures.items
