use Rattle.pcrel_rewrite.proofs.TakenPairs.{taken_more}
use Rattle.pcrel_rewrite.proofs.recognised.push_taken.Goals as goal

-- one pair more
pub loop-i-preserved : goal.loop-i-preserved
loop-i-preserved c =
    taken_more c.args.resolved.now.files c.args.asked.now c.args.loads.now c.loop-i.i c.args.found.now.items c.loop-i.found.items
    c.push_if_taken.new.found.items c.loop-i.invariant c.in_ok-push_if_taken.ensures
