-- loop-c-preserved: one common more.
use Rattle.std.proofs.Common.{arith}
use Rattle.symbol_table.specs.Candidates.{all_commons}
use Rattle.toc_groups.proofs.Commons.{commons_more}
use Rattle.toc_groups.proofs.pieces.common_rooms.Goals as goal

pub loop-c-preserved : goal.loop-c-preserved
loop-c-preserved c =
    commons_more (all_commons c.args.res.now.files) c.loop-c.c c.common-size.result.0 c.common-size.result.1 c.loop-c.rooms.items
    c.push.new.self.items (omega (arith, c.loop-c-test.true, c.common_count-c-end.ensures)) c.common-size.ensures c.loop-c.invariant
    c.in_ok-push.ensures.items
