-- returns: what the slots before the place are, and the others.
use Rattle.std.proofs.Common.{rules}
use Rattle.symbol_table.proofs.PlaceOrder.{split_point, before_point, after_point}
use Rattle.toc_rewrite.specs.inside.Slots.{place_rank, slot_rank}
use Rattle.toc_rewrite.proofs.folds.slots_before.Goals as goal

pub returns : goal.returns
returns c =
    let next = c.partition_point.result in
    let split = split_point slot_rank (place_rank c.args.place) c.args.slots.now next c.requires c.partition_point.ensures.partitioned
    (λ a r f k. search rules) in
    record {
      before = before_point slot_rank (place_rank c.args.place) c.args.slots.now next split;
      after = after_point slot_rank (place_rank c.args.place) c.args.slots.now next split;
    }
