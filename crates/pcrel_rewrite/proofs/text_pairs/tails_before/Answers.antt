-- returns: what the pairs before the place are, and the others.
use Rattle.std.proofs.Common.{rules}
use Rattle.symbol_table.proofs.PlaceOrder.{split_point, before_point, after_point}
use Rattle.pcrel_rewrite.specs.inside.Order.{rank, tail_rank}
use Rattle.pcrel_rewrite.proofs.text_pairs.tails_before.Goals as goal

pub returns : goal.returns
returns c =
    let next = c.partition_point.result in
    let split = split_point tail_rank (rank c.args.place) c.args.tails.now next c.requires c.partition_point.ensures.partitioned
    (λ a r f k. search rules) in
    record {
      before = before_point tail_rank (rank c.args.place) c.args.tails.now next split;
      after = after_point tail_rank (rank c.args.place) c.args.tails.now next split;
    }
