use Rattle.std.proofs.Common.{rules}
use Rattle.symbol_table.specs.inside.Places.{rank}
use Rattle.symbol_table.specs.inside.Fields.{rank_of}
use Rattle.symbol_table.proofs.PlaceOrder.{split_point, before_point, after_point}
use Rattle.symbol_table.proofs.ordered_fields.count_before.Goals as goal

-- what the fields before the place are
pub returns-clause-before : goal.returns-clause-before
returns-clause-before c =
    before_point rank_of (rank c.args.place) c.args.fields.now c.partition_point.result
    (split_point rank_of (rank c.args.place) c.args.fields.now c.partition_point.result c.requires
    c.partition_point.ensures.partitioned (λ a r f k. search rules))

-- and the others
pub returns-clause-after : goal.returns-clause-after
returns-clause-after c =
    after_point rank_of (rank c.args.place) c.args.fields.now c.partition_point.result
    (split_point rank_of (rank c.args.place) c.args.fields.now c.partition_point.result c.requires
    c.partition_point.ensures.partitioned (λ a r f k. search rules))
