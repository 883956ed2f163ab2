-- returns: what the uses before the bound are, and the others.
use Rattle.std.proofs.Common.{rules}
use Rattle.symbol_table.proofs.PlaceOrder.{split_point, before_point, after_point}
use Rattle.toc_rewrite.specs.inside.Uses.{rank}
use Rattle.toc_rewrite.proofs.uses.count_before.Goals as goal

pub returns-clause-before : goal.returns-clause-before
returns-clause-before c =
    before_point rank (rank c.args.bound) c.args.uses.now c.partition_point.result
    (split_point rank (rank c.args.bound) c.args.uses.now c.partition_point.result c.requires
    c.partition_point.ensures.partitioned (λ a r f k. search rules))

pub returns-clause-after : goal.returns-clause-after
returns-clause-after c =
    after_point rank (rank c.args.bound) c.args.uses.now c.partition_point.result
    (split_point rank (rank c.args.bound) c.args.uses.now c.partition_point.result c.requires
    c.partition_point.ensures.partitioned (λ a r f k. search rules))
