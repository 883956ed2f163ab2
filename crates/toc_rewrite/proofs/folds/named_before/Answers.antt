-- returns: what the slots before the name are, and the others.
use Rattle.std.proofs.Common.{rules}
use Rattle.symbol_table.proofs.PlaceOrder.{split_point, before_point, after_point}
use Rattle.toc_rewrite.specs.inside.Slots.{name_rank}
use Rattle.toc_rewrite.proofs.SlotPlaces.{named_at}
use Rattle.toc_rewrite.proofs.folds.named_before.Goals as goal

pub returns : goal.returns
returns c =
    let next = c.partition_point.result in
    let name = named_at c.args.file c.args.number in
    let split = split_point name_rank name c.args.named.now next c.requires c.partition_point.ensures.partitioned
    (λ a r f k. search rules) in
    record {
      before = before_point name_rank name c.args.named.now next split;
      after = after_point name_rank name c.args.named.now next split;
    }
