-- returns: ranges in order of their starts are parted by a number.
use Rattle.std.proofs.Common.{◌+◌, rules}
use Rattle.std.specs.Prelude.{nat_lt}
use Rattle.std.proofs.lemmas.List.Sorted.{IsPartitionedBy-ltb, IsPartitionPoint-from_clause}
use Rattle.plain_machine.specs.declared.kept.AddressRange.{AddressRange}
use Rattle.plain_machine.specs.inside.Kept.{start_of}
use Rattle.plain_machine.proofs.kept.begun.Goals as goal

pub returns-clause-begun : goal.returns-clause-begun
returns-clause-begun c =
    let end = c.args.at + c.args.count in
    IsPartitionPoint-from_clause (λ (r : AddressRange). nat_lt r.start end) c.args.ranges.now c.partition_point.result
    c.partition_point.ensures.partitioned (IsPartitionedBy-ltb start_of c.args.ranges.now end c.requires) (λ a r f k. search rules)
