-- What segments in memory stand for: the regions are in order, as the segments are, and have their bytes and pages.
use Rattle.std.proofs.Common.{ℕ, ap}
use Rattle.power_machine.specs.Numbers.{NumberState}
use Rattle.power_machine.proofs.Regions.{ranges_start, state_start, regions_in_order, pages_start}
use Rattle.power_machine.proofs.memory.AddressSpace.of.Goals as goal

pub invariant_of-result : goal.invariant_of-result
invariant_of-result c = record { in_order = regions_in_order c.args.segments.items _ c.requires c.in_ok-regions.ensures }

pub returns-clause-ranges : goal.returns-clause-ranges
returns-clause-ranges c = ranges_start c.args.segments.items _ c.in_ok-regions.ensures

pub returns-clause-bytes : goal.returns-clause-bytes
returns-clause-bytes c = ap (λ (s : NumberState). s.byte) (state_start 0 c.args.segments.items _ c.in_ok-regions.ensures)

pub returns-clause-pages : goal.returns-clause-pages
returns-clause-pages c = pages_start c.args.segments.items _ c.requires c.in_ok-regions.ensures
