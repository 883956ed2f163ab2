-- overflow_add-count: no more keys are in the set than were counted.
use Rattle.std.proofs.Common.{arith}
use Rattle.layout_rounds.specs.FarSets.{member}
use Rattle.layout_rounds.proofs.Counting.{count_most}
use Rattle.layout_rounds.proofs.far_set.FarSet.count.Goals as goal

pub overflow_add-count : goal.overflow_add-count
overflow_add-count c = omega (
  arith,
  c.loop-k.invariant,
  count_most (member c.args.self.now) c.loop-k.k,
  c.loop-k-test.true,
  c.len-k-end.ensures,
  c.self.inside.flags.ok.1,
  c.self.inside.flags.small,
)
