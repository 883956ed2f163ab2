-- overflow_add-result: there are few groups.
use Rattle.std.proofs.Common.{arith}
use Rattle.layout_rounds.proofs.Bounds.{few_groups}
use Rattle.layout_rounds.proofs.near.way_of.Goals as goal

pub overflow_add-result : goal.overflow_add-result
overflow_add-result c = omega (arith, c.requires.group, few_groups c.args.keyed.now c.requires.text)
