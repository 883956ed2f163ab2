-- The section of a symbol that is fit by itself is one of the file.
use Rattle.std.proofs.Common.{arith}
use Rattle.object_set.specs.laws.Fit.{index_in_range}
use Rattle.object_set.proofs.symbols.check_value.Goals as goal

pub sort_of-requires : goal.sort_of-requires
sort_of-requires c = grind (arith, index_in_range c.args.file c.args.view.now c.args.j c.requires.fit)
