use Rattle.std.proofs.Common.{◌≡◌}
use Rattle.symbol_table.specs.Candidates.{commons_before}
use Rattle.symbol_table.specs.inside.Commons.{AreCommonNumbers}
use Rattle.symbol_table.proofs.commons.commons_of.Given as goal

-- the commons of the first names
abbrev pub invariant-loop-i : goal.invariant-loop-i
invariant-loop-i l = record {
  sizes : l.sizes.items ≡ commons_before l.candidates l.i;
  numbers : AreCommonNumbers l.candidates l.i l.numbers.items;
}
