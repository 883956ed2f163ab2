use Rattle.std.proofs.Common.{take}
use Rattle.std.specs.List.{filter}
use Rattle.symbol_table.specs.Fields.{meets}
use Rattle.symbol_table.specs.inside.Fields.{AreHeld}
use Rattle.symbol_table.proofs.ordered_fields.only_two.Given as goal

-- of the fields so far, those that have bytes of the range are held
abbrev pub invariant-loop-field : goal.invariant-loop-field
invariant-loop-field l = AreHeld (filter (meets l.section l.from l.count) (take l.field-index l.fields)) l.second l.first
