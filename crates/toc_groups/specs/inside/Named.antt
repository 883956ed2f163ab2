-- The symbols of slots.
use Rattle.std.specs.Prelude.{List}
use Rattle.object_set.specs.declared.places.SymbolId.{SymbolId}
use Rattle.toc_groups.specs.declared.groups.TocGroup.{TocGroup}

-- the symbols for which the slots of a group were made
abbrev pub slots_in : TocGroup → List SymbolId
slots_in group = group.slots.items
