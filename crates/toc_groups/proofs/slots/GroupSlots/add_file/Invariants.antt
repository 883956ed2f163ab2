use Rattle.std.proofs.Common.{[]}
use Rattle.object_set.specs.Files.{file_at}
use Rattle.object_set.specs.Walks.{items_in}
use Rattle.toc_groups.specs.Slots.{named_walk}
use Rattle.toc_groups.specs.inside.Numbered.{Adds}
use Rattle.toc_groups.proofs.slots.GroupSlots.add_file.Given as goal

-- the symbols of the first sections are taken in
abbrev pub invariant-loop-table : goal.invariant-loop-table
invariant-loop-table l =
    Adds (items_in named_walk l.file (file_at l.fn.self.files l.file) l.table) l.file l.fn.self l.self [] l.items.items
