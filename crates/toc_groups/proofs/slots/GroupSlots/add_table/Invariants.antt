use Rattle.object_set.specs.Files.{file_at}
use Rattle.toc_groups.specs.Slots.{named_by}
use Rattle.toc_groups.specs.inside.Numbered.{Adds}
use Rattle.toc_groups.proofs.slots.GroupSlots.add_table.Given as goal

-- the symbols of the first records are taken in
abbrev pub invariant-loop-entry : goal.invariant-loop-entry
invariant-loop-entry l =
    Adds (named_by l.file (file_at l.fn.self.files l.file) l.table l.entry) l.file l.fn.self l.self l.fn.row.items l.row.items
