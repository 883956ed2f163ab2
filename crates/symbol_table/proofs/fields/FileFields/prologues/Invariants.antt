use Rattle.std.proofs.Common.{◌≡◌, filter, take}
use Rattle.object_set.specs.Files.{file_at}
use Rattle.symbol_table.specs.inside.Entries.{has_prologue}
use Rattle.symbol_table.proofs.fields.FileFields.prologues.Given as goal

-- those of the first places are here
abbrev pub invariant-loop-place : goal.invariant-loop-place
invariant-loop-place l =
    l.places.items ≡ filter (has_prologue l.self.file (file_at l.self.files l.self.file)) (take l.place-index l.entries)
