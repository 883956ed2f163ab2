-- The files of a link, which contracts see as the list of their bytes.
use Rattle.std.specs.Prelude.{ℕ, List, [], map}
use Rattle.std.specs.List.{slice_index_or}
use Rattle.object_set.specs.declared.files.FileBytes.{FileBytes}

-- the bytes of each file
abbrev pub contents_of : List FileBytes → List (List ℕ)
contents_of files = map (λ f. f.bytes.items) files

-- the bytes of a file, by its number; beyond the last file there are none
abbrev pub file_at : List (List ℕ) → ℕ → List ℕ
file_at set file = slice_index_or set file []
