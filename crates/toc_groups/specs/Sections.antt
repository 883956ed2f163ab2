-- The pieces of data of a link: sections of each sort in order of file and number, and commons in first-seen order of their names.
use Rattle.std.specs.Prelude.{ℕ, Bool, true, false, List, [], ◌∷◌, ◌++◌, map, if◌then◌else◌}
use Rattle.elf64_records.specs.FileHeader.{e_shnum}
use Rattle.elf64_records.specs.Sections.{sh_size}
use Rattle.object_set.specs.declared.sort.Sort.{Sort}
use Rattle.object_set.specs.declared.sort.Sort.TheVariants.{Text, Zeroed, Toc, Writable, ReadOnly, Dropped}
use Rattle.object_set.specs.Files.{file_at}
use Rattle.object_set.specs.Sections.{sort_of, align_of}
use Rattle.object_set.specs.Walks.{Walk, items_in, items_before, all_items}
use Rattle.symbol_table.specs.declared.candidates.CommonSize.{CommonSize}
use Rattle.symbol_table.specs.Candidates.{all_commons}
use Rattle.toc_groups.specs.declared.extents.Extent.{Extent}

-- two sorts are the same
abbrev pub same_sort : Sort → Sort → Bool
same_sort Text Text = true
same_sort Zeroed Zeroed = true
same_sort Toc Toc = true
same_sort Writable Writable = true
same_sort ReadOnly ReadOnly = true
same_sort Dropped Dropped = true
same_sort a b = false

-- the room of section i of a file
abbrev pub section_extent : List ℕ → ℕ → Extent
section_extent b i = record { size = sh_size b i; align = align_of b i }

-- section i of a file, where it is of a sort
abbrev pub extent_at : Sort → ℕ → List ℕ → ℕ → List Extent
extent_at sort file b i = if same_sort (sort_of b i) sort then section_extent b i ∷ [] else []

-- the sections of a sort, in order of file and number
abbrev pub sort_walk : Sort → Walk Extent
sort_walk sort = record { count = e_shnum; items = extent_at sort }

abbrev pub sections_of : List (List ℕ) → Sort → List Extent
sections_of files sort = all_items (sort_walk sort) files

-- those before section i of a file
abbrev pub sections_before : List (List ℕ) → Sort → ℕ → ℕ → List Extent
sections_before files sort file i =
    items_before (sort_walk sort) files file ++ items_in (sort_walk sort) file (file_at files file) i

-- the room of a common
abbrev pub common_extent : CommonSize → Extent
common_extent common = record { size = common.size; align = common.align }

-- the commons, in first-seen order of their names
abbrev pub commons_of : List (List ℕ) → List Extent
commons_of files = map common_extent (all_commons files)
