-- What relocation records say: the word that a record stands on, where it goes, and whether it is of a prologue.
use Rattle.std.specs.Prelude.{ℕ, Bool, not, List, ◌&&◌, ◌==◌, Option, None, Some, if◌then◌else◌}
use Rattle.elf64_records.specs.Records.{RecordFacts, rela_of}
use Rattle.object_set.specs.declared.places.RecordId.{RecordId}
use Rattle.object_set.specs.Files.{file_at}
use Rattle.object_set.specs.Symbols.{is_toc_base}
use Rattle.object_set.specs.Walks.{all_items, record_walk}
use Rattle.reloc_fields.specs.declared.kind.Kind.{Kind}
use Rattle.reloc_fields.specs.Table.{line_of}
use Rattle.symbol_table.specs.declared.target.Target.{Target}
use Rattle.symbol_table.specs.Fields.{kind_numbered}
use Rattle.symbol_table.specs.Prologue.{word_in}
use Rattle.symbol_table.specs.Records.{looks_at_symbol, is_in_prologue}
use Rattle.symbol_table.specs.Targets.{target_of}
use Rattle.toc_rewrite.specs.Laid.{LaidFiles, number_of}

-- what a record says
abbrev pub facts_of : List (List ℕ) → RecordId → RecordFacts
facts_of files r = rela_of (file_at files r.file) r.table r.entry

-- the kind of its relocation
abbrev pub kind_of : List (List ℕ) → RecordId → Option Kind
kind_of files r = kind_numbered (facts_of files r).kind

-- the word on which it stands
abbrev pub word_at : List (List ℕ) → RecordId → ℕ
word_at files r = word_in (file_at files r.file) r.section (facts_of files r).offset

-- a relocation of this kind goes somewhere: it fills bytes, and not with the TOC base itself
abbrev pub goes : Kind → Bool
goes kind = not ((line_of kind).width == 0) && looks_at_symbol kind

-- where it goes
abbrev pub target_by : List (List ℕ) → RecordId → Option Kind → Option Target
target_by files r None = None
target_by files r (Some kind) =
    let facts = facts_of files r in
    if goes kind then target_of files r.file facts.symbol facts.addend else None

abbrev pub record_target : List (List ℕ) → RecordId → Option Target
record_target files r = target_by files r (kind_of files r)

-- the number to which a target goes, if it isn't a place in text
abbrev pub number_in : LaidFiles → Option Target → Option ℕ
number_in laid None = None
number_in laid (Some target) = number_of laid target

abbrev pub record_number : LaidFiles → RecordId → Option ℕ
record_number laid r = number_in laid (record_target laid.files r)

-- it is one of the two of a recognised prologue, which make the TOC base itself
abbrev pub is_of_prologue : List (List ℕ) → RecordId → Bool
is_of_prologue files r =
    let b = file_at files r.file in
    let facts = facts_of files r in
    is_toc_base b facts.symbol && is_in_prologue r.file b r.section facts.offset

-- all relocation records of kept sections, in record order
abbrev pub all_records : List (List ℕ) → List RecordId
all_records files = all_items record_walk files
