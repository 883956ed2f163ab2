-- What marks of the words of text tell: while they are made, and in the end.
use Rattle.std.specs.Prelude.{◌≡◌, ◌<◌, ◌≤◌, ◌+◌, ◌*◌, ◌/◌, ◌==◌, ◌⊎◌, ℕ, Bool, true, false, List, [], ◌∷◌, length, map, replicate, Option, Some, None, is_some, slice_get, slice_set, if◌then◌else◌}
use Rattle.std.specs.List.{Contains}
use Rattle.elf64_records.specs.Records.{rela_of}
use Rattle.elf64_records.specs.Sections.{sh_size, section_bytes}
use Rattle.object_set.specs.declared.places.RecordId.{RecordId}
use Rattle.object_set.specs.declared.places.SectionId.{SectionId}
use Rattle.object_set.specs.Files.{file_at}
use Rattle.object_set.specs.Sections.{align_of}
use Rattle.object_set.specs.Walks.{IsRecord}
use Rattle.reloc_fields.specs.declared.kind.Kind.{Kind}
use Rattle.reloc_fields.specs.Table.{line_of}
use Rattle.symbol_table.specs.declared.fields.RecordField.{RecordField}
use Rattle.symbol_table.specs.Fields.{kind_numbered, field_of}
use Rattle.symbol_table.specs.Records.{records_refusal}
use Rattle.symbol_table.specs.Text.{text_sections}
use Rattle.symbol_table.specs.laws.Text.{IsTextSection}
use Rattle.call_sites.specs.declared.site.CallSite.{CallSite}
use Rattle.call_sites.specs.Sites.{linkage_of, is_call, call_fields, call_sites}
use Rattle.pcrel_rewrite.specs.declared.text_pairs.TextPair.{TextPair}
use Rattle.pcrel_rewrite.specs.Pairs.{ArePairs}
use Rattle.pcrel_rewrite.specs.TextPairs.{head_at}
use Rattle.plain_machine.specs.declared.place.TextPlace.{TextPlace}
use Rattle.plain_run.specs.declared.marks.Mark.{Mark}
use Rattle.plain_run.specs.declared.marks.Mark.TheVariants as mark
use Rattle.plain_run.specs.Standing.{section_at, fields_at, field_at}

-- what contracts see of a text section
pub record MarkedSection : Type 0 where
  pub id : SectionId
  pub align : ℕ
  pub bytes : List ℕ
  pub marks : List Mark

-- the same without its marks, but for how many there are
pub record TextShape : Type 0 where
  pub id : SectionId
  pub align : ℕ
  pub bytes : List ℕ
  pub words : ℕ

abbrev pub shape_of : MarkedSection → TextShape
shape_of m = record { id = m.id; align = m.align; bytes = m.bytes; words = length m.marks }

-- another mark of a word
abbrev pub with_mark : MarkedSection → ℕ → Mark → MarkedSection
with_mark m w x = record { id = m.id; align = m.align; bytes = m.bytes; marks = slice_set m.marks w x }

-- a text section of which nothing is known but its words
abbrev pub unmarked_section : List (List ℕ) → SectionId → MarkedSection
unmarked_section files s =
    let bytes = section_bytes (file_at files s.file) s.section in
    record {
      id = s;
      align = align_of (file_at files s.file) s.section;
      bytes = bytes;
      marks = replicate (length bytes / 4) mark.Word;
    }

abbrev pub unmarked_sections : List (List ℕ) → List MarkedSection
unmarked_sections files = map (unmarked_section files) (text_sections files)

-- the text sections of files, whatever their marks
abbrev pub AreTexts : List (List ℕ) → List MarkedSection → Type 0
AreTexts files sections = map shape_of sections ≡ map shape_of (unmarked_sections files)

-- the mark of word w of section k
abbrev pub mark_of : Option MarkedSection → ℕ → Option Mark
mark_of None w = None
mark_of (Some m) w = slice_get m.marks w

abbrev pub mark_in : List MarkedSection → ℕ → ℕ → Option Mark
mark_in sections k w = mark_of (slice_get sections k) w

abbrev pub HasMark : List MarkedSection → ℕ → ℕ → Type 0
HasMark sections k w = (x : Mark) × (mark_in sections k w ≡ Some x)

-- that word has another mark, and all else is as it was
pub record IsMarkedAs (old new : List MarkedSection) (k w : ℕ) (x : Mark) : Type 0 where
  pub shapes : map shape_of new ≡ map shape_of old
  pub here : mark_in new k w ≡ Some x
  pub others : (j v : ℕ) → (j ≡ k → v ≡ w → ⊥) → mark_in new j v ≡ mark_in old j v

-- where the field of a record begins in its section
abbrev pub start_of : List (List ℕ) → RecordId → ℕ
start_of files r = (rela_of (file_at files r.file) r.table r.entry).offset

-- a record fills bytes of text section k
pub record IsTextField (files : List (List ℕ)) (r : RecordId) (kind : Kind) (k : ℕ) : Type 0 where
  pub here : IsRecord files r
  pub kind_is : kind_numbered (rela_of (file_at files r.file) r.table r.entry).kind ≡ Some kind
  pub fills : 0 < (line_of kind).width
  pub section : slice_get (text_sections files) k ≡ Some (record { file = r.file; section = r.section })

-- the field of a record has bytes of word w of text section k
pub record Meets (files : List (List ℕ)) (r : RecordId) (k w : ℕ) : Type 0 where
  pub kind : Kind
  pub field : IsTextField files r kind k
  pub before : start_of files r < 4 * w + 4
  pub behind : 4 * w < start_of files r + (line_of kind).width

-- it begins with that word
pub record Begins (files : List (List ℕ)) (r : RecordId) (k w : ℕ) : Type 0 where
  pub meets : Meets files r k w
  pub start : start_of files r ≡ 4 * w

-- the access of a pair is that word
pub record EndsAt (pair : TextPair) (k w : ℕ) : Type 0 where
  pub section : pair.section ≡ k
  pub tail : pair.tail ≡ 4 * w

-- What each mark tells while marks are made. Some records are left for a word, the first calls and the first accesses are marked.
pub record TellsWord (files : List (List ℕ)) (pairs : List TextPair) (Left : RecordId → ℕ → Type 0) (accesses k w : ℕ) : Type 0 where
  pub left : (r : RecordId) → Meets files r k w → Left r w
  pub no_access : (i : ℕ) (pair : TextPair) → i < accesses → slice_get pairs i ≡ Some pair → EndsAt pair k w → ⊥

pub record TellsTouched (files : List (List ℕ)) (Left : RecordId → ℕ → Type 0) (k w : ℕ) : Type 0 where
  pub toucher : RecordId
  pub meets : Meets files toucher k w
  pub left : (r : RecordId) → Begins files r k w → Left r w

pub record TellsField (files : List (List ℕ)) (calls table entry k w : ℕ) : Type 0 where
  pub filler : RecordId
  pub table_is : filler.table ≡ table
  pub entry_is : filler.entry ≡ entry
  pub begins : Begins files filler k w
  pub no_call : (i : ℕ) (f : RecordField) → i < calls → slice_get (call_fields files) i ≡ Some f → Begins files f.id k w → ⊥

pub record TellsCall (files : List (List ℕ)) (number k w : ℕ) : Type 0 where
  pub field : RecordField
  pub found : slice_get (call_fields files) number ≡ Some field
  pub begins : Begins files field.id k w

pub record TellsAccess (files : List (List ℕ)) (pairs : List TextPair) (distance k w : ℕ) : Type 0 where
  pub free : (r : RecordId) → Meets files r k w → ⊥
  pub pair : TextPair
  pub held : Contains pairs pair
  pub ends : EndsAt pair k w
  pub tail_is : pair.tail ≡ pair.head + distance

module _ (files : List (List ℕ)) (pairs : List TextPair) (Left : RecordId → ℕ → Type 0) (calls accesses : ℕ) where
  abbrev pub Tells : ℕ → ℕ → Mark → Type 0
  Tells k w mark.Word = TellsWord files pairs Left accesses k w
  Tells k w mark.Touched = TellsTouched files Left k w
  Tells k w (mark.Field table entry) = TellsField files calls table entry k w
  Tells k w (mark.Call number) = TellsCall files number k w
  Tells k w (mark.Access distance) = TellsAccess files pairs distance k w

  abbrev pub AllTell : List MarkedSection → Type 0
  AllTell sections = (k w : ℕ) (x : Mark) → mark_in sections k w ≡ Some x → Tells k w x

-- records of a list are left
abbrev pub LeftOf : List RecordId → RecordId → ℕ → Type 0
LeftOf records r w = Contains records r

-- those, and of one more the words from one on
abbrev pub LeftFrom : List RecordId → RecordId → ℕ → RecordId → ℕ → Type 0
LeftFrom records last from r w = Contains records r ⊎ ((r ≡ last) × (from ≤ w))

-- no record is left
abbrev pub NoneLeft : RecordId → ℕ → Type 0
NoneLeft r w = ⊥

-- the mark of a word of which the field of a record has bytes, by the one before
abbrev pub touched : Mark → Mark
touched mark.Word = mark.Touched
touched other = other

abbrev pub met_mark : RecordId → ℕ → ℕ → Mark → Mark
met_mark r start w x = if w * 4 == start then mark.Field r.table r.entry else touched x

-- no record is refused, and these are the calls and the pairs of the files
pub record AreMarkable (files : List (List ℕ)) (sites : List CallSite) (pairs : List TextPair) : Type 0 where
  pub records : records_refusal files ≡ None
  pub groups : List ℕ
  pub sites_are : sites ≡ call_sites files groups
  pub pairs_are : ArePairs files pairs

-- In the end.
-- the record of a text section by where it stands
abbrev pub record_at : List (List ℕ) → TextPlace → ℕ → ℕ → RecordId
record_at files p table entry =
    record { file = (section_at files p).file; table = table; entry = entry; section = (section_at files p).section }

-- one field has bytes of the word, which it begins with: that of a record that is no call's
pub record IsBegun (files : List (List ℕ)) (p : TextPlace) (table entry : ℕ) : Type 0 where
  pub there : IsRecord files (record_at files p table entry)
  pub kind : Kind
  pub kind_is : kind_numbered (rela_of (file_at files (section_at files p).file) table entry).kind ≡ Some kind
  pub fills : 0 < (line_of kind).width
  pub no_call : is_some (linkage_of kind) ≡ false
  pub offset_is : (rela_of (file_at files (section_at files p).file) table entry).offset ≡ p.offset
  pub alone : fields_at files p ≡ field_of (file_at files (section_at files p).file) (record_at files p table entry) ∷ []

-- a call's does, and that is the call with this number
pub record IsCalled (files : List (List ℕ)) (p : TextPlace) (number : ℕ) : Type 0 where
  pub field : RecordField
  pub found : slice_get (call_fields files) number ≡ Some field
  pub call : is_call (file_at files field.id.file) field ≡ true
  pub start : field.start ≡ p.offset
  pub alone : fields_at files p ≡ field ∷ []

-- some fields have bytes of it, and it doesn't begin with one alone
pub record IsTouched (files : List (List ℕ)) (p : TextPlace) : Type 0 where
  pub some : 0 < length (fields_at files p)
  pub none_begins : field_at files p ≡ None

-- no field has bytes of it, and no pair ends there
pub record IsFree (files : List (List ℕ)) (pairs : List TextPair) (p : TextPlace) : Type 0 where
  pub none : fields_at files p ≡ []
  pub no_access : head_at pairs p.section p.offset ≡ None

-- no field has bytes of it, and this pair ends there
pub record IsAccessed (files : List (List ℕ)) (pairs : List TextPair) (p : TextPlace) (distance : ℕ) : Type 0 where
  pub none : fields_at files p ≡ []
  pub head : ℕ
  pub offset_is : p.offset ≡ head + distance
  pub held : Contains pairs (record { section = p.section; head = head; tail = p.offset })
  pub access : head_at pairs p.section p.offset ≡ Some head

module _ (files : List (List ℕ)) (pairs : List TextPair) (p : TextPlace) where
  abbrev pub MarkTells : Mark → Type 0
  MarkTells mark.Word = IsFree files pairs p
  MarkTells mark.Touched = IsTouched files p
  MarkTells (mark.Field table entry) = IsBegun files p table entry
  MarkTells (mark.Call number) = IsCalled files p number
  MarkTells (mark.Access distance) = IsAccessed files pairs p distance

-- word w of text section k
abbrev pub word_place : ℕ → ℕ → TextPlace
word_place k w = record { section = k; offset = 4 * w }

-- the text sections of files, marked
pub record AreMarked (files : List (List ℕ)) (pairs : List TextPair) (sections : List MarkedSection) : Type 0 where
  pub texts : AreTexts files sections
  pub marks : (k w : ℕ) (x : Mark) → mark_in sections k w ≡ Some x → MarkTells files pairs (word_place k w) x

-- text section k of files, and what is kept of it
pub record IsTextAt (files : List (List ℕ)) (k : ℕ) (s : SectionId) (m : MarkedSection) : Type 0 where
  pub found : slice_get (text_sections files) k ≡ Some s
  pub lies : IsTextSection files k s.file s.section
  pub id_is : m.id ≡ s
  pub align_is : m.align ≡ align_of (file_at files s.file) s.section
  pub bytes_are : m.bytes ≡ section_bytes (file_at files s.file) s.section
  pub stored : length (section_bytes (file_at files s.file) s.section) ≡ sh_size (file_at files s.file) s.section
  pub count : 4 * length m.marks ≡ sh_size (file_at files s.file) s.section

-- the record of the field of a mark, by its section and its position there
abbrev pub field_record : Mark → Option (ℕ × ℕ)
field_record (mark.Field table entry) = Some (table, entry)
field_record other = None

-- the number of the call of a mark
abbrev pub call_number : Mark → Option ℕ
call_number (mark.Call number) = Some number
call_number other = None

-- no field has bytes of a word with this mark
abbrev pub is_free : Mark → Bool
is_free mark.Word = true
is_free mark.Touched = false
is_free (mark.Field table entry) = false
is_free (mark.Call number) = false
is_free (mark.Access distance) = true
