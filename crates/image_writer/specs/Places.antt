-- The text of a job, place by place: an address that a stub, a call, the nop behind a call or a relocation record has holds what is put
-- there, each other one of a section what the file has there, and what lies between sections and stubs is zero (ELFv2 ABI, "Function Call"
-- and "Relocation Types").
use Rattle.std.specs.Prelude.{ℕ, ◌≡◌, ◌+◌, ◌-◌, ◌*◌, ◌<◌, ◌≤◌, Bool, true, false, List, ◌++◌, length, Some, None, IfSome, All, slice_index}
use Rattle.std.specs.List.{Contains}
use Rattle.byteorder.specs.Endian.{little_bytes}
use Rattle.ppc_bytes.specs.declared.constants.TheConstants.{NOP}
use Rattle.ppc_bytes.specs.Bytes.{InSigned}
use Rattle.elf64_records.specs.Sections.{section_bytes}
use Rattle.object_set.specs.declared.places.RecordId.{RecordId}
use Rattle.object_set.specs.Files.{file_at}
use Rattle.object_set.specs.Refusals.{set_refusal}
use Rattle.object_set.specs.Walks.{IsRecord}
use Rattle.reloc_fields.specs.declared.kind.Kind.{Kind}
use Rattle.reloc_fields.specs.declared.kind.Kind.TheVariants.{GotPcrel34}
use Rattle.reloc_fields.specs.Table.{line_of}
use Rattle.symbol_table.specs.Text.{text_sections, text_index}
use Rattle.call_sites.specs.declared.site.CallSite.{CallSite}
use Rattle.call_sites.specs.Words.{branch_word, slot_word}
use Rattle.toc_groups.specs.Contents.{HoldsBytes, field_bytes}
use Rattle.toc_groups.specs.Parts.{Covers}
use Rattle.toc_groups.specs.Plans.{LaidData}
use Rattle.toc_groups.specs.Values.{field_address, record_value}
use Rattle.toc_rewrite.specs.declared.loads.TocRecord.{TocRecord}
use Rattle.toc_rewrite.specs.Uses.{number_of, is_folded_load, is_rewritten}
use Rattle.toc_rewrite.specs.Words.{folded_word}
use Rattle.pcrel_rewrite.specs.declared.text_pairs.TextPair.{TextPair}
use Rattle.pcrel_rewrite.specs.Pairs.{IsRecognised}
use Rattle.layout_rounds.specs.FarSets.{member}
use Rattle.layout_rounds.specs.Shapes.{KeyedText}
use Rattle.layout_rounds.specs.Layout.{PlacedText, key_count, stub_size, text_end}
use Rattle.image_writer.specs.declared.got_loads.LoadWords.{LoadWords}
use Rattle.placed_bytes.specs.Patches.{Patch, end_of, ArePlaced}
use Rattle.image_writer.specs.Text.{text_section, section_patches, stub_text, stub_patches}
use Rattle.image_writer.specs.Calls.{call_at, call_number, call_address, displacement, call_patches}
use Rattle.image_writer.specs.Fields.{text_kind}
use Rattle.image_writer.specs.Image.{text_image}
use Rattle.image_writer.specs.Job.{IsJob}
use Rattle.image_writer.specs.Records.{record_patches}
use Rattle.pcrel_rewrite.specs.TextPairs.{tail_at}
use Rattle.image_writer.specs.Rewriting.{Rewriting}
use Rattle.image_writer.specs.TocLoads.{toc_record}
use Rattle.image_writer.specs.GotLoads.{offset_of, pair_distance, pair_load, rewritten_load}

-- the byte at an address of a text that starts somewhere
abbrev pub byte_at : ℕ → List ℕ → ℕ → ℕ
byte_at start text a = slice_index text (a - start)

-- memory holds a word at an address
abbrev pub HoldsWord : (ℕ → ℕ) → ℕ → ℕ → Type 0
HoldsWord byte at word = HoldsBytes byte at (little_bytes 4 word)

-- the two words of a prefixed instruction, and the nop in the place of the access that it does too
pub record HoldsLoad (byte : ℕ → ℕ) (at : ℕ) (load : LoadWords) : Type 0 where
  pub prefix : HoldsWord byte at load.prefix
  pub suffix : HoldsWord byte (at + 4) load.suffix
  pub access : IfSome load.nop (λ distance. HoldsWord byte (at + distance) NOP)

-- only recognised pairs are rewritten
abbrev pub RewritesPairs : List (List ℕ) → List TextPair → Type 0
RewritesPairs files pairs = (pair : TextPair) → Contains pairs pair → IsRecognised files pair

-- the bytes of text section s
abbrev pub bytes_of : List (List ℕ) → ℕ → List ℕ
bytes_of files s = let id = text_section files s in section_bytes (file_at files id.file) id.section

-- a record in text that fills bytes and is no call's
pub record IsTextRecord (files : List (List ℕ)) (r : RecordId) (kind : Kind) : Type 0 where
  pub there : IsRecord files r
  pub kind_is : text_kind files r ≡ Some kind

module _ (files : List (List ℕ)) (plan : LaidData) (sites : List CallSite) (t : KeyedText) (F : ℕ → Bool) (p : PlacedText)
    (w : Rewriting) where
  -- a patch lies in a text section
  pub record IsInSection (q : Patch) : Type 0 where
    pub section : ℕ
    pub section_in : section < length (text_sections files)
    pub from : slice_index p.sections section - plan.text_start ≤ q.at
    pub to : end_of q ≤ slice_index p.sections section - plan.text_start + length (bytes_of files section)

  -- sections and stubs are apart; so are calls and what records put, which lie in sections
  pub record AreApartPatches : Type 0 where
    pub ground : ArePlaced (text_end t F - plan.text_start)
        (section_patches files p.sections plan.text_start ++ stub_patches files plan.bases t F p plan.text_start)
    pub over : ArePlaced (text_end t F - plan.text_start)
        (call_patches files plan.bases t F p plan.text_start sites ++ record_patches files plan.span p.sections w plan.text_start)
    pub inside : All IsInSection
        (call_patches files plan.bases t F p plan.text_start sites ++ record_patches files plan.span p.sections w plan.text_start)

  -- what the rewriting of TOC loads sees of a record
  abbrev pub seen_record : RecordId → Kind → TocRecord
  seen_record r kind = toc_record files plan.span p.sections w.slots r kind

  -- a record whose word is rewritten with its high or low half
  pub record IsFolded (r : RecordId) (kind : Kind) : Type 0 where
    pub is : IsTextRecord files r kind
    pub rewritten : is_rewritten (seen_record r kind) (w.orderly r.file) ≡ true

  -- a record whose load of an address becomes a sum, or one instruction with the access through the address
  pub record IsNewLoad (r : RecordId) (kind : Kind) (load : LoadWords) : Type 0 where
    pub is : IsTextRecord files r kind
    pub other : is_rewritten (seen_record r kind) (w.orderly r.file) ≡ false
    pub load_is : rewritten_load files plan.span p.sections w r kind ≡ Some load

  -- a record whose field gets its value
  pub record IsPlainField (r : RecordId) (kind : Kind) : Type 0 where
    pub is : IsTextRecord files r kind
    pub other : is_rewritten (seen_record r kind) (w.orderly r.file) ≡ false
    pub no_load : rewritten_load files plan.span p.sections w r kind ≡ None

  -- a record that loads the address of a recognised pair whose access stands at an offset: what the access does is in reach of one
  -- instruction, which the two become
  pub record IsPairLoad (r : RecordId) (kind : Kind) (tail : ℕ) : Type 0 where
    pub kind_is : kind ≡ GotPcrel34
    pub fits : InSigned 34 (pair_distance files plan.span p.sections r tail)
    pub load_is : rewritten_load files plan.span p.sections w r kind ≡ Some (pair_load files plan.span p.sections r tail)

  abbrev pub PairsReach : Type 0
  PairsReach =
      (r : RecordId) (kind : Kind) (tail : ℕ) → IsTextRecord files r kind →
      tail_at w.pairs (text_index files r.file r.section) (offset_of files r) ≡ Some tail → IsPairLoad r kind tail

  -- no call, no word behind one that can be used, no record and no access of a pair has an address
  pub record IsSpared (a : ℕ) : Type 0 where
    pub calls : (i : ℕ) → i < length sites → Covers (call_address files plan.bases t F p (call_at sites i)) 4 a → ⊥
    pub slots : (i : ℕ) → i < length sites → (call_at sites i).slot ≡ true →
        Covers (call_address files plan.bases t F p (call_at sites i) + 4) 4 a → ⊥
    pub records : (r : RecordId) (kind : Kind) → IsTextRecord files r kind →
        Covers (field_address files plan.span p.sections r) (line_of kind).width a → ⊥
    pub accesses : (r : RecordId) (kind : Kind) (load : LoadWords) (distance : ℕ) → IsNewLoad r kind load →
        load.nop ≡ Some distance → Covers (field_address files plan.span p.sections r + distance) 4 a → ⊥

  -- no section and no stub has it
  pub record IsPadding (a : ℕ) : Type 0 where
    pub sections : (s : ℕ) → s < length (text_sections files) →
        Covers (slice_index p.sections s) (length (bytes_of files s)) a → ⊥
    pub stubs : (k : ℕ) → k < key_count t → Covers (slice_index p.stubs k) (stub_size t F k) a → ⊥

  -- the image of a job's text: what memory holds of it
  pub record HoldsText (byte : ℕ → ℕ) : Type 0 where
    -- the words of each stub, one behind the other
    pub stubs : (k i : ℕ) → k < key_count t → i < length (stub_text files plan.bases t F p k) →
        HoldsWord byte (slice_index p.stubs k + 4 * i) (slice_index (stub_text files plan.bases t F p k) i)
    -- the branch of each call
    pub calls : (i : ℕ) → i < length sites → (let site = call_at sites i in
        HoldsWord byte (call_address files plan.bases t F p site)
        (branch_word site.class site.link (displacement files plan.bases t F p site (call_number sites i))))
    -- the word behind it, where it can be used
    pub slots : (i word : ℕ) → i < length sites → slot_word (call_at sites i).slot (call_at sites i).restore ≡ Some word →
        HoldsWord byte (call_address files plan.bases t F p (call_at sites i) + 4) word
    -- a word with a half of a number from the TOC base
    pub folds : (r : RecordId) (kind : Kind) → IsFolded r kind → (let load = seen_record r kind in
        HoldsWord byte (field_address files plan.span p.sections r)
        (folded_word load.kind load.word (number_of load (record_value files plan.span p.sections r load.kind)) (is_folded_load load)))
    -- a load of an address that became a sum; and both words of a pair, of which the one behind is a nop
    pub loads : (r : RecordId) (kind : Kind) (load : LoadWords) → IsNewLoad r kind load →
        HoldsLoad byte (field_address files plan.span p.sections r) load
    -- each other field, with its value
    pub fields : (r : RecordId) (kind : Kind) → IsPlainField r kind →
        HoldsBytes byte (field_address files plan.span p.sections r) (field_bytes files plan.span p.sections r kind)
    -- each other byte of a section
    pub sections : (s k : ℕ) → s < length (text_sections files) → k < length (bytes_of files s) →
        IsSpared (slice_index p.sections s + k) → byte (slice_index p.sections s + k) ≡ slice_index (bytes_of files s) k
    -- and zeros between sections and stubs
    pub padding : (a : ℕ) → plan.text_start ≤ a → a < text_end t F → IsPadding a → byte a ≡ 0

  -- so it is of the text that is made of patches
  abbrev pub StandsByPlace : Type 0
  StandsByPlace = HoldsText (byte_at plan.text_start (text_image files plan sites t F p w))

  -- memories of which both is so have the same bytes
  abbrev pub TellsText : Type 0
  TellsText =
      (one other : ℕ → ℕ) → HoldsText one → HoldsText other →
      (a : ℕ) → plan.text_start ≤ a → a < text_end t F → one a ≡ other a

-- what is so of the text of each job, in the layout of any closed set of far keys and with any recognised pairs rewritten
abbrev pub OfEachText :
    (List (List ℕ) → LaidData → List CallSite → KeyedText → (ℕ → Bool) → PlacedText → Rewriting → Type 0) → Type 0
OfEachText Says =
    (files : List (List ℕ)) (plan : LaidData) (sites : List CallSite) (t : KeyedText) (far : List Bool) (p : PlacedText) (w : Rewriting) →
    set_refusal files ≡ None →
    IsJob files plan sites t far p →
    RewritesPairs files w.pairs →
    Says files plan sites t (member far) p w
