-- What has to be so before stubs are written.
use Rattle.std.specs.Prelude.{ℕ, ◌≡◌, ◌⊎◌, ◌+◌, ◌-◌, ◌<◌, ◌≤◌, ◌%◌, ◌^◌, Bool, true, List, Option, None, Some, length, slice_index}
use Rattle.ppc_bytes.specs.Bytes.{InSigned}
use Rattle.elf64_records.specs.Records.{rela_of}
use Rattle.elf64_records.specs.Sections.{section_bytes}
use Rattle.object_set.specs.declared.places.RecordId.{RecordId}
use Rattle.object_set.specs.Files.{file_at}
use Rattle.reloc_fields.specs.declared.kind.Kind.{Kind}
use Rattle.reloc_fields.specs.Table.{line_of}
use Rattle.symbol_table.specs.Fields.{kind_numbered}
use Rattle.toc_groups.specs.Values.{field_address}
use Rattle.stub_kinds.specs.declared.class.Class.{Class}
use Rattle.call_sites.specs.declared.site.CallSite.{CallSite}
use Rattle.stub_kinds.specs.Stubs.{BranchReaches}
use Rattle.symbol_table.specs.Text.{text_sections}
use Rattle.toc_groups.specs.Plans.{LaidData}
use Rattle.layout_rounds.specs.FarSets.{member}
use Rattle.placed_bytes.specs.Patches.{end_of}
use Rattle.layout_rounds.specs.Shapes.{KeyedText}
use Rattle.layout_rounds.specs.Layout.{PlacedText, text_end, section_count, group_count, key_count, key_at, stub_size}
use Rattle.image_writer.specs.Text.{caller_base, place_of, callee_base, section_patch}
use Rattle.image_writer.specs.Calls.{call_at, call_number, call_address, displacement}
use Rattle.image_writer.specs.Fields.{text_kind}
use Rattle.object_set.specs.Walks.{IsRecord}

module _ (files : List (List ℕ)) (bases : List ℕ) (t : KeyedText) (F : ℕ → Bool) (p : PlacedText) where
  -- the TOC base of the callers in each group, told by the first n sections
  pub record AreCallerBases (n : ℕ) (callers : List ℕ) : Type 0 where
    pub count : length callers ≡ group_count t
    pub each : (g : ℕ) → g < group_count t → slice_index callers g ≡ caller_base files bases t F p g n

  -- the stub of key k has room in a text of so many bytes that starts somewhere
  pub record HasStubRoom (start size k : ℕ) : Type 0 where
    pub from : start ≤ slice_index p.stubs k
    pub room : slice_index p.stubs k - start + stub_size t F k ≤ size

  -- its addresses are low multiples of 4, and its branch reaches
  pub record IsStubReady (k : ℕ) : Type 0 where
    pub stub_in : k < length p.stubs
    pub section_in : (key_at t k).section < length p.sections
    pub text_in : (key_at t k).section < length (text_sections files)
    pub to_base_low : callee_base files bases t F p k < 0x60000000
    pub at_low : slice_index p.stubs k < 0x60000000
    pub to_low : place_of files bases t F p k < 0x60000000
    pub base_low : caller_base files bases t F p (key_at t k).group (section_count t) < 0x60000000
    pub at_whole : slice_index p.stubs k % 4 ≡ 0
    pub to_whole : place_of files bases t F p k % 4 ≡ 0
    pub reaches : BranchReaches (key_at t k).class (F k) (slice_index p.stubs k) (place_of files bases t F p k)

  -- the call with number n in the layout has a key, with its place and its stub
  pub record IsBranchReady (n : ℕ) : Type 0 where
    pub number_in : n < length t.numbers
    pub key_in : slice_index t.numbers n < key_count t
    pub stub_in : slice_index t.numbers n < length p.stubs
    pub section_in : (key_at t (slice_index t.numbers n)).section < length p.sections
    pub place_low : place_of files bases t F p (slice_index t.numbers n) < 2 ^ 62
    pub stub_low : 0 < stub_size t F (slice_index t.numbers n) → slice_index p.stubs (slice_index t.numbers n) < 2 ^ 62

  abbrev pub BranchReadyBy : Option Class → ℕ → Type 0
  BranchReadyBy None n = Unit {0}
  BranchReadyBy (Some class) n = IsBranchReady n

  -- a call has room in a text of so many bytes that starts somewhere
  pub record HasCallRoom (start size : ℕ) (site : CallSite) : Type 0 where
    pub from : start ≤ call_address files bases t F p site
    pub room : call_address files bases t F p site - start + 4 ≤ size
    pub slot_room : site.slot ≡ true → call_address files bases t F p site - start + 8 ≤ size

  -- it reaches where it branches
  pub record IsCallReady (site : CallSite) (n : ℕ) : Type 0 where
    pub section_in : site.section < length p.sections
    pub low : call_address files bases t F p site < 2 ^ 62
    pub branch : BranchReadyBy site.class n
    pub reaches : InSigned 26 (displacement files bases t F p site n)

-- the field of a record, and all of its section behind it, has room in a text of so many bytes that starts somewhere
pub record HasFieldRoom (files : List (List ℕ)) (span : ℕ) (text : List ℕ) (start size : ℕ) (r : RecordId) (kind : Kind) : Type 0 where
  pub known : kind_numbered (rela_of (file_at files r.file) r.table r.entry).kind ≡ Some kind
  pub wide : ((line_of kind).width ≡ 4) ⊎ ((line_of kind).width ≡ 8)
  pub within : (rela_of (file_at files r.file) r.table r.entry).offset + (line_of kind).width
      ≤ length (section_bytes (file_at files r.file) r.section)
  pub from : start ≤ field_address files span text r
  pub room : field_address files span text r - start + (line_of kind).width ≤ size
  pub rest : field_address files span text r - start + length (section_bytes (file_at files r.file) r.section)
      ≤ size + (rela_of (file_at files r.file) r.table r.entry).offset

-- text sections lie at addresses from the start of an image on
pub record AreTextAddresses (text : List ℕ) : Type 0 where
  pub from : (s : ℕ) → s < length text → 0x10000000 ≤ slice_index text s
  pub low : (s : ℕ) → s < length text → slice_index text s ≤ 0x60000000

-- in the layout of a job sections, stubs, calls and fields have room in the text, and branches reach
pub record HasRooms (files : List (List ℕ)) (plan : LaidData) (sites : List CallSite) (t : KeyedText) (far : List Bool)
    (p : PlacedText) : Type 0 where
  pub start : plan.text_start ≤ text_end t (member far)
  pub end : p.end ≡ text_end t (member far)
  pub far_count : length far ≡ key_count t
  pub texts : section_count t ≡ length (text_sections files)
  pub count : length p.sections ≡ length (text_sections files)
  pub from : (s : ℕ) → s < length p.sections → plan.text_start ≤ slice_index p.sections s
  pub to : (s : ℕ) → s < length p.sections →
      end_of (section_patch files p.sections plan.text_start s) ≤ text_end t (member far) - plan.text_start
  pub ready : (k : ℕ) → k < key_count t → 0 < stub_size t (member far) k → IsStubReady files plan.bases t (member far) p k
  pub room : (k : ℕ) → k < key_count t → 0 < stub_size t (member far) k →
      HasStubRoom files plan.bases t (member far) p plan.text_start (text_end t (member far) - plan.text_start) k
  pub calls_ready : (i : ℕ) → i < length sites →
      IsCallReady files plan.bases t (member far) p (call_at sites i) (call_number sites i)
  pub calls_room : (i : ℕ) → i < length sites →
      HasCallRoom files plan.bases t (member far) p plan.text_start (text_end t (member far) - plan.text_start) (call_at sites i)
  pub addresses : AreTextAddresses p.sections
  pub fields_room : (r : RecordId) (kind : Kind) → IsRecord files r → text_kind files r ≡ Some kind →
      HasFieldRoom files plan.span p.sections plan.text_start (text_end t (member far) - plan.text_start) r kind
