-- A record's field: its width, its bytes, and whether it holds its value.
use Rattle.std.proofs.Common.{ℕ, ℤ, ◌≡◌, ◌≢◌, ◌<◌, ◌≤◌, ◌+◌, ◌^◌, inl, inr, Bool, true, false, not, List, length, Option, Some, None, ap, sym, ◌∙◌, refl, arith, if◌then◌else◌}
use Rattle.byteorder.specs.Endian.{little_bytes}
use Rattle.elf64_records.specs.First.{when}
use Rattle.elf64_records.specs.Records.{rela_of}
use Rattle.elf64_records.specs.Sections.{section_bytes}
use Rattle.object_set.specs.declared.places.RecordId.{RecordId}
use Rattle.object_set.specs.declared.refusal.Refusal.TheVariants.{Overflow}
use Rattle.object_set.specs.Files.{file_at}
use Rattle.object_set.specs.Sections.{sort_of}
use Rattle.object_set.specs.Walks.{IsRecord}
use Rattle.ppc_bytes.specs.Bytes.{number_at}
use Rattle.reloc_fields.specs.Bits.{Fills}
use Rattle.reloc_fields.specs.declared.kind.Kind.{Kind}
use Rattle.reloc_fields.specs.declared.kind.Kind.TheVariants as kind
use Rattle.reloc_fields.specs.Table.{line_of, filled, field, mask}
use Rattle.reloc_fields.specs.laws.Filled.{filled_number}
use Rattle.symbol_table.specs.Fields.{kind_numbered}
use Rattle.symbol_table.specs.Records.{site_of}
use Rattle.symbol_table.specs.Sites.{is_data_sort}
use Rattle.toc_groups.specs.declared.pieces.DataEnds.{DataEnds}
use Rattle.toc_groups.specs.Contents.{IsDataField, field_bytes, section_start, section_size}
use Rattle.toc_groups.specs.Plans.{data_ends}
use Rattle.toc_groups.specs.Values.{passes, field_address, record_value, kind_overflow, record_overflow, data_overflow_at}
use Rattle.toc_groups.specs.inside.Memory.{HasRange}
use Rattle.toc_groups.proofs.FieldFilling.{AreSound, offset_of, home, home_stored, field_sound, field_at}
use Rattle.toc_groups.proofs.Filling.{stored_size}
use Rattle.toc_groups.proofs.Rooms.{stored_range}

-- a field that has bytes, and not four, has eight
pub eight : (k : Kind) → 0 < (line_of k).width → (line_of k).width ≢ 4 → (line_of k).width ≡ 8
eight = elim [ kind.None ↦ λ some other. absurd (omega (arith, some)) | _ ↦ λ some other. omega (arith, some, other) ]

-- one that has none holds each value
pub no_width : (v : ℤ) (k : Kind) → (line_of k).width ≡ 0 → passes (line_of k).check v ≡ true
no_width v = elim [
  | kind.None ↦ λ none. refl
  | kind.Tocsave ↦ λ none. refl
  | kind.PcrelOpt ↦ λ none. refl
  | _ ↦ λ none. absurd (omega (arith, none))
]

-- a filled field as a number
pub number_filled : (k : Kind) (bytes : List ℕ) (offset width old new : ℕ) (x : ℤ) → old < 2 ^ 64 → new < 2 ^ 64 →
    old ≡ number_at width bytes offset → (line_of k).width ≡ width →
    Fills (mask (line_of k).filling) old (field (line_of k).filling x) new →
    new ≡ filled (line_of k).filling (number_at (line_of k).width bytes offset) x
number_filled k bytes offset width old new x low low' is same fills =
    filled_number (line_of k).filling old new x low low' fills
    ∙ ap (λ (n : ℕ). filled (line_of k).filling n x) (is ∙ ap (λ (w : ℕ). number_at w bytes offset) (sym same))

sub_range : (ends : DataEnds) (start n at m : ℕ) → HasRange ends start n → start ≤ at → at + m ≤ start + n → HasRange ends at m
sub_range ends start n at m (inl range) from below = inl (omega (arith, range.0, from), omega (arith, range.1, below))
sub_range ends start n at m (inr range) from below = inr (omega (arith, range.0, from), omega (arith, range.1, below))

module _ (files : List (List ℕ)) (span : ℕ) (text : List ℕ) where
  -- the field lies in a segment
  pub field_range : (r : RecordId) (k : Kind) → AreSound files span text → IsDataField files r k →
      HasRange (data_ends files span) (field_address files span text r) (line_of k).width
  field_range r k sound is =
      let within = (field_sound files span text r k sound is).within in
      let stored = home_stored files span text r k sound is in
      let whole_range = stored_range files span r.file r.section sound.whole stored.there.file_in stored.there.within is.sort
      (omega (arith, within, is.fills)) in
      let at = field_at files span text r k sound is in
      sub_range (data_ends files span) (section_start files span (home files span text r)) (section_size files (home files span text r))
      (field_address files span text r) (line_of k).width whole_range (omega (arith, at)) (omega (arith, at, within))

  -- and in its section's bytes
  pub field_within : (r : RecordId) (k : Kind) → AreSound files span text → IsDataField files r k →
      offset_of files span text r + (line_of k).width ≤ length (section_bytes (file_at files r.file) r.section)
  field_within r k sound is =
      omega (
        arith,
        (field_sound files span text r k sound is).within,
        stored_size files span (home files span text r) sound.whole (home_stored files span text r k sound is),
      )

  pub bytes_filled : (r : RecordId) (k : Kind) (bytes : List ℕ) (width offset x : ℕ) (v : ℤ) →
      bytes ≡ section_bytes (file_at files r.file) r.section → width ≡ (line_of k).width →
      offset ≡ (rela_of (file_at files r.file) r.table r.entry).offset → v ≡ record_value files span text r k →
      x ≡ filled (line_of k).filling (number_at (line_of k).width bytes offset) v → little_bytes width x ≡ field_bytes files span text r k
  unfolding field_bytes
  bytes_filled r k bytes width offset x v bytes_are width_is offset_is value_is is =
      let l = line_of k in
      ap (λ (w : ℕ). little_bytes w x) width_is
      ∙ ap (little_bytes l.width) (is
      ∙ ap (λ (b : List ℕ). filled l.filling (number_at l.width b offset) v) bytes_are
      ∙ ap (λ (o : ℕ). filled l.filling (number_at l.width (section_bytes (file_at files r.file) r.section) o) v) offset_is
      ∙ ap (filled l.filling (number_at l.width (section_bytes (file_at files r.file) r.section)
      (rela_of (file_at files r.file) r.table r.entry).offset)) value_is)

  -- ---- overflows

  width_case : (r : RecordId) (k : Kind) → IsRecord files r → is_data_sort (sort_of (file_at files r.file) r.section) ≡ true →
      kind_numbered (rela_of (file_at files r.file) r.table r.entry).kind ≡ Some k → ((k : Kind) → IsDataField files r k → ⊥) →
      (line_of k).width ≡ 0
  width_case r k is sort kind_is none =
      let no : 0 < (line_of k).width → ⊥ = λ some. none k (record { there = is; kind_is = kind_is; fills = some; sort = sort }) in
      grind (arith, no)

  holds_case : (r : RecordId) (k : Kind) (t : Bool) → passes (line_of k).check (record_value files span text r k) ≡ t → t ≡ true →
      kind_overflow files span text r (Some k) ≡ None
  holds_case r k t is holds =
      ap (λ (b : Bool). when (not b) (Overflow (site_of (file_at files r.file) r) (record_value files span text r k))) (is ∙ holds)

  none_case : (r : RecordId) (o : Option Kind) → kind_numbered (rela_of (file_at files r.file) r.table r.entry).kind ≡ o →
      IsRecord files r → is_data_sort (sort_of (file_at files r.file) r.section) ≡ true → ((k : Kind) → IsDataField files r k → ⊥) →
      kind_overflow files span text r o ≡ None
  none_case r None o is sort none = refl
  none_case r (Some k) o is sort none =
      holds_case r k (passes (line_of k).check (record_value files span text r k)) refl
      (no_width (record_value files span text r k) k (width_case r k is sort o none))

  sort_case : (r : RecordId) (t : Bool) → is_data_sort (sort_of (file_at files r.file) r.section) ≡ t → IsRecord files r →
      ((k : Kind) → IsDataField files r k → ⊥) → (if t then record_overflow files span text r else None) ≡ None
  sort_case r false sort is none = refl
  sort_case r true sort is none =
      none_case r (kind_numbered (rela_of (file_at files r.file) r.table r.entry).kind) refl is sort none

  -- a record that fills nothing in data overflows nowhere
  pub none_overflows : (r : RecordId) → IsRecord files r → ((k : Kind) → IsDataField files r k → ⊥) →
      data_overflow_at files span text r ≡ None
  unfolding data_overflow_at
  none_overflows r is none = sort_case r (is_data_sort (sort_of (file_at files r.file) r.section)) refl is none

  field_overflow : (r : RecordId) (k : Kind) → IsDataField files r k →
      data_overflow_at files span text r ≡ kind_overflow files span text r (Some k)
  unfolding data_overflow_at
  field_overflow r k is =
      ap (λ (t : Bool). if t then record_overflow files span text r else None) is.sort ∙ ap (kind_overflow files span text r) is.kind_is

  pub field_holds : (r : RecordId) (k : Kind) (v : ℤ) (t : Bool) → IsDataField files r k → v ≡ record_value files span text r k →
      t ≡ passes (line_of k).check v → t ≡ true → data_overflow_at files span text r ≡ None
  field_holds r k v t is value test holds =
      field_overflow r k is
      ∙ holds_case r k (passes (line_of k).check (record_value files span text r k)) refl
      (ap (passes (line_of k).check) (sym value) ∙ sym test ∙ holds)

  pub field_fails : (r : RecordId) (k : Kind) (v : ℤ) (t : Bool) → IsDataField files r k → v ≡ record_value files span text r k →
      t ≡ passes (line_of k).check v → t ≡ false →
      data_overflow_at files span text r ≡ Some (Overflow (site_of (file_at files r.file) r) v)
  field_fails r k v t is value test fails =
      let no : passes (line_of k).check (record_value files span text r k) ≡ false =
      ap (passes (line_of k).check) (sym value) ∙ sym test ∙ fails in
      field_overflow r k is
      ∙ ap (λ (b : Bool). when (not b) (Overflow (site_of (file_at files r.file) r) (record_value files span text r k))) no
      ∙ ap (λ (x : ℤ). Some (Overflow (site_of (file_at files r.file) r) x)) (sym value)
