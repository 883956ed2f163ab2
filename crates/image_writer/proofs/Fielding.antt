-- The bytes of a field are those of its number.
use Rattle.std.proofs.Common.{ℕ, ℤ, ◌≡◌, ◌≢◌, ◌<◌, Bool, true, false, ◌||◌, ◌==◌, if◌then◌else◌, List, Option, None, Some, is_some, ap, sym, ◌∙◌, subst, refl, arith}
use Rattle.std.proofs.lemmas.Bool.Decides.{nat_tests}
use Rattle.object_set.specs.Sections.{is_text}
use Rattle.symbol_table.specs.Fields.{kind_numbered}
use Rattle.call_sites.specs.Sites.{linkage_of}
use Rattle.image_writer.specs.Fields.{plain_kind, text_kind}
use Rattle.byteorder.specs.Endian.{little_bytes}
use Rattle.ppc_bytes.specs.Bytes.{number_at}
use Rattle.elf64_records.specs.Records.{rela_of}
use Rattle.elf64_records.specs.Sections.{section_bytes}
use Rattle.object_set.specs.declared.places.RecordId.{RecordId}
use Rattle.object_set.specs.Files.{file_at}
use Rattle.reloc_fields.specs.declared.kind.Kind.{Kind}
use Rattle.reloc_fields.specs.Table.{line_of, filled}
use Rattle.toc_groups.specs.Values.{record_value}
use Rattle.toc_groups.specs.Contents.{field_bytes}

module _ (files : List (List ℕ)) (span : ℕ) (text : List ℕ) (r : RecordId) (kind : Kind) where
  pub field_is : (width number offset : ℕ) (bytes : List ℕ) (value : ℤ) →
      width ≡ (line_of kind).width → bytes ≡ section_bytes (file_at files r.file) r.section →
      offset ≡ (rela_of (file_at files r.file) r.table r.entry).offset → value ≡ record_value files span text r kind →
      number ≡ filled (line_of kind).filling (number_at (line_of kind).width bytes offset) value →
      little_bytes width number ≡ field_bytes files span text r kind
  unfolding field_bytes
  field_is width number offset bytes value same_width same_bytes same_offset same_value is =
      let line = line_of kind in
      let own = section_bytes (file_at files r.file) r.section in
      let at = (rela_of (file_at files r.file) r.table r.entry).offset in
      ap (λ (w : ℕ). little_bytes w number) same_width
      ∙ ap (little_bytes line.width)
      (is ∙ ap (λ (l : List ℕ). filled line.filling (number_at line.width l offset) value) same_bytes
      ∙ ap (λ (o : ℕ). filled line.filling (number_at line.width own o) value) same_offset
      ∙ ap (filled line.filling (number_at line.width own at)) same_value)

-- what a plain kind has
neither : (p q : Bool) → (p || q) ≡ false → q ≡ false
neither true q none = cc
neither false q none = none

plain_case : (kind k : Kind) (t : Bool) → ((line_of kind).width == 0 || is_some (linkage_of kind)) ≡ t →
    (if t then None else Some kind) ≡ Some k → (kind ≡ k) × ((line_of k).width ≢ 0) × (is_some (linkage_of k) ≡ false)
plain_case kind k true test is = cc
plain_case kind k false test is =
    let same : kind ≡ k = cc in
    let none = neither ((line_of kind).width == 0) (is_some (linkage_of kind)) test in (
      same,
      subst (λ (x : Kind). (line_of x).width ≢ 0) same (grind (arith, nat_tests, test)),
      ap (λ (x : Kind). is_some (linkage_of x)) (sym same) ∙ none,
    )

plain_of : (o : Option Kind) (k : Kind) → plain_kind o ≡ Some k → (o ≡ Some k) × ((line_of k).width ≢ 0) × (is_some (linkage_of k) ≡ false)
plain_of None k is = cc
plain_of (Some kind) k is =
    let parts = plain_case kind k ((line_of kind).width == 0 || is_some (linkage_of kind)) refl is in
    (ap Some parts.0, parts.1, parts.2)

-- and a record in text
pub record IsTextField (files : List (List ℕ)) (r : RecordId) (k : Kind) : Type 0 where
  pub text : is_text (file_at files r.file) r.section ≡ true
  pub known : kind_numbered (rela_of (file_at files r.file) r.table r.entry).kind ≡ Some k
  pub fills : 0 < (line_of k).width
  pub plain : is_some (linkage_of k) ≡ false

text_case : (files : List (List ℕ)) (r : RecordId) (k : Kind) (t : Bool) → is_text (file_at files r.file) r.section ≡ t →
    (if t then plain_kind (kind_numbered (rela_of (file_at files r.file) r.table r.entry).kind) else None) ≡ Some k → IsTextField files r k
text_case files r k true test is =
    let parts = plain_of (kind_numbered (rela_of (file_at files r.file) r.table r.entry).kind) k is in
    let some = parts.1 in
    record { text = test; known = parts.0; fills = grind (arith, some); plain = parts.2 }
text_case files r k false test is = cc

pub text_field : (files : List (List ℕ)) (r : RecordId) (k : Kind) → text_kind files r ≡ Some k → IsTextField files r k
unfolding text_kind
text_field files r k is = text_case files r k (is_text (file_at files r.file) r.section) refl is
