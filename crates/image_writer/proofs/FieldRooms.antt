-- The field of a record in text lies in the text.
use Rattle.std.proofs.Common.{ℕ, ◌≡◌, ◌<◌, ◌≤◌, ◌+◌, ◌-◌, ◌%◌, ◌^◌, ◌⊎◌, inl, inr, Bool, true, List, None, Some, length, slice_index, if◌then◌else◌, ap, sym, ◌∙◌, subst, refl, arith}
use Rattle.std.proofs.Math.Nat.{mod-eq_of_lt}
use Rattle.std.proofs.lemmas.Option.{get_or_from_slice_get}
use Rattle.elf64_records.specs.Records.{rela_of}
use Rattle.elf64_records.specs.Sections.{section_bytes, sh_size}
use Rattle.object_set.specs.declared.places.RecordId.{RecordId}
use Rattle.object_set.specs.declared.places.SectionId.{SectionId}
use Rattle.object_set.specs.Files.{file_at}
use Rattle.object_set.specs.Refusals.{set_refusal}
use Rattle.object_set.specs.Sections.{is_text}
use Rattle.object_set.specs.Walks.{IsRecord}
use Rattle.reloc_fields.specs.declared.kind.Kind.{Kind}
use Rattle.reloc_fields.specs.declared.kind.Kind.TheVariants as kind
use Rattle.reloc_fields.specs.Table.{line_of}
use Rattle.symbol_table.specs.Text.{text_sections, text_index}
use Rattle.symbol_table.specs.laws.Text.{text_index_found, text_index_within}
use Rattle.symbol_table.specs.laws.Sections.{record_about}
use Rattle.symbol_table.specs.laws.Records.{IsSoundField, records_sound}
use Rattle.call_sites.specs.declared.site.CallSite.{CallSite}
use Rattle.call_sites.specs.laws.TextSizes.{text_whole}
use Rattle.toc_groups.specs.PlacedData.{IsPlacedData}
use Rattle.toc_groups.specs.Plans.{LaidData}
use Rattle.toc_groups.specs.Values.{section_place, field_address}
use Rattle.toc_groups.specs.Data.{section_address as data_address}
use Rattle.layout_rounds.specs.FarSets.{member}
use Rattle.layout_rounds.specs.Shapes.{KeyedText}
use Rattle.layout_rounds.specs.Layout.{PlacedText, section_count, section_size, text_end}
use Rattle.image_writer.specs.Text.{text_section, no_section}
use Rattle.image_writer.specs.Fields.{text_kind}
use Rattle.image_writer.specs.Job.{IsJob}
use Rattle.image_writer.specs.inside.Ready.{HasFieldRoom, AreTextAddresses}
use Rattle.image_writer.proofs.Fielding.{text_field}
use Rattle.image_writer.specs.inside.Gives.{LayoutGives}
use Rattle.image_writer.proofs.Room.{section_count_is, start_is, size_is, section_from, text_low}

-- a field has four or eight bytes
pub wide : (k : Kind) → 0 < (line_of k).width → ((line_of k).width ≡ 4) ⊎ ((line_of k).width ≡ 8)
wide = elim [
  | kind.None ↦ λ some. absurd (omega (arith, some))
  | kind.Tocsave ↦ λ some. absurd (omega (arith, some))
  | kind.PcrelOpt ↦ λ some. absurd (omega (arith, some))
  | kind.Addr64 ↦ λ some. inr refl
  | kind.Rel64 ↦ λ some. inr refl
  | kind.Toc ↦ λ some. inr refl
  | kind.Pcrel34 ↦ λ some. inr refl
  | kind.GotPcrel34 ↦ λ some. inr refl
  | _ ↦ λ some. inl refl
]

module _ (files : List (List ℕ)) (plan : LaidData) (sites : List CallSite) (t : KeyedText) (far : List Bool) (places : PlacedText)
    (whole : set_refusal files ≡ None) (job : IsJob files plan sites t far places)
    (gives : LayoutGives t job.shape.sites.items job.span (member far)) where
  field_of_kind : (r : RecordId) (k : Kind) → IsRecord files r → text_kind files r ≡ Some k → IsSoundField files r k
  field_of_kind r k here is =
      let field = text_field files r k is in
      let sound = records_sound files r job.records here in
      let both : Some sound.kind ≡ Some k = sym sound.kind_is ∙ field.known in
      let same : sound.kind ≡ k = cc in
      subst (IsSoundField files r) same
      (sound.field (subst (λ (x : Kind). 0 < (line_of x).width) (sym same) field.fills))

  -- the section of a record in text, among all text sections
  pub record HasSection (r : RecordId) : Type 0 where
    pub number_in : text_index files r.file r.section < length (text_sections files)
    pub counted : text_index files r.file r.section < section_count t
    pub size : section_size t (text_index files r.file r.section) ≡ length (section_bytes (file_at files r.file) r.section)
    pub stored : length (section_bytes (file_at files r.file) r.section) ≡ sh_size (file_at files r.file) r.section

  pub own_section : (r : RecordId) → IsRecord files r → is_text (file_at files r.file) r.section ≡ true → HasSection r
  own_section r here text =
      let about = record_about files r whole here in
      let n = text_index files r.file r.section in
      let within = text_index_within files r.file r.section here.file_in about.within text in
      let id : text_section files n ≡ record { file = r.file; section = r.section } =
      get_or_from_slice_get (text_sections files) n (record { file = r.file; section = r.section }) no_section
      (text_index_found files r.file r.section here.file_in about.within text) in
      record {
        number_in = within;
        counted = omega (arith, within, section_count_is files plan sites t far places whole job gives);
        size = size_is files plan sites t far places whole job gives n within
            ∙ ap (λ (s : SectionId). length (section_bytes (file_at files s.file) s.section)) id;
        stored = text_whole files r.file r.section whole here.file_in about.within text;
      }

  -- where its field lies
  pub address_is : (r : RecordId) → is_text (file_at files r.file) r.section ≡ true →
      slice_index places.sections (text_index files r.file r.section) + (rela_of (file_at files r.file) r.table r.entry).offset < 2 ^ 64 →
      field_address files plan.span places.sections r
      ≡ slice_index places.sections (text_index files r.file r.section) + (rela_of (file_at files r.file) r.table r.entry).offset
  address_is r text low =
      let b = file_at files r.file in
      let n = text_index files r.file r.section in
      let offset = (rela_of b r.table r.entry).offset in
      let place : section_place files plan.span places.sections r.file r.section ≡ slice_index places.sections n =
      ap (λ (test : Bool). if test then slice_index places.sections n else data_address files plan.span r.file b r.section) text in
      ap (λ (p : ℕ). (p + offset) % 2 ^ 64) place ∙ mod-eq_of_lt low

  pub field_room : (r : RecordId) (k : Kind) → IsRecord files r → text_kind files r ≡ Some k →
      HasFieldRoom files plan.span places.sections plan.text_start (text_end t (member far) - plan.text_start) r k
  field_room r k here is =
      let field = text_field files r k is in
      let sound = field_of_kind r k here is in
      let own = own_section r here field.text in
      let n = text_index files r.file r.section in
      let lies = gives.sections n own.counted in
      let at = job.laid.sections n own.counted in
      let start = start_is files plan sites t far places whole job gives in
      let low = text_low files plan sites t far places whole job gives in
      let offset = (rela_of (file_at files r.file) r.table r.entry).offset in
      let sum : slice_index places.sections n + offset + (line_of k).width ≤ text_end t (member far) =
      omega (arith, lies.to, at, own.size, own.stored, sound.within) in
      let address = address_is r field.text (omega (arith, sum, low)) in
      record {
        known = field.known;
        wide = wide k field.fills;
        within = omega (arith, sound.within, own.stored);
        from = omega (arith, lies.from, at, start, address);
        room = omega (arith, lies.from, at, start, address, sum);
        rest = omega (arith, lies.from, lies.to, at, start, address, own.size);
      }

  -- text sections lie behind the start of the image, below where text ends at the latest
  pub text_addresses : IsPlacedData files plan.span → AreTextAddresses places.sections
  text_addresses placed =
      let low = text_low files plan sites t far places whole job gives in
      let begins = job.plan_is.text_start in
      let least = placed.text_from in
      record {
        from = λ s lt.
            (let from = section_from files plan sites t far places whole job gives s lt in omega (arith, from, begins, least));
        low = λ s lt.
            (let within : s < section_count t = omega (arith, lt, job.laid.section_count_is) in
            let lies = gives.sections s within in
            let at = job.laid.sections s within in
            omega (arith, lies.to, at, low));
      }
