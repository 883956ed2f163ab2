-- Calls by the words with which they begin: each call of the files begins with a word of text, and each record of a call is one of them.
use Rattle.std.proofs.Common.{◌≡◌, ◌<◌, ◌≤◌, ◌+◌, ◌*◌, ◌/◌, ◌^◌, ◌&&◌, inl, inr, ℕ, zero, suc, Bool, true, eqb, List, [], ◌∷◌, length, Option, None, Some, is_some, slice_get, sym, ap, ◌∙◌, refl, arith, if◌then◌else◌}
use Rattle.std.specs.List.{flat_map, range_with_len}
use Rattle.std.proofs.lemmas.Bool.{and_parts, cases_lt}
use Rattle.std.proofs.lemmas.Bool.Decides.{nat_tests}
use Rattle.std.proofs.lemmas.Option.{slice_get-map}
use Rattle.std.specs.Option.{option_map}
use Rattle.elf64_records.specs.Sections.{sh_size}
use Rattle.object_set.specs.declared.places.RecordId.{RecordId}
use Rattle.object_set.specs.Files.{file_at}
use Rattle.object_set.specs.Refusals.{set_refusal}
use Rattle.object_set.specs.Sections.{is_text}
use Rattle.object_set.specs.Walks.{index_of}
use Rattle.object_set.specs.laws.Walks.{get_left, get_right, item_at}
use Rattle.reloc_fields.specs.declared.kind.Kind.{Kind}
use Rattle.reloc_fields.specs.declared.kind.Kind.TheVariants as kind
use Rattle.reloc_fields.specs.Table.{line_of}
use Rattle.symbol_table.specs.declared.fields.RecordField.{RecordField}
use Rattle.symbol_table.specs.Fields.{kind_numbered, width_in, field_of, meets}
use Rattle.symbol_table.specs.Records.{records_refusal}
use Rattle.symbol_table.specs.Text.{text_sections, text_index}
use Rattle.symbol_table.specs.laws.Records.{records_sound}
use Rattle.symbol_table.specs.laws.Text.{IsTextSection, text_section_at, text_index_found}
use Rattle.call_sites.specs.declared.site.CallSite.{CallSite}
use Rattle.call_sites.specs.Sites.{linkage_of, linkage_in, facts_of, is_call, begins_at, calls_at, calls_in, call_walk, call_fields, call_site, call_sites}
use Rattle.call_sites.specs.inside.Calls.{IsCall}
use Rattle.call_sites.specs.laws.Rising.{rises_at}
use Rattle.call_sites.specs.laws.SiteFacts.{site_stands}
use Rattle.call_sites.specs.laws.SiteOrder.{calls_rise}
use Rattle.call_sites.specs.laws.SoundCalls.{call_sound}
use Rattle.call_sites.specs.laws.TextSizes.{text_small}
use Rattle.plain_run.specs.inside.Marks.{Begins, start_of}
use Rattle.plain_run.proofs.WordFields.{is_met, kept_alone}

-- the field of a call has four bytes
pub call_wide : (k : Kind) → is_some (linkage_of k) ≡ true → (line_of k).width ≡ 4
call_wide = elim [ kind.Rel24 ↦ λ some. refl | kind.Rel24Notoc ↦ λ some. refl | _ ↦ λ some. cc ]

width_case : (o : Option Kind) → is_some (linkage_in o) ≡ true → width_in o ≡ 4
width_case None some = cc
width_case (Some k) some = call_wide k some

-- what stands alone at one of so many numbers is found among all
in_range : (g : ℕ → List RecordField) (a n j : ℕ) (f : RecordField) → a ≤ j → j < a + n → g j ≡ f ∷ [] →
    (i : ℕ) × (slice_get (flat_map g (range_with_len a n)) i ≡ Some f)
in_range g a zero j f least most here = absurd (omega (arith, least, most))
in_range g a (suc n) j f least most here =
    let rest = flat_map g (range_with_len (a + 1) n) in
    elim (cases_lt a j) [
      | inl later ↦ (
          let found = in_range g (a + 1) n j f (omega (arith, later)) (omega (arith, most)) here in
          (length (g a) + found.0, get_right (g a) rest (length (g a) + found.0) found.0 f refl found.1))
      | inr first ↦ (
          let same : j ≡ a = omega (arith, least, first) in
          let this : slice_get (g a) 0 ≡ Some f =
          ap (λ (m : ℕ). slice_get (g m) 0) (sym same) ∙ ap (λ (l : List RecordField). slice_get l 0) here in
          (0, get_left (g a) rest 0 f this))
    ]

module _ (files : List (List ℕ)) (whole : set_refusal files ≡ None) (none : records_refusal files ≡ None) where
  -- sections begin at numbers of their own
  sections_make : (k file section : ℕ) → IsTextSection files k file section →
      k * 2 ^ 32 + sh_size (file_at files file) section ≤ suc k * 2 ^ 32
  sections_make k file section lies =
      let small = text_small files file section whole lies.file_in lies.within lies.text in
      omega (arith, small)

  -- each is a call
  pub call_is : (i : ℕ) (f : RecordField) → slice_get (call_fields files) i ≡ Some f → IsCall files f
  call_is i f found =
      rises_at (IsCall files) (λ (g : RecordField). text_index files g.id.file g.id.section * 2 ^ 32 + g.start) (0 * 2 ^ 32)
      (length (text_sections files) * 2 ^ 32) (call_fields files) i f
      (calls_rise files (λ (k : ℕ). k * 2 ^ 32) whole none sections_make) found

  -- which begins with a word
  pub call_begins : (f : RecordField) → IsCall files f → Begins files f.id (text_index files f.id.file f.id.section) (f.start / 4)
  call_begins f call =
      let sound = call_sound files f whole none call in
      let record_sound = records_sound files f.id none call.record_in in
      let some : is_some (linkage_of record_sound.kind) ≡ true =
      ap (λ (o : Option Kind). is_some (linkage_in o)) (sym record_sound.kind_is) ∙ call.call in
      let wide = call_wide record_sound.kind some in
      let start : f.start ≡ start_of files f.id = ap (λ (g : RecordField). g.start) call.field_is in
      let fourth = sound.aligned in
      record {
        meets = record {
          kind = record_sound.kind;
          field = record {
            here = call.record_in;
            kind_is = record_sound.kind_is;
            fills = omega (arith, wide);
            section = text_index_found files f.id.file f.id.section sound.file_in sound.section_in sound.text;
          };
          before = omega (arith, start, fourth);
          behind = omega (arith, start, fourth, wide);
        };
        start = omega (arith, start, fourth);
      }

  -- where a site stands
  pub record StandsAt (i : ℕ) (site : CallSite) : Type 0 where
    pub field : RecordField
    pub found : slice_get (call_fields files) i ≡ Some field
    pub section : site.section ≡ text_index files field.id.file field.id.section
    pub offset : site.offset ≡ field.start

  made_case : (groups : List ℕ) (i : ℕ) (site : CallSite) (o : Option RecordField) → slice_get (call_fields files) i ≡ o →
      option_map (call_site files groups) o ≡ Some site → StandsAt i site
  made_case groups i site None found is = cc
  made_case groups i site (Some f) found is =
      let same : call_site files groups f ≡ site = cc in
      let stands = site_stands files groups f in
      record {
        field = f;
        found = found;
        section = ap (λ (s : CallSite). s.section) (sym same) ∙ stands.section;
        offset = ap (λ (s : CallSite). s.offset) (sym same) ∙ stands.offset;
      }

  pub site_at : (groups : List ℕ) (sites : List CallSite) (i : ℕ) (site : CallSite) → sites ≡ call_sites files groups →
      slice_get sites i ≡ Some site → StandsAt i site
  site_at groups sites i site are found =
      made_case groups i site (slice_get (call_fields files) i) refl
      (sym (slice_get-map (call_site files groups) (call_fields files) i) ∙ ap (λ (l : List CallSite). slice_get l i) (sym are) ∙ found)

  module _ (r : RecordId) (k w : ℕ) (begins : Begins files r k w)
      (call : is_call (file_at files r.file) (field_of (file_at files r.file) r) ≡ true) where
    abbrev own : RecordField
    own = field_of (file_at files r.file) r

    own_passes : (is_call (file_at files r.file) own && begins_at r.section (4 * w) own) ≡ true
    own_passes =
        let start = begins.start in
        let place : begins_at r.section (4 * w) own ≡ true = grind (arith, nat_tests, start) in
        ap (λ (t : Bool). t && begins_at r.section (4 * w) own) call ∙ place

    call_meets : (q : RecordId) → (is_call (file_at files r.file) (field_of (file_at files r.file) q)
        && begins_at r.section (4 * w) (field_of (file_at files r.file) q)) ≡ true →
        meets r.section (4 * w) 4 (field_of (file_at files r.file) q) ≡ true
    call_meets q passes =
        let b = file_at files r.file in
        let f = field_of b q in
        let parts = and_parts (is_call b f) (begins_at r.section (4 * w) f) passes in
        let place = and_parts (eqb q.section r.section) (eqb f.start (4 * w)) parts.1 in
        let first = place.0 in
        let second = place.1 in
        let section : q.section ≡ r.section = grind (arith, nat_tests, first) in
        let start : f.start ≡ 4 * w = grind (arith, nat_tests, second) in
        let wide : f.width ≡ 4 = width_case (kind_numbered (facts_of b f).kind) parts.0 in
        is_met q.section r.section f.start f.width (4 * w) (record {
          section_is = section;
          fills = omega (arith, wide);
          before = omega (arith, start);
          behind = omega (arith, start, wide);
        })

    call_alone : calls_at r.file (file_at files r.file) r.section (4 * w) ≡ own ∷ []
    call_alone =
        let b = file_at files r.file in
        kept_alone files none r k w begins (λ f. is_call b f && begins_at r.section (4 * w) f) own_passes
        (λ q is file passes. call_meets q passes)

    in_section : IsTextSection files k r.file r.section →
        (i : ℕ) × (slice_get (calls_in r.file (file_at files r.file) r.section) i ≡ Some own)
    unfolding calls_in
    in_section lies =
        let b = file_at files r.file in
        let size = sh_size b r.section in
        let calls = flat_map (calls_at r.file b r.section) (range_with_len 0 size) in
        let sound = records_sound files r none begins.meets.field.here in
        let some : is_some (linkage_of sound.kind) ≡ true =
        ap (λ (o : Option Kind). is_some (linkage_in o)) (sym sound.kind_is) ∙ call in
        let wide = call_wide sound.kind some in
        let field = sound.field (omega (arith, wide)) in
        let start = begins.start in
        let within = field.within in
        let found = in_range (calls_at r.file b r.section) 0 size (4 * w) own (omega arith)
        (omega (arith, start, within, wide)) call_alone in
        let all : (if is_text b r.section then calls else []) ≡ calls = ap (λ (t : Bool). if t then calls else []) lies.text in
        (found.0, ap (λ (l : List RecordField). slice_get l found.0) all ∙ found.1)

    -- the call of a record has a number
    pub call_numbered : (i : ℕ) × (slice_get (call_fields files) i ≡ Some own)
    call_numbered =
        let lies = text_section_at files k (record { file = r.file; section = r.section }) begins.meets.field.section in
        let found = in_section lies in (
          index_of call_walk files r.file r.section + found.0,
          item_at call_walk files r.file r.section found.0 own lies.file_in lies.within found.1,
        )
