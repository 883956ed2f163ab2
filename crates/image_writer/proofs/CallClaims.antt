-- What calls put: each its branch over the field of its record, and a word behind it where that can be used. No two calls are of one
-- record.
use Rattle.std.proofs.Common.{ℕ, zero, suc, ◌≡◌, ◌<◌, ◌≤◌, ◌+◌, ◌-◌, ◌%◌, inl, inr, Bool, true, false, List, [], Option, None, is_some, length, slice_index, All, AllPairs, if◌then◌else◌, ap, sym, ◌∙◌, subst, refl, arith}
use Rattle.std.proofs.lemmas.List.Elements.{All-nil, All-cons}
use Rattle.std.proofs.lemmas.List.Kept.{AllPairs-cons}
use Rattle.byteorder.specs.Numbers.{length-bytes_low_first}
use Rattle.elf64_records.specs.Sections.{sh_size}
use Rattle.object_set.specs.declared.places.RecordId.{RecordId}
use Rattle.object_set.specs.declared.places.SectionId.{SectionId}
use Rattle.object_set.specs.Files.{file_at}
use Rattle.object_set.specs.Refusals.{set_refusal}
use Rattle.reloc_fields.specs.declared.kind.Kind.{Kind}
use Rattle.reloc_fields.specs.declared.kind.Kind.TheVariants as kind
use Rattle.reloc_fields.specs.Table.{line_of}
use Rattle.stub_kinds.specs.Stubs.{nop}
use Rattle.symbol_table.specs.declared.fields.RecordField.{RecordField}
use Rattle.symbol_table.specs.Text.{text_sections, text_index}
use Rattle.symbol_table.specs.laws.Text.{IsTextSection}
use Rattle.call_sites.specs.declared.site.CallSite.{CallSite}
use Rattle.call_sites.specs.Sites.{linkage_of, linkage_in}
use Rattle.call_sites.specs.Words.{branch_word, slot_word, ld_r2}
use Rattle.call_sites.specs.laws.SiteFacts.{IsSlot, IsSoundSite, site_stands}
use Rattle.call_sites.specs.laws.SiteOrder.{StandsBefore, sites_ordered_at}
use Rattle.toc_rewrite.proofs.SoundRecords.{sound_field}
use Rattle.toc_groups.specs.Plans.{LaidData}
use Rattle.layout_rounds.specs.FarSets.{member}
use Rattle.layout_rounds.specs.Shapes.{KeyedText}
use Rattle.layout_rounds.specs.Layout.{PlacedText, section_size}
use Rattle.placed_bytes.specs.Patches.{Patch, number_patch, AreApart}
use Rattle.image_writer.specs.Job.{IsJob}
use Rattle.image_writer.specs.Calls.{call_at, no_call, call_number, call_address, displacement, slot_patch, call_patch}
use Rattle.image_writer.proofs.Claims.{Claims}
use Rattle.image_writer.proofs.FieldRooms.{own_section}
use Rattle.image_writer.proofs.FieldsApart.{begin_of, own_section as place_of, IsField, IsFree}
use Rattle.image_writer.proofs.Giving.{each_sound}
use Rattle.image_writer.proofs.InSections.{section_lies}
use Rattle.image_writer.proofs.PatchLists.{pairs_none, pairs_one}
use Rattle.image_writer.specs.inside.Gives.{LayoutGives}
use Rattle.image_writer.proofs.Shaping.{is_section}

-- the field of a call is a word
call_wide : (k : Kind) → is_some (linkage_of k) ≡ true → (line_of k).width ≡ 4
call_wide = elim [ kind.Rel24 ↦ λ some. refl | kind.Rel24Notoc ↦ λ some. refl | _ ↦ λ some. cc ]

-- the record of a call site
pub record IsCallRecord (files : List (List ℕ)) (site : CallSite) : Type 0 where
  pub id : RecordId
  pub kind : Kind
  pub field : IsField files id kind
  pub call : is_some (linkage_of kind) ≡ true
  pub number_in : site.section < length (text_sections files)
  pub index : text_index files id.file id.section ≡ site.section
  pub begins : begin_of files id ≡ site.offset
  pub free : site.slot ≡ true → IsFree files (place_of files id) (begin_of files id)
  pub slot_within : site.slot ≡ true → begin_of files id + 8 ≤ sh_size (file_at files id.file) id.section
  pub whole : site.offset % 4 ≡ 0

call_record : (files : List (List ℕ)) (groups : List ℕ) (site : CallSite) → IsSoundSite files groups site → IsCallRecord files site
call_record files groups site sound =
    let f = sound.field in
    let id = f.id in
    let b = file_at files id.file in
    let is = is_section files site.section sound.stands.number in
    let here : IsTextSection files site.section id.file id.section =
    subst (λ (s : SectionId). IsTextSection files site.section s.file s.section) sound.section is in
    let kind = sound.record_sound.kind in
    let known = sound.record_sound.kind_is in
    let call : is_some (linkage_of kind) ≡ true = ap (λ (o : Option Kind). is_some (linkage_in o)) (sym known) ∙ sound.call.call in
    let width = call_wide kind call in
    let begins : begin_of files id ≡ site.offset =
    sym (ap (λ (s : CallSite). s.offset) sound.is ∙ (site_stands files groups f).offset
    ∙ ap (λ (g : RecordField). g.start) sound.call.field_is) in
    record {
      id = id;
      kind = kind;
      field = record { here = sound.call.record_in; text = here.text; known = known; fills = omega (arith, width) };
      call = call;
      number_in = sound.stands.number;
      index = here.index;
      begins = begins;
      free = λ has. record {
        slot = subst (λ (n : ℕ). IsSlot id.file b id.section n) (sym begins) (sound.slot has);
        whole = ap (λ (n : ℕ). n % 4) begins ∙ sound.stands.whole;
      };
      slot_within = λ has. (let slot = sound.slot has in omega (arith, slot.within, begins));
      whole = sound.stands.whole;
    }

-- a word behind a call, if there is one
pub slot_all : (P : Patch → Type 0) (at : ℕ) (slot restore : Bool) → (slot ≡ true → (word : ℕ) → P (number_patch 4 at word)) →
    All P (slot_patch at (slot_word slot restore))
slot_all P at true restore each = All-cons P _ [] (each refl _) (All-nil P)
slot_all P at false restore each = All-nil P

slot_pairs : (at : ℕ) (slot restore : Bool) → AllPairs AreApart (slot_patch at (slot_word slot restore))
slot_pairs at true restore = pairs_one AreApart (number_patch 4 at (if restore then ld_r2 else nop))
slot_pairs at false restore = pairs_none AreApart

before_next : (a b : CallSite) → StandsBefore a b → (a.section ≡ b.section → a.offset ≡ b.offset → ⊥)
before_next a b (inl less) section offset = omega (arith, less, section)
before_next a b (inr same) section offset = (let less = same.1 in omega (arith, less, offset))

before_on : (a b c : CallSite) → StandsBefore a b → StandsBefore b c → StandsBefore a c
before_on a b c (inl less) (inl next) = inl (omega (arith, less, next))
before_on a b c (inl less) (inr next) = (let same = next.0 in inl (omega (arith, less, same)))
before_on a b c (inr same) (inl next) = (let section = same.0 in inl (omega (arith, section, next)))
before_on a b c (inr same) (inr next) =
    let first = same.1 in
    let second = next.1 in
    inr (same.0 ∙ next.0, omega (arith, first, second))

module _ (files : List (List ℕ)) (plan : LaidData) (sites : List CallSite) (t : KeyedText) (far : List Bool) (places : PlacedText)
    (whole : set_refusal files ≡ None) (job : IsJob files plan sites t far places)
    (gives : LayoutGives t job.shape.sites.items job.span (member far)) where
  abbrev ClaimsOf : RecordId → Patch → Type 0
  ClaimsOf = Claims files plan sites t far places whole job gives

  sound_at : (i : ℕ) → i < length sites → IsSoundSite files plan.groups (call_at sites i)
  sound_at i lt = each_sound files plan.groups sites whole job.records job.sites_are i lt

  pub record_at : (i : ℕ) → i < length sites → IsCallRecord files (call_at sites i)
  record_at i lt = call_record files plan.groups (call_at sites i) (sound_at i lt)

  -- ---- order

  next_before : (i : ℕ) → i + 1 < length sites → StandsBefore (call_at sites i) (call_at sites (i + 1))
  next_before i lt =
      subst (λ (l : List CallSite). StandsBefore (call_at l i) (call_at l (i + 1))) (sym job.sites_are)
      (sites_ordered_at files plan.groups whole job.records i no_call (subst (λ (l : List CallSite). i + 1 < length l) job.sites_are lt))

  far_before : (i d : ℕ) → i + d + 1 < length sites → StandsBefore (call_at sites i) (call_at sites (i + d + 1))
  far_before i zero lt =
      let same : i + 1 ≡ i + 0 + 1 = omega arith in
      subst (λ (n : ℕ). StandsBefore (call_at sites i) (call_at sites n)) same (next_before i (omega (arith, lt)))
  far_before i (suc d) lt =
      let same : (i + d + 1) + 1 ≡ i + suc d + 1 = omega arith in
      subst (λ (n : ℕ). StandsBefore (call_at sites i) (call_at sites n)) same
      (before_on (call_at sites i) (call_at sites (i + d + 1)) (call_at sites (i + d + 1 + 1)) (far_before i d (omega (arith, lt)))
      (next_before (i + d + 1) (omega (arith, lt))))

  pub site_before : (i j : ℕ) → i < j → j < length sites → StandsBefore (call_at sites i) (call_at sites j)
  site_before i j less lt =
      let same : i + (j - i - 1) + 1 ≡ j = omega (arith, less) in
      subst (λ (n : ℕ). StandsBefore (call_at sites i) (call_at sites n)) same (far_before i (j - i - 1) (omega (arith, less, lt)))

  -- so calls are of different records
  pub calls_differ : (i j : ℕ) (one : i < length sites) (other : j < length sites) → i < j →
      (record_at i one).id ≡ (record_at j other).id → ⊥
  calls_differ i j one other less same =
      let first = record_at i one in
      let second = record_at j other in
      before_next (call_at sites i) (call_at sites j) (site_before i j less other)
      (sym first.index ∙ ap (λ (r : RecordId). text_index files r.file r.section) same ∙ second.index)
      (sym first.begins ∙ ap (begin_of files) same ∙ second.begins)

  -- ---- what a call puts

  -- the field of its record lies in its section
  pub field_within : (r : RecordId) (k : Kind) → IsField files r k →
      begin_of files r + (line_of k).width ≤ section_size t (text_index files r.file r.section)
  field_within r k is =
      let sound = sound_field files r job.records is.here k is.known is.fills in
      let own = own_section files plan sites t far places whole job gives r is.here is.text in
      omega (arith, sound.within, own.size, own.stored)

  module _ (i : ℕ) (lt : i < length sites) where
    abbrev place : ℕ
    place = call_address files plan.bases t (member far) places (call_at sites i) - plan.text_start

    -- the branch
    branch_at : (word : ℕ) → ClaimsOf (record_at i lt).id (number_patch 4 place word)
    branch_at word =
        let is = record_at i lt in
        let width = call_wide is.kind is.call in
        let own = own_section files plan sites t far places whole job gives is.id is.field.here is.field.text in
        let within = field_within is.id is.kind is.field in
        let section = ap (slice_index places.sections) is.index in
        let begins = is.begins in
        inl (record {
          kind = is.kind;
          field = is.field;
          start = begin_of files is.id;
          count = 4;
          from = omega arith;
          to = omega (arith, width);
          lies = record {
            section_in = own.counted;
            within = omega (arith, within, width);
            at = omega (arith, section, begins);
            size = length-bytes_low_first 0 4 word;
          };
        })

    -- the word behind it
    behind_at : (call_at sites i).slot ≡ true → (word : ℕ) → ClaimsOf (record_at i lt).id (number_patch 4 (place + 4) word)
    behind_at has word =
        let is = record_at i lt in
        let width = call_wide is.kind is.call in
        let own = own_section files plan sites t far places whole job gives is.id is.field.here is.field.text in
        let within = is.slot_within has in
        let lies = section_lies files plan sites t far places whole job gives
        (text_index files is.id.file is.id.section) own.counted in
        let section = ap (slice_index places.sections) is.index in
        let begins = is.begins in
        inr (inl (record {
          kind = is.kind;
          field = is.field;
          wide = omega (arith, width);
          free = is.free has;
          lies = record {
            section_in = own.counted;
            within = omega (arith, within, own.size, own.stored);
            at = omega (arith, section, begins, lies.from);
            size = length-bytes_low_first 0 4 word;
          };
        }))

    abbrev own_patches : List Patch
    own_patches = call_patch files plan.bases t (member far) places plan.text_start sites i

    pub call_claims : All (ClaimsOf (record_at i lt).id) own_patches
    call_claims =
        let site = call_at sites i in
        let word = branch_word site.class site.link (displacement files plan.bases t (member far) places site (call_number sites i)) in
        All-cons (ClaimsOf (record_at i lt).id) (number_patch 4 place word) (slot_patch (place + 4) (slot_word site.slot site.restore))
        (branch_at word) (slot_all (ClaimsOf (record_at i lt).id) (place + 4) site.slot site.restore behind_at)

    pub call_apart : AllPairs AreApart own_patches
    call_apart =
        let site = call_at sites i in
        let word = branch_word site.class site.link (displacement files plan.bases t (member far) places site (call_number sites i)) in
        let size = length-bytes_low_first 0 4 word in
        AllPairs-cons AreApart (number_patch 4 place word) (slot_patch (place + 4) (slot_word site.slot site.restore))
        (slot_all (AreApart (number_patch 4 place word)) (place + 4) site.slot site.restore (λ has next. inr (omega (arith, size))))
        (slot_pairs (place + 4) site.slot site.restore)
