-- What marks tell once they are all made.
use Rattle.std.proofs.Common.{◌≡◌, ◌*◌, ℕ, true, List, [], ◌∷◌, length, Option, None, Some, is_some, slice_get, sym, ap, ◌∙◌, subst, arith}
use Rattle.std.specs.List.{Contains}
use Rattle.std.proofs.lemmas.Bool.{false_from_ne_true}
use Rattle.std.proofs.lemmas.List.{length-map}
use Rattle.std.proofs.lemmas.Option.{slice_get_within, slice_get-get_or, get_or_from_slice_get}
use Rattle.elf64_records.specs.Records.{rela_of}
use Rattle.object_set.specs.declared.places.RecordId.{RecordId}
use Rattle.object_set.specs.declared.places.SectionId.{SectionId}
use Rattle.object_set.specs.Files.{file_at}
use Rattle.object_set.specs.Refusals.{set_refusal}
use Rattle.object_set.specs.Walks.{IsRecord}
use Rattle.reloc_fields.specs.declared.kind.Kind.{Kind}
use Rattle.symbol_table.specs.declared.fields.RecordField.{RecordField}
use Rattle.symbol_table.specs.Fields.{kind_numbered, field_of}
use Rattle.symbol_table.specs.Records.{records_refusal}
use Rattle.symbol_table.specs.Text.{text_sections}
use Rattle.call_sites.specs.declared.site.CallSite.{CallSite}
use Rattle.call_sites.specs.Sites.{linkage_of, linkage_in, is_call, call_fields, call_site, no_section}
use Rattle.pcrel_rewrite.specs.declared.text_pairs.TextPair.{TextPair}
use Rattle.plain_machine.specs.declared.place.TextPlace.{TextPlace}
use Rattle.plain_run.specs.declared.marks.Mark.{Mark}
use Rattle.plain_run.specs.declared.marks.Mark.TheVariants as mark
use Rattle.plain_run.specs.Standing.{section_at, fields_at}
use Rattle.plain_run.specs.inside.Marks.{AllTell, AreMarkable, AreMarked, AreTexts, IsAccessed, IsBegun, IsCalled, IsFree, IsTouched, MarkedSection, MarkTells, NoneLeft, Tells, TellsAccess, TellsCall, TellsField, TellsTouched, TellsWord, record_at, word_place}
use Rattle.plain_run.proofs.CallMarks.{call_is, call_numbered}
use Rattle.plain_run.proofs.PairMarks.{get_held, head_none, head_some, ends_there, one_head}
use Rattle.plain_run.proofs.TextWords.{text_kept}
use Rattle.plain_run.proofs.WordFields.{alone_at, none_at, none_begins_at, some_at}
use Rattle.plain_run.proofs.WrittenMarks.{mark_there}

module _ (files : List (List ℕ)) (whole : set_refusal files ≡ None) (sites : List CallSite) (pairs : List TextPair)
    (job : AreMarkable files sites pairs) where
  none : records_refusal files ≡ None
  none = job.records

  as_many : length sites ≡ length (call_fields files)
  as_many = ap (λ (l : List CallSite). length l) job.sites_are ∙ length-map (call_fields files) (call_site files job.groups)

  module _ (k w : ℕ) (s : SectionId) (found : slice_get (text_sections files) k ≡ Some s) where
    abbrev p : TextPlace
    p = word_place k w

    word_told : TellsWord files pairs NoneLeft (length pairs) k w → IsFree files pairs p
    word_told is = record {
      none = none_at files none k w s found (λ r met. is.left r met);
      no_access = head_none k (4 * w) pairs
          (λ i pair at section tail. is.no_access i pair (slice_get_within pairs i pair at) at (record { section = section; tail = tail }));
    }

    touched_told : TellsTouched files NoneLeft k w → IsTouched files p
    touched_told is = record {
      some = some_at files none is.toucher k w is.meets;
      none_begins = none_begins_at files none k w s found (λ r begins. is.left r begins);
    }

    module _ (table entry : ℕ) (is : TellsField files (length sites) table entry k w) where
      abbrev r : RecordId
      r = is.filler

      own_section : section_at files p ≡ record { file = r.file; section = r.section }
      own_section =
          get_or_from_slice_get (text_sections files) k (record { file = r.file; section = r.section }) no_section
          is.begins.meets.field.section

      same_record : r ≡ record_at files p table entry
      same_record = sym (
          ap (λ (t : SectionId). record { file = t.file; table = table; entry = entry; section = t.section }) own_section
          ∙ ap (λ (n : ℕ). record { file = r.file; table = n; entry = entry; section = r.section }) (sym is.table_is)
          ∙ ap (λ (n : ℕ). record { file = r.file; table = r.table; entry = n; section = r.section }) (sym is.entry_is))

      never_call : is_some (linkage_of is.begins.meets.kind) ≡ true → ⊥
      never_call some =
          let call : is_call (file_at files r.file) (field_of (file_at files r.file) r) ≡ true =
          ap (λ (o : Option Kind). is_some (linkage_in o)) is.begins.meets.field.kind_is ∙ some in
          let numbered = call_numbered files whole none r k w is.begins call in
          let within = slice_get_within (call_fields files) numbered.0 (field_of (file_at files r.file) r) numbered.1 in
          is.no_call numbered.0 (field_of (file_at files r.file) r) (omega (arith, within, as_many)) numbered.1 is.begins

      field_told : IsBegun files p table entry
      field_told =
          let field = is.begins.meets.field in
          record {
            there = subst (IsRecord files) same_record field.here;
            kind = is.begins.meets.kind;
            kind_is =
                subst (λ (q : RecordId). kind_numbered (rela_of (file_at files q.file) q.table q.entry).kind ≡ Some is.begins.meets.kind)
                same_record field.kind_is;
            fills = field.fills;
            no_call = false_from_ne_true (is_some (linkage_of is.begins.meets.kind)) never_call;
            offset_is =
                subst (λ (q : RecordId). (rela_of (file_at files q.file) q.table q.entry).offset ≡ 4 * w) same_record is.begins.start;
            alone = subst (λ (q : RecordId). fields_at files p ≡ field_of (file_at files q.file) q ∷ []) same_record
                (alone_at files none r k w is.begins);
          }

    call_told : (number : ℕ) → TellsCall files number k w → IsCalled files p number
    call_told number is =
        let call = call_is files whole none number is.field is.found in
        record {
          field = is.field;
          found = is.found;
          call = call.call;
          start = ap (λ (f : RecordField). f.start) call.field_is ∙ is.begins.start;
          alone = alone_at files none is.field.id k w is.begins ∙ ap (λ (f : RecordField). f ∷ []) (sym call.field_is);
        }

    access_told : (distance : ℕ) → TellsAccess files pairs distance k w → IsAccessed files pairs p distance
    access_told distance is =
        let pair = is.pair in
        let tail = is.ends.tail in
        let away = is.tail_is in
        let i : ℕ = is.held.0 in
        let at : slice_get pairs i ≡ Some pair =
        slice_get-get_or pairs i pair is.held.1 ∙ ap (λ (q : TextPair). Some q) is.held.2 in
        let own : pair ≡ record { section = k; head = pair.head; tail = 4 * w } =
        ap (λ (n : ℕ). record { section = n; head = pair.head; tail = pair.tail }) is.ends.section
        ∙ ap (λ (n : ℕ). record { section = k; head = pair.head; tail = n }) tail in
        record {
          none = none_at files none k w s found is.free;
          head = pair.head;
          offset_is = sym tail ∙ away;
          held = subst (Contains pairs) own is.held;
          access = head_some k (4 * w) pairs pair.head i pair
              (λ j q there section end. one_head files whole none q pair (job.pairs_are.each q (get_held pairs j q there))
              (job.pairs_are.each pair is.held) (section ∙ sym is.ends.section) (end ∙ sym tail))
              at (ends_there k (4 * w) pair is.ends.section tail);
        }

    pub mark_told : (x : Mark) → Tells files pairs NoneLeft (length sites) (length pairs) k w x → MarkTells files pairs p x
    mark_told mark.Word is = word_told is
    mark_told mark.Touched is = touched_told is
    mark_told (mark.Field table entry) is = field_told table entry is
    mark_told (mark.Call number) is = call_told number is
    mark_told (mark.Access distance) is = access_told distance is

  pub all_told : (sections : List MarkedSection) → AreTexts files sections →
      AllTell files pairs NoneLeft (length sites) (length pairs) sections → AreMarked files pairs sections
  all_told sections texts tell = record {
    texts = texts;
    marks = λ k w x has. (let there = mark_there sections k w x has in
        let text = text_kept files whole sections texts k there.section there.found in
        mark_told k w text.0 text.1.found x (tell k w x has));
  }
