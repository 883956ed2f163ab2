-- What stands at a place, by the mark of its word.
use Rattle.std.proofs.Common.{◌≡◌, ◌<◌, ◌-◌, ◌/◌, ◌%◌, ℕ, Bool, true, false, eqb, List, [], ◌∷◌, length, Option, None, Some, IfSome, is_some, slice_get, sym, ap, ◌∙◌, subst, refl, arith, if◌then◌else◌}
use Rattle.std.specs.Option.{option_map}
use Rattle.std.proofs.lemmas.Bool.Decides.{nat_tests}
use Rattle.std.proofs.lemmas.Option.{slice_get-map, same_Some}
use Rattle.object_set.specs.Files.{file_at}
use Rattle.reloc_fields.specs.declared.kind.Kind.{Kind}
use Rattle.symbol_table.specs.declared.fields.RecordField.{RecordField}
use Rattle.symbol_table.specs.Fields.{kind_numbered, field_of}
use Rattle.call_sites.specs.declared.site.CallSite.{CallSite}
use Rattle.call_sites.specs.Sites.{linkage_in, is_call, call_fields, call_site, call_sites, facts_of}
use Rattle.pcrel_rewrite.specs.declared.text_pairs.TextPair.{TextPair}
use Rattle.plain_machine.specs.declared.place.TextPlace.{TextPlace}
use Rattle.plain_run.specs.declared.marks.Mark.{Mark}
use Rattle.plain_run.specs.declared.marks.Mark.TheVariants as mark
use Rattle.plain_run.specs.declared.standing.Standing.TheVariants as standing
use Rattle.plain_run.specs.Standing.{form_of, section_at, word_at, is_word, is_entry, is_base, fields_at, field_at, only_field, call_by, saving_before, access_by, restore_by, field_by, begun_by, touched_by, standing_by, standing_at}
use Rattle.plain_run.specs.inside.Marks.{IsAccessed, IsBegun, IsCalled, IsFree, IsTextAt, IsTouched, MarkedSection, MarkTells, call_number, record_at, word_place}
use Rattle.plain_run.specs.inside.Text.{IsFieldAt}
use Rattle.plain_run.proofs.TextWords.{marked_word, same_place}

-- what the mark of a place tells
pub some_told : (files : List (List ℕ)) (pairs : List TextPair) (p : TextPlace) (m : MarkedSection) →
    IsTextAt files p.section (section_at files p) m → p.offset % 4 ≡ 0 →
    ((w : ℕ) (x : Mark) → slice_get m.marks w ≡ Some x → MarkTells files pairs (word_place p.section w) x) →
    (o : Option Mark) → o ≡ slice_get m.marks (p.offset / 4) → IfSome o (λ x. (is_word files p ≡ true) × MarkTells files pairs p x)
some_told files pairs p m text fourth tell None is = tt
some_told files pairs p m text fourth tell (Some x) is = (
  marked_word files p m text x fourth (sym is),
  subst (λ (q : TextPlace). MarkTells files pairs q x) (sym (same_place p fourth)) (tell (p.offset / 4) x (sym is)),
)

module _ (files : List (List ℕ)) (groups : List ℕ) (pairs : List TextPair) (p : TextPlace) where
  -- the field that begins at a place alone
  pub field_alone : (f : RecordField) → fields_at files p ≡ f ∷ [] → f.start ≡ p.offset → field_at files p ≡ Some f
  field_alone f alone start =
      let begins : eqb f.start p.offset ≡ true = grind (arith, nat_tests, start) in
      ap (only_field p.offset) alone ∙ ap (λ (t : Bool). if t then Some f else None) begins

  no_field : fields_at files p ≡ [] → field_at files p ≡ None
  no_field none = ap (only_field p.offset) none

  -- ---- calls

  abbrev own_field : (table entry : ℕ) → RecordField
  own_field table entry = field_of (file_at files (section_at files p).file) (record_at files p table entry)

  called : (number : ℕ) (is : IsCalled files p number) →
      call_by files groups pairs (field_at files p) ≡ Some (call_site files groups is.field)
  called number is =
      ap (call_by files groups pairs) (field_alone is.field is.alone is.start)
      ∙ ap (λ (t : Bool). if t then Some (call_site files groups is.field) else None) is.call

  begun_calls_none : (table entry : ℕ) → IsBegun files p table entry → call_by files groups pairs (field_at files p) ≡ None
  begun_calls_none table entry is =
      let f = own_field table entry in
      let other : is_call (file_at files f.id.file) f ≡ false =
      ap (λ (o : Option Kind). is_some (linkage_in o)) is.kind_is ∙ is.no_call in
      ap (call_by files groups pairs) (field_alone f is.alone is.offset_is)
      ∙ ap (λ (t : Bool). if t then Some (call_site files groups f) else None) other

  pub not_called : (x : Mark) → call_number x ≡ None → MarkTells files pairs p x → call_by files groups pairs (field_at files p) ≡ None
  not_called mark.Word other is = ap (call_by files groups pairs) (no_field is.none)
  not_called mark.Touched other is = ap (call_by files groups pairs) is.none_begins
  not_called (mark.Field table entry) other is = begun_calls_none table entry is
  not_called (mark.Call number) other is = cc
  not_called (mark.Access distance) other is = ap (call_by files groups pairs) (no_field is.none)

  pub call_told : (x : Mark) (number : ℕ) → call_number x ≡ Some number → MarkTells files pairs p x → IsCalled files p number
  call_told mark.Word number is tell = cc
  call_told mark.Touched number is tell = cc
  call_told (mark.Field table entry) number is tell = cc
  call_told (mark.Call n) number is tell = let same : n ≡ number = cc in subst (IsCalled files p) same tell
  call_told (mark.Access distance) number is tell = cc

  numbered_site : (sites : List CallSite) (number : ℕ) (site : CallSite) → sites ≡ call_sites files groups →
      (is : IsCalled files p number) → slice_get sites number ≡ Some site → site ≡ call_site files groups is.field
  numbered_site sites number site are is found =
      same_Some site (call_site files groups is.field)
      (sym found ∙ ap (λ (l : List CallSite). slice_get l number) are ∙ slice_get-map (call_site files groups) (call_fields files) number
      ∙ ap (option_map (call_site files groups)) is.found)

  -- the call with the number of the mark is the one there
  pub site_called : (sites : List CallSite) (number : ℕ) (site : CallSite) → sites ≡ call_sites files groups → IsCalled files p number →
      slice_get sites number ≡ Some site → Some site ≡ call_by files groups pairs (field_at files p)
  site_called sites number site are is found =
      ap (λ (s : CallSite). Some s) (numbered_site sites number site are is found) ∙ sym (called number is)

  -- ---- what stands there

  module _ (word : is_word files p ≡ true) where
    by_fields : standing_at files groups pairs p ≡ standing_by files groups pairs p (fields_at files p)
    by_fields = ap (λ (t : Bool). if t then standing_by files groups pairs p (fields_at files p) else standing.Outside) word

    free_standing : fields_at files p ≡ [] →
        standing_at files groups pairs p ≡ restore_by files groups pairs p (saving_before files groups pairs p)
    free_standing none = by_fields ∙ ap (standing_by files groups pairs p) none

    -- a word of which no field has bytes, behind a call or not
    pub restored : (site : CallSite) → fields_at files p ≡ [] → Some site ≡ saving_before files groups pairs p →
        standing.Restore site ≡ standing_at files groups pairs p
    restored site none saves = sym (free_standing none ∙ ap (restore_by files groups pairs p) (sym saves))

    pub own_word : IsFree files pairs p → None ≡ saving_before files groups pairs p → standing.Word ≡ standing_at files groups pairs p
    own_word is saves =
        sym (free_standing is.none ∙ ap (restore_by files groups pairs p) (sym saves) ∙ ap (access_by files groups pairs) is.no_access)

    pub accessed : (distance : ℕ) → IsAccessed files pairs p distance → None ≡ saving_before files groups pairs p →
        standing.Access (p.offset - distance) ≡ standing_at files groups pairs p
    accessed distance is saves =
        let away = is.offset_is in
        let head : is.head ≡ p.offset - distance = omega (arith, away) in
        sym (free_standing is.none ∙ ap (restore_by files groups pairs p) (sym saves) ∙ ap (access_by files groups pairs) is.access
        ∙ ap (λ (n : ℕ). standing.Access n) head)

    touched_case : (fields : List RecordField) → 0 < length fields → only_field p.offset fields ≡ None →
        standing_by files groups pairs p fields ≡ standing.Touched
    touched_case [] some none = absurd (omega (arith, some))
    touched_case (f ∷ fields) some none = ap (touched_by files groups pairs p) none

    pub touched : IsTouched files p → standing.Touched ≡ standing_at files groups pairs p
    touched is = sym (by_fields ∙ touched_case (fields_at files p) is.some is.none_begins)

    -- a word with which one field begins
    begun_standing : (f : RecordField) (kind : Kind) → fields_at files p ≡ f ∷ [] → f.start ≡ p.offset →
        kind_numbered (facts_of (file_at files f.id.file) f).kind ≡ Some kind →
        standing_at files groups pairs p ≡ field_by files groups pairs p f kind
    begun_standing f kind alone start known =
        let begins : eqb f.start p.offset ≡ true = grind (arith, nat_tests, start) in
        by_fields ∙ ap (standing_by files groups pairs p) alone
        ∙ ap (λ (t : Bool). touched_by files groups pairs p (if t then Some f else None)) begins
        ∙ ap (begun_by files groups pairs p f) known

    pub begun : (table entry : ℕ) (is : IsBegun files p table entry) →
        field_by files groups pairs p (own_field table entry) is.kind ≡ standing_at files groups pairs p
    begun table entry is = sym (begun_standing (own_field table entry) is.kind is.alone is.offset_is is.kind_is)

    call_case : (o : Option Kind) (f : RecordField) → is_some (linkage_in o) ≡ true →
        begun_by files groups pairs p f o ≡ standing.Call (call_site files groups f)
    call_case None f some = cc
    call_case (Some kind) f some =
        ap (λ (t : Bool). if t then standing.Call (call_site files groups f)
        else (if is_entry files p then standing.Entry (form_of (word_at files p))
        else (if is_base files p then standing.Base else standing.Field f.id kind))) some

    pub call_stands : (sites : List CallSite) (number : ℕ) (site : CallSite) → sites ≡ call_sites files groups →
        (is : IsCalled files p number) → slice_get sites number ≡ Some site → standing.Call site ≡ standing_at files groups pairs p
    call_stands sites number site are is found =
        let f = is.field in
        let begins : eqb f.start p.offset ≡ true = (let start = is.start in grind (arith, nat_tests, start)) in
        sym (by_fields ∙ ap (standing_by files groups pairs p) is.alone
        ∙ ap (λ (t : Bool). touched_by files groups pairs p (if t then Some f else None)) begins
        ∙ call_case (kind_numbered (facts_of (file_at files f.id.file) f).kind) f is.call
        ∙ ap (λ (s : CallSite). standing.Call s) (sym (numbered_site sites number site are is found)))

-- the record of a field that begins at a place
pub begun_field : (files : List (List ℕ)) (p : TextPlace) (table entry : ℕ) (is : IsBegun files p table entry) →
    IsFieldAt files p (record_at files p table entry) is.kind
begun_field files p table entry is = record {
  there = is.there;
  kind_is = is.kind_is;
  fills = is.fills;
  no_call = is.no_call;
  section_is = refl;
  offset_is = is.offset_is;
}
