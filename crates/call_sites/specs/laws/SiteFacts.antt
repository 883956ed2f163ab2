-- What each call site of a link has where nothing is refused: what the layout of text and the words of an image need of it.
use Rattle.std.proofs.Common.{◌≡◌, ◌<◌, ◌≤◌, ◌+◌, ◌%◌, ◌⊎◌, inl, inr, ℕ, Bool, true, false, not, ◌&&◌, List, length, Option, None, Some, sym, ap, ◌∙◌, subst, refl, arith, if◌then◌else◌}
use Rattle.std.specs.Prelude.{◌==◌, nat_le}
use Rattle.std.specs.List.{list_any}
use Rattle.std.proofs.lemmas.Bool.{and_parts}
use Rattle.std.proofs.lemmas.Bool.Decides.{nat_tests}
use Rattle.elf64_records.specs.FileHeader.{e_shnum}
use Rattle.elf64_records.specs.Sections.{sh_size}
use Rattle.object_set.specs.declared.places.SectionId.{SectionId}
use Rattle.object_set.specs.Files.{file_at}
use Rattle.object_set.specs.Refusals.{set_refusal}
use Rattle.object_set.specs.Sections.{is_text}
use Rattle.stub_kinds.specs.Stubs.{nop}
use Rattle.stub_kinds.specs.declared.class.Class.{Class}
use Rattle.symbol_table.specs.declared.fields.RecordField.{RecordField}
use Rattle.symbol_table.specs.declared.target.Target.{Target}
use Rattle.symbol_table.specs.declared.target.Target.TheVariants as target
use Rattle.symbol_table.specs.Fields.{fields_of, meets}
use Rattle.symbol_table.specs.Prologue.{word_in, has_recognised_prologue, has_two_entries, has_some_form}
use Rattle.symbol_table.specs.Records.{may_call, records_refusal}
use Rattle.symbol_table.specs.Sites.{is_relative}
use Rattle.symbol_table.specs.Text.{text_sections, text_index}
use Rattle.symbol_table.specs.laws.Prologue.{IsInside, two_entries_inside}
use Rattle.symbol_table.specs.laws.Records.{IsSoundRecord, records_sound}
use Rattle.symbol_table.specs.laws.Text.{text_index_within}
use Rattle.call_sites.specs.declared.class.Callee.{Callee}
use Rattle.call_sites.specs.declared.class.Linkage.{Linkage}
use Rattle.call_sites.specs.declared.class.Linkage.TheVariants.{WithToc, WithoutToc}
use Rattle.call_sites.specs.declared.site.CallSite.{CallSite}
use Rattle.call_sites.specs.Classes.{entry_offset}
use Rattle.call_sites.specs.Refusals.{section_size}
use Rattle.call_sites.specs.Sites.{text_section, no_section, is_link, has_slot, callee_of, call_to, call_target, call_site}
use Rattle.call_sites.specs.inside.Calls.{IsCall}
use Rattle.call_sites.specs.laws.CodePlaces.{IsCodePlace, code_place}
use Rattle.call_sites.specs.laws.SoundCalls.{IsSoundCall, call_sound}
use Rattle.call_sites.specs.laws.TextSections.{at_get, section_there}

-- the word behind a call at an offset of a section of a file is a restore slot
pub record IsSlot (file : ℕ) (b : List ℕ) (section offset : ℕ) : Type 0 where
  pub link : is_link b section offset ≡ true
  pub within : offset + 8 ≤ sh_size b section
  pub is_nop : word_in b section (offset + 4) ≡ nop
  pub free : list_any (meets section (offset + 4) 4) (fields_of file b) ≡ false

-- an instruction's place in text
pub record IsInstruction (files : List (List ℕ)) (k offset : ℕ) : Type 0 where
  pub number : k < length (text_sections files)
  pub within : offset < section_size files (text_section files k)
  pub whole : offset % 4 ≡ 0

-- a call site: the field of its record, where it stands, its word, where it goes and its slot
pub record IsSoundSite (files : List (List ℕ)) (groups : List ℕ) (site : CallSite) : Type 0 where
  pub field : RecordField
  pub call : IsCall files field
  pub is : site ≡ call_site files groups field
  pub record_sound : IsSoundRecord files field.id
  pub section : text_section files site.section ≡ record { file = field.id.file; section = field.id.section }
  pub stands : IsInstruction files site.section site.offset
  pub branch : is_relative 18 (word_in (file_at files field.id.file) field.id.section site.offset) ≡ true
  pub goes : (class : Class) → site.class ≡ Some class → IsInstruction files site.to_section site.to_offset
  pub slot : site.slot ≡ true → IsSlot field.id.file (file_at files field.id.file) field.id.section site.offset

not_true : (p : Bool) → not p ≡ true → p ≡ false
not_true true none = cc
not_true false none = refl

slot_is : (file : ℕ) (b : List ℕ) (section offset : ℕ) → has_slot file b section offset ≡ true → IsSlot file b section offset
slot_is file b section offset has =
    let link = is_link b section offset in
    let within = nat_le (offset + 8) (sh_size b section) in
    let word = word_in b section (offset + 4) == nop in
    let met = list_any (meets section (offset + 4) 4) (fields_of file b) in
    let last = and_parts (link && within && word) (not met) has in
    let third = and_parts (link && within) word last.0 in
    let first = and_parts link within third.0 in
    let in_section = first.1 in
    let is_word = third.1 in
    record {
      link = first.0;
      within = grind (arith, nat_tests, in_section);
      is_nop = grind (arith, nat_tests, is_word);
      free = not_true met last.1;
    }

-- a recognised prologue lies in its section
recognised_inside : (files : List (List ℕ)) (file section at : ℕ) → set_refusal files ≡ None → file < length files →
    section < e_shnum (file_at files file) → has_recognised_prologue file (file_at files file) section at ≡ true →
    IsInside (file_at files file) section at
unfolding has_recognised_prologue
recognised_inside files file section at whole file_in within is =
    let b = file_at files file in
    let all = and_parts (is_text b section && has_two_entries b section at) (has_some_form file b section at) is in
    let first = and_parts (is_text b section) (has_two_entries b section at) all.0 in
    two_entries_inside files file section at whole file_in within first.0 first.1

-- a call enters at its place, or past the prologue there
entry_case : (linkage : Linkage) (callee : Callee) (many recognised : Bool) → nat_le 2 callee.entries ≡ many →
    callee.recognised ≡ recognised →
    (entry_offset linkage callee ≡ 0) ⊎ ((entry_offset linkage callee ≡ 8) × (callee.recognised ≡ true))
entry_case WithToc callee true true lots known =
    inr (ap (λ (t : Bool). if t then (if callee.recognised then 8 else 0) else 0) lots ∙ ap (λ (t : Bool). if t then 8 else 0) known, known)
entry_case WithToc callee true false lots known =
    inl (ap (λ (t : Bool). if t then (if callee.recognised then 8 else 0) else 0) lots ∙ ap (λ (t : Bool). if t then 8 else 0) known)
entry_case WithToc callee false recognised lots known =
    inl (ap (λ (t : Bool). if t then (if callee.recognised then 8 else 0) else 0) lots)
entry_case WithoutToc callee many recognised lots known = inl refl

entered : (files : List (List ℕ)) (groups : List ℕ) (f : RecordField) (k offset : ℕ) (linkage : Linkage) → set_refusal files ≡ None →
    (s : SectionId) → IsCodePlace files k offset s →
    IsInstruction files k (offset + entry_offset linkage (callee_of files groups f k offset))
entered files groups f k offset linkage whole s place =
    let callee = callee_of files groups f k offset in
    let here : text_section files k ≡ s = at_get (text_sections files) k s no_section place.found in
    let size = ap (section_size files) here in
    elim (entry_case linkage callee (nat_le 2 callee.entries) callee.recognised refl refl) [
      | inl none ↦ record {
        number = place.number;
        within = omega (arith, none, size, place.within);
        whole =
            (let same : offset + entry_offset linkage callee ≡ offset = omega (arith, none) in
            ap (λ (n : ℕ). n % 4) same ∙ place.aligned);
      }
      | inr eight ↦ (
          let known : has_recognised_prologue s.file (file_at files s.file) s.section offset ≡ true =
          subst (λ (t : SectionId). has_recognised_prologue t.file (file_at files t.file) t.section offset ≡ true) here eight.1 in
          let inside = recognised_inside files s.file s.section offset whole place.lies.file_in place.lies.within known in
          record {
            number = place.number;
            within = omega (arith, eight.0, size, inside.within);
            whole = omega (arith, eight.0, place.aligned);
          })
    ]

-- what the site of a call has, by where the call goes
goes_case : (files : List (List ℕ)) (groups : List ℕ) (f : RecordField) (t : Target) → set_refusal files ≡ None →
    may_call files t ≡ true → (class : Class) →
    (call_to files groups f (Some t)).class ≡ Some class →
    IsInstruction files (call_to files groups f (Some t)).to_section (call_to files groups f (Some t)).to_offset
goes_case files groups f (target.Code k offset) whole may class is =
    let place = code_place files k offset whole may in
    entered files groups f k offset _ whole place.0 place.1
goes_case files groups f (target.Data piece addend) whole may class is = cc
goes_case files groups f (target.Number n) whole may class is = cc
goes_case files groups f (target.TocBase file addend) whole may class is = cc
goes_case files groups f (target.WeakNone addend) whole may class is = cc

-- the rest is the same wherever it goes
pub record StandsAs (files : List (List ℕ)) (f : RecordField) (site : CallSite) : Type 0 where
  pub section : site.section ≡ text_index files f.id.file f.id.section
  pub offset : site.offset ≡ f.start
  pub slot : site.slot ≡ has_slot f.id.file (file_at files f.id.file) f.id.section f.start

stands_case : (files : List (List ℕ)) (groups : List ℕ) (f : RecordField) (t : Target) → StandsAs files f (call_to files groups f (Some t))
stands_case files groups f (target.Code k offset) = record { section = refl; offset = refl; slot = refl }
stands_case files groups f (target.Data piece addend) = record { section = refl; offset = refl; slot = refl }
stands_case files groups f (target.Number n) = record { section = refl; offset = refl; slot = refl }
stands_case files groups f (target.TocBase file addend) = record { section = refl; offset = refl; slot = refl }
stands_case files groups f (target.WeakNone addend) = record { section = refl; offset = refl; slot = refl }

sound_case : (files : List (List ℕ)) (groups : List ℕ) (f : RecordField) (t : Target) → set_refusal files ≡ None →
    records_refusal files ≡ None → IsCall files f → IsSoundCall files f → may_call files t ≡ true →
    call_site files groups f ≡ call_to files groups f (Some t) → (site : CallSite) → site ≡ call_to files groups f (Some t) →
    IsSoundSite files groups site
sound_case files groups f t whole none call sound may is site same =
    let b = file_at files f.id.file in
    let to = call_to files groups f (Some t) in
    let stands = stands_case files groups f t in
    let own : SectionId = record { file = f.id.file; section = f.id.section } in
    let index = ap (λ (s : CallSite). s.section) same ∙ stands.section in
    let offset = ap (λ (s : CallSite). s.offset) same ∙ stands.offset in
    let here : text_section files site.section ≡ own =
    ap (text_section files) index ∙ section_there files f.id.file f.id.section sound.file_in sound.section_in sound.text in
    let size = ap (section_size files) here in
    record {
      field = f;
      call = call;
      is = same ∙ sym is;
      record_sound = records_sound files f.id none call.record_in;
      section = here;
      stands = record {
        number = omega (arith, index, text_index_within files f.id.file f.id.section sound.file_in sound.section_in sound.text);
        within = omega (arith, offset, size, sound.within);
        whole = ap (λ (n : ℕ). n % 4) offset ∙ sound.aligned;
      };
      branch = ap (λ (n : ℕ). is_relative 18 (word_in b f.id.section n)) offset ∙ sound.branch;
      goes = λ class is_class.
          subst (λ (s : CallSite). IsInstruction files s.to_section s.to_offset) (sym same)
          (goes_case files groups f t whole may class (ap (λ (s : CallSite). s.class) (sym same) ∙ is_class));
      slot = λ has.
          subst (λ (n : ℕ). IsSlot f.id.file b f.id.section n) (sym offset)
          (slot_is f.id.file b f.id.section f.start (sym stands.slot ∙ ap (λ (s : CallSite). s.slot) (sym same) ∙ has));
    }

-- the site of a call
pub site_sound : (files : List (List ℕ)) (groups : List ℕ) (f : RecordField) → set_refusal files ≡ None → records_refusal files ≡ None →
    IsCall files f →
    IsSoundSite files groups (call_site files groups f)
unfolding call_site
site_sound files groups f whole none call =
    let sound = call_sound files f whole none call in
    let goes = sound.goes in
    let is : call_site files groups f ≡ call_to files groups f (Some goes.0) = ap (call_to files groups f) goes.1.is in
    sound_case files groups f goes.0 whole none call sound goes.1.may is (call_site files groups f) is

stands_any : (files : List (List ℕ)) (groups : List ℕ) (f : RecordField) (o : Option Target) → StandsAs files f (call_to files groups f o)
stands_any files groups f (Some t) = stands_case files groups f t
stands_any files groups f None = record { section = refl; offset = refl; slot = refl }

-- the site of a call stands where its field does
pub site_stands : (files : List (List ℕ)) (groups : List ℕ) (f : RecordField) → StandsAs files f (call_site files groups f)
unfolding call_site
site_stands files groups f = stands_any files groups f (call_target files f)
