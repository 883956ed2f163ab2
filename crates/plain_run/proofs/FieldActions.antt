-- What words do with which the fields of records begin.
use Rattle.std.proofs.Common.{◌≡◌, ◌≤◌, ◌+◌, ◌%◌, ◌^◌, ℕ, Bool, true, false, ◌&&◌, List, Option, None, Some, is_some, sym, ap, ◌∙◌, subst, refl, arith, if◌then◌else◌}
use Rattle.std.specs.Prelude.{IfSome, IfNone}
use Rattle.elf64_records.specs.Sections.{sh_size}
use Rattle.object_set.specs.declared.places.RecordId.{RecordId}
use Rattle.object_set.specs.declared.places.SectionId.{SectionId}
use Rattle.object_set.specs.Files.{file_at}
use Rattle.object_set.specs.Refusals.{set_refusal}
use Rattle.object_set.specs.Walks.{IsRecord}
use Rattle.reloc_fields.specs.declared.kind.Kind.{Kind}
use Rattle.reloc_fields.specs.declared.kind.Kind.TheVariants as kinds
use Rattle.reloc_fields.specs.Table.{line_of}
use Rattle.symbol_table.specs.declared.target.Target.{Target}
use Rattle.symbol_table.specs.Records.{records_refusal}
use Rattle.symbol_table.specs.laws.FilteredLists.{list_any-filter}
use Rattle.call_sites.specs.declared.site.CallSite.{CallSite}
use Rattle.call_sites.specs.laws.TextFacts.{text_fit}
use Rattle.toc_groups.specs.Plans.{LaidData}
use Rattle.toc_groups.proofs.RecordValues.{sound_field}
use Rattle.toc_rewrite.specs.Folded.{FoldedSlots}
use Rattle.toc_rewrite.specs.Folds.{fills_foldable}
use Rattle.toc_rewrite.specs.Records.{record_target, record_number, all_records}
use Rattle.toc_rewrite.specs.Uses.{is_toc_load}
use Rattle.toc_rewrite.specs.Words.{suits}
use Rattle.toc_rewrite.specs.laws.Entries.{record_passes}
use Rattle.pcrel_rewrite.specs.declared.text_pairs.TextPair.{TextPair}
use Rattle.plain_machine.specs.declared.action.Action.{Action}
use Rattle.plain_machine.specs.declared.action.Effect.{Effect}
use Rattle.plain_machine.specs.declared.action.Need.{Need}
use Rattle.plain_machine.specs.declared.place.TextPlace.{TextPlace}
use Rattle.plain_machine.specs.declared.value.Part.{Part as PartOf}
use Rattle.plain_machine.specs.declared.value.PlainValue.{PlainValue}
use Rattle.plain_machine.specs.declared.value.PlainValue.TheVariants.{Part}
use Rattle.plain_machine.specs.Plain.{place_ahead}
use Rattle.plain_run.specs.declared.role.FieldRole.{FieldRole}
use Rattle.plain_run.specs.declared.role.FieldRole.TheVariants as role
use Rattle.plain_run.specs.Effects.{does}
use Rattle.plain_run.specs.Places.{laid, record_goal, head_goal, has_foldable, names_foldable, begins_at, BeginsAt, NamesSlot, role_at, place_of_value, toc_need, toc_part, gives, toc_high_action, IsRoleAction}
use Rattle.plain_run.specs.Roles.{role_of, is_place, is_lis, is_addi, plain_role}
use Rattle.plain_run.specs.Standing.{field_at, is_word, word_at}
use Rattle.plain_run.specs.Jobs.{PlainJob}
use Rattle.plain_run.specs.inside.Text.{IsFieldAt, IsLoadRecord, IsOfJob}
use Rattle.plain_run.proofs.TextWords.{word_is, is_word_at}

-- ---- loads of pairs

pub load_goal : (files : List (List ℕ)) (plan : LaidData) (p : TextPlace) (o : Option RecordId) (r : RecordId) → o ≡ Some r →
    IsLoadRecord files p o → record_goal files plan r ≡ head_goal files plan (field_at files p)
load_goal files plan p o r is told =
    let load = subst (IsLoadRecord files p) is told in
    sym (ap (head_goal files plan) load.0)

pub has_load : (files : List (List ℕ)) (p : TextPlace) (o : Option RecordId) → o ≡ None → IsLoadRecord files p o → ⊥
has_load files p o is told = subst (IsLoadRecord files p) is told

-- ---- the slot that a record names

module _ (files : List (List ℕ)) (plan : LaidData) (r : RecordId) where
  begun_case : (o : Option ℕ) (s : RecordId) → IsRecord files s → fills_foldable (laid files plan) s ≡ true →
      BeginsAt files plan r.file s o → has_foldable files plan r.file o ≡ true
  begun_case None s there folds begins = absurd begins
  begun_case (Some number) s there folds begins =
      let test = begins_at files plan r.file number in
      list_any-filter (fills_foldable (laid files plan)) test (all_records files)
      ∙ record_passes (λ q. fills_foldable (laid files plan) q && test q) files s there
      (ap (λ (b : Bool). b && test s) folds ∙ begins)

  pub slot_named : (o : Option RecordId) → IfSome o (NamesSlot files plan r) →
      IfNone o (names_foldable files plan r ≡ false) → is_some o ≡ names_foldable files plan r
  slot_named None some none = sym none
  slot_named (Some s) some none =
      sym (begun_case (record_number (laid files plan) r) s some.there some.foldable some.begins)

-- ---- the second word of a field of eight bytes

pub second_word : (files : List (List ℕ)) (p : TextPlace) (r : RecordId) (kind : Kind) → set_refusal files ≡ None →
    records_refusal files ≡ None → is_word files p ≡ true → IsFieldAt files p r kind → (line_of kind).width ≡ 8 →
    is_word files (place_ahead p 4) ≡ true
second_word files p r kind whole records is field width =
    let word = word_is files p is in
    let fourth = word.fourth in
    let sound = sound_field files r kind records field.there field.kind_is field.fills in
    let within = sound.within in
    let offset = field.offset_is in
    let fit = text_fit files p.section word.place whole word.found in
    let small = fit.small in
    let same : sh_size (file_at files word.place.file) word.place.section ≡ sh_size (file_at files r.file) r.section =
    ap (λ (s : SectionId). sh_size (file_at files s.file) s.section) (sym word.own ∙ field.section_is) in
    let low : p.offset + 8 ≤ sh_size (file_at files word.place.file) word.place.section = omega (arith, within, offset, width, same) in
    let next : (p.offset + 4) % 2 ^ 64 ≡ p.offset + 4 = omega (arith, low, small) in
    is_word_at files (place_ahead p 4) word.place word.found (omega (arith, low, next)) (omega (arith, next, fourth))

pub job_second : (inside job : PlainJob) (sites : List CallSite) (folds : FoldedSlots) (p : TextPlace) (r : RecordId) (kind : Kind) →
    IsOfJob inside sites folds → inside ≡ job → is_word job.files p ≡ true → IsFieldAt job.files p r kind → (line_of kind).width ≡ 8 →
    is_word job.files (place_ahead p 4) ≡ true
job_second inside job sites folds p r kind is same word field width =
    let this : IsOfJob job sites folds = subst (λ (j : PlainJob). IsOfJob j sites folds) same is in
    second_word job.files p r kind this.whole this.records word field width

-- ---- which kinds have a role

-- a prefixed instruction's field has eight bytes
abbrev IsLong : Kind → FieldRole → Type 0
IsLong kind role.PairAddress = (line_of kind).width ≡ 8
IsLong kind role.SlotAddress = (line_of kind).width ≡ 8
IsLong kind other = Unit {0}

-- a load from a slot is one of a record that names it
abbrev IsOfSlot : Bool → FieldRole → Type 0
IsOfSlot named role.TocSlot = named ≡ true
IsOfSlot named other = Unit {0}

-- a role of a record as it can be
record IsRole (kind : Kind) (named : Bool) (x : FieldRole) : Type 0 where
  long : IsLong kind x
  slot : IsOfSlot named x

plain_case : (kind : Kind) (named place : Bool) → IsRole kind named (if place then role.Moving else role.Fixed)
plain_case kind named true = record { long = tt; slot = tt }
plain_case kind named false = record { long = tt; slot = tt }

either_case : (kind : Kind) (named on : Bool) (x y : FieldRole) → IsRole kind named x → IsRole kind named y →
    IsRole kind named (if on then x else y)
either_case kind named true x y one other = one
either_case kind named false x y one other = other

slot_case : (kind : Kind) (named load : Bool) (y : FieldRole) → IsRole kind named y →
    IsRole kind named (if load && named then role.TocSlot else y)
slot_case kind true true y other = record { long = tt; slot = refl }
slot_case kind false true y other = other
slot_case kind named false y other = other

module _ (word : ℕ) (t : Option Target) (named : Bool) where
  plain : (kind : Kind) → IsRole kind named (plain_role t)
  plain kind = plain_case kind named (is_place t)

  simple : (kind : Kind) (x : FieldRole) → IsLong kind x → IsOfSlot named x → IsRole kind named x
  simple kind x long slot = record { long = long; slot = slot }

  role_is : (kind : Kind) → IsRole kind named (role_of kind word t named)
  role_is = elim [
    | kinds.Addr32 ↦ simple kinds.Addr32 role.Barred tt tt
    | kinds.Rel32 ↦ simple kinds.Rel32 role.Barred tt tt
    | kinds.Addr64 ↦ simple kinds.Addr64 role.Barred tt tt
    | kinds.Pcrel34 ↦ simple kinds.Pcrel34 role.PairAddress refl tt
    | kinds.GotPcrel34 ↦ simple kinds.GotPcrel34 role.SlotAddress refl tt
    | kinds.Rel14 ↦ simple kinds.Rel14 role.Fixed tt tt
    | kinds.Rel16Lo ↦ simple kinds.Rel16Lo role.Moving tt tt
    | kinds.Rel16Ha ↦ simple kinds.Rel16Ha role.Moving tt tt
    | kinds.Addr16Ha ↦ either_case kinds.Addr16Ha named (is_place t && is_lis word) role.PlaceAdjusted (plain_role t)
        (simple kinds.Addr16Ha role.PlaceAdjusted tt tt) (plain kinds.Addr16Ha)
    | kinds.Addr16Hi ↦ either_case kinds.Addr16Hi named (is_place t && is_lis word) role.PlaceHigh (plain_role t)
        (simple kinds.Addr16Hi role.PlaceHigh tt tt) (plain kinds.Addr16Hi)
    | kinds.Addr16Lo ↦ either_case kinds.Addr16Lo named (is_place t) _ role.Fixed
        (either_case kinds.Addr16Lo named (is_addi word) role.PlaceSum _ (simple kinds.Addr16Lo role.PlaceSum tt tt)
        (either_case kinds.Addr16Lo named _ role.PlaceOr role.Moving (simple kinds.Addr16Lo role.PlaceOr tt tt)
        (simple kinds.Addr16Lo role.Moving tt tt))) (simple kinds.Addr16Lo role.Fixed tt tt)
    | kinds.Toc16Ha ↦ either_case kinds.Toc16Ha named (suits kinds.Toc16Ha word) role.TocHigh (plain_role t)
        (simple kinds.Toc16Ha role.TocHigh tt tt) (plain kinds.Toc16Ha)
    | kinds.Toc16Lo ↦ either_case kinds.Toc16Lo named (suits kinds.Toc16Lo word) role.TocLow (plain_role t)
        (simple kinds.Toc16Lo role.TocLow tt tt) (plain kinds.Toc16Lo)
    | kinds.Toc16LoDs ↦ either_case kinds.Toc16LoDs named (suits kinds.Toc16LoDs word) role.TocLow (plain_role t)
        (simple kinds.Toc16LoDs role.TocLow tt tt) (plain kinds.Toc16LoDs)
    | kinds.Toc16Ds ↦ slot_case kinds.Toc16Ds named (is_toc_load word) (plain_role t) (plain kinds.Toc16Ds)
    | kinds.None ↦ plain kinds.None
    | kinds.Addr16 ↦ plain kinds.Addr16
    | kinds.Rel24 ↦ plain kinds.Rel24
    | kinds.Rel64 ↦ plain kinds.Rel64
    | kinds.Toc16 ↦ plain kinds.Toc16
    | kinds.Toc16Hi ↦ plain kinds.Toc16Hi
    | kinds.Toc ↦ plain kinds.Toc
    | kinds.Addr16Ds ↦ plain kinds.Addr16Ds
    | kinds.Addr16LoDs ↦ plain kinds.Addr16LoDs
    | kinds.Tocsave ↦ plain kinds.Tocsave
    | kinds.Rel24Notoc ↦ plain kinds.Rel24Notoc
    | kinds.PcrelOpt ↦ plain kinds.PcrelOpt
  ]

  pub pair_long : (kind : Kind) → role_of kind word t named ≡ role.PairAddress → (line_of kind).width ≡ 8
  pair_long kind is = (subst (IsRole kind named) is (role_is kind)).long

  pub slot_long : (kind : Kind) → role_of kind word t named ≡ role.SlotAddress → (line_of kind).width ≡ 8
  slot_long kind is = (subst (IsRole kind named) is (role_is kind)).long

  pub slot_is_named : (kind : Kind) → role_of kind word t named ≡ role.TocSlot → named ≡ true
  slot_is_named kind is = (subst (IsRole kind named) is (role_is kind)).slot

-- the role by what is read is that of the record
pub role_read : (files : List (List ℕ)) (plan : LaidData) (p : TextPlace) (r : RecordId) (kind : Kind) (word : ℕ) (t : Option Target)
    (named : Bool) → word ≡ word_at files p → t ≡ record_target files r → named ≡ names_foldable files plan r →
    role_of kind word t named ≡ role_at files plan p r kind
role_read files plan p r kind word t named read goes names =
    ap (λ (w : ℕ). role_of kind w t named) read
    ∙ ap (λ (o : Option Target). role_of kind (word_at files p) o named) goes
    ∙ ap (role_of kind (word_at files p) (record_target files r)) names

-- ---- what is made of what a role asks for

pub by_role : (files : List (List ℕ)) (plan : LaidData) (pairs : List TextPair) (p : TextPlace) (r : RecordId) (kind : Kind)
    (x y : FieldRole) (a : Action) → x ≡ y → x ≡ role_at files plan p r kind → IsRoleAction files plan pairs p r kind y a →
    IsRoleAction files plan pairs p r kind (role_at files plan p r kind) a
by_role files plan pairs p r kind x y a is at does_it =
    subst (λ (z : FieldRole). IsRoleAction files plan pairs p r kind z a) (sym is ∙ at) does_it

pub high_made : (files : List (List ℕ)) (plan : LaidData) (p : TextPlace) (r : RecordId) (kind : Kind) (v : PlainValue) (a : Action) →
    a.first ≡ toc_need files plan r.file → a.second ≡ None → a.effect ≡ gives files plan p v → v ≡ toc_part files plan r kind →
    a ≡ toc_high_action files plan p r kind
high_made files plan p r kind v a first second effect value =
    ap (λ (n : Option Need). record { first = n; second = a.second; effect = a.effect }) first
    ∙ ap (λ (n : Option Need). record { first = toc_need files plan r.file; second = n; effect = a.effect }) second
    ∙ ap (λ (e : Effect). record { first = toc_need files plan r.file; second = None; effect = e })
    (effect ∙ ap (gives files plan p) value)

pub half_given : (files : List (List ℕ)) (plan : LaidData) (p : TextPlace) (r : RecordId) (part : TextPlace → PartOf) (v : PlainValue)
    (q : TextPlace) (e : Effect) (a : Action) → v ≡ record_goal files plan r → q ≡ place_of_value v →
    e ≡ gives files plan p (Part (part q)) → a ≡ does e →
    a ≡ does (gives files plan p (Part (part (place_of_value (record_goal files plan r)))))
half_given files plan p r part v q e a goes place effect is =
    is ∙ ap does (effect ∙ ap (λ (s : TextPlace). gives files plan p (Part (part s))) (place ∙ ap place_of_value goes))

pub role_told : (files : List (List ℕ)) (plan : LaidData) (p : TextPlace) (r : RecordId) (kind : Kind) (word : ℕ) (t : Option Target)
    (slot : Option RecordId) (named : Bool) (x : FieldRole) → word ≡ word_at files p → t ≡ record_target files r →
    IfSome slot (NamesSlot files plan r) → IfNone slot (names_foldable files plan r ≡ false) → named ≡ is_some slot →
    x ≡ role_of kind word t named → x ≡ role_at files plan p r kind
role_told files plan p r kind word t slot named x read goes some none names is =
    is ∙ role_read files plan p r kind word t named read goes (names ∙ slot_named files plan r slot some none)
