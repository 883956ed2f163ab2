-- Parts of addresses, words with filled fields, and the slots that records name.
use Rattle.std.proofs.Common.{◌≡◌, ◌<◌, ℕ, ℤ, Bool, true, false, List, Option, None, Some, sym, ap, ◌∙◌, subst, refl, arith, to_z, of_z, w64}
use Rattle.std.proofs.lemmas.Bool.Decides.{nat_tests}
use Rattle.std.proofs.lemmas.Int.{ints, to_z-of_z}
use Rattle.object_set.specs.declared.places.RecordId.{RecordId}
use Rattle.object_set.specs.declared.sort.Sort.{Sort}
use Rattle.object_set.specs.declared.sort.Sort.TheVariants.{Text}
use Rattle.object_set.specs.Files.{file_at}
use Rattle.object_set.specs.Refusals.{set_refusal}
use Rattle.object_set.specs.Sections.{sort_of}
use Rattle.ppc_bytes.specs.Bytes.{InSigned}
use Rattle.ppc_bytes.specs.Halves.{whole_ha}
use Rattle.reloc_fields.specs.declared.kind.Kind.{Kind}
use Rattle.reloc_fields.specs.declared.kind.Kind.TheVariants as kinds
use Rattle.reloc_fields.specs.Table.{line_of, Passes}
use Rattle.symbol_table.specs.declared.target.Target.{Target}
use Rattle.symbol_table.specs.Records.{looks_at_symbol, records_refusal}
use Rattle.symbol_table.specs.Sites.{rule_of, admits}
use Rattle.symbol_table.specs.laws.Sections.{text_sort}
use Rattle.call_sites.specs.declared.site.CallSite.{CallSite}
use Rattle.toc_groups.specs.Parts.{IsTargetOf}
use Rattle.toc_groups.specs.Plans.{LaidData, IsPlan, address_in}
use Rattle.toc_groups.proofs.RecordValues.{sound_field}
use Rattle.toc_rewrite.specs.declared.found.Slot.{Slot}
use Rattle.toc_rewrite.specs.Folded.{FoldedSlots, AreFolds, IsNamed}
use Rattle.toc_rewrite.specs.Records.{record_target, number_in}
use Rattle.toc_rewrite.specs.laws.Slots.{named_slot, none_named}
use Rattle.plain_machine.specs.declared.place.TextPlace.{TextPlace}
use Rattle.plain_machine.specs.declared.value.Part.TheVariants as part
use Rattle.plain_machine.specs.declared.value.PlainValue.{PlainValue}
use Rattle.plain_machine.specs.declared.value.PlainValue.TheVariants.{Number, Code, Part, Pair, Difference, Junk}
use Rattle.plain_run.specs.declared.role.FieldRole.TheVariants as role
use Rattle.plain_run.specs.Places.{laid, record_goal, goal_of, high_of, fixed_value, toc_part, has_foldable, names_foldable, role_at, begins_at, BeginsAt, NamesSlot}
use Rattle.plain_run.specs.Roles.{role_of}
use Rattle.plain_run.specs.Standing.{word_at}
use Rattle.plain_run.specs.Jobs.{PlainJob}
use Rattle.plain_run.specs.inside.Text.{IsFieldAt, IsOfJob}
use Rattle.plain_run.proofs.FieldValues.{field_text, number_told, shifted_half, half_is, half_near}

-- ---- high halves of addresses less the TOC base

-- of no other value than a number one is known
pub no_half : (files : List (List ℕ)) (plan : LaidData) (v : PlainValue) (x : ℤ) → ((n : ℕ) → v ≡ Number n → ⊥) →
    None ≡ high_of files plan v x
no_half files plan (Number n) x other = absurd (other n refl)
no_half files plan (Code p) x other = refl
no_half files plan (Part a) x other = refl
no_half files plan (Pair p) x other = refl
no_half files plan (Difference p n) x other = refl
no_half files plan Junk x other = refl

-- of a number it is
pub known_half : (files : List (List ℕ)) (plan : LaidData) (v : PlainValue) (n : ℕ) (x own : ℤ) (high : Option ℤ) → v ≡ Number n →
    InSigned 68 x → x ≡ own → high ≡ Some (to_z w64 (of_z w64 (shifted_half x))) → high ≡ high_of files plan v own
known_half files plan v n x own high is near same made =
    let half = half_near x near in
    let low = half.low in
    let less = half.high in
    let kept : to_z w64 (of_z w64 (whole_ha x)) ≡ whole_ha x = to_z-of_z w64 (whole_ha x) (omega (arith, ints, low, less)) in
    made ∙ ap (λ (z : ℤ). Some (to_z w64 (of_z w64 z))) (half_is x near) ∙ ap (λ (z : ℤ). Some z) kept
    ∙ ap (λ (z : ℤ). Some (whole_ha z)) same ∙ ap (λ (w : PlainValue). high_of files plan w own) (sym is)

pub part_made : (files : List (List ℕ)) (plan : LaidData) (r : RecordId) (kind : Kind) (v : PlainValue) (high : Option ℤ) →
    v ≡ record_goal files plan r → high ≡ high_of files plan v (fixed_value files plan r kind) →
    Part (part.Toc r.file (goal_of files plan v) high) ≡ toc_part files plan r kind
part_made files plan r kind v high goes half =
    ap (λ (h : Option ℤ). Part (part.Toc r.file (goal_of files plan v) h)) half
    ∙ ap (λ (w : PlainValue). Part (part.Toc r.file (goal_of files plan w) (high_of files plan w (fixed_value files plan r kind)))) goes

-- ---- words whose fields are filled with numbers

-- the field is the word, and its value is made of its record's symbol
pub record IsWordField (kind : Kind) : Type 0 where
  pub width : (line_of kind).width ≡ 4
  pub looks : looks_at_symbol kind ≡ true

pub word_field : (kind : Kind) (word : ℕ) (t : Option Target) (named : Bool) → role_of kind word t named ≡ role.Fixed →
    admits (rule_of kind).stand Text ≡ true → 0 < (line_of kind).width → IsWordField kind
word_field = elim [
  | kinds.None ↦ λ word t named fixed stands fills. absurd (omega (arith, fills))
  | kinds.Tocsave ↦ λ word t named fixed stands fills. absurd (omega (arith, fills))
  | kinds.PcrelOpt ↦ λ word t named fixed stands fills. absurd (omega (arith, fills))
  | kinds.Addr64 ↦ λ word t named fixed stands fills. cc
  | kinds.Pcrel34 ↦ λ word t named fixed stands fills. cc
  | kinds.GotPcrel34 ↦ λ word t named fixed stands fills. cc
  | kinds.Rel64 ↦ λ word t named fixed stands fills. cc
  | kinds.Toc ↦ λ word t named fixed stands fills. cc
  | _ ↦ λ word t named fixed stands fills. record { width = refl; looks = refl }
]

-- a field in text stands where its kind may
pub field_stands : (files : List (List ℕ)) (p : TextPlace) (r : RecordId) (kind : Kind) → set_refusal files ≡ None →
    records_refusal files ≡ None → IsFieldAt files p r kind → admits (rule_of kind).stand Text ≡ true
field_stands files p r kind whole records field =
    let b = file_at files r.file in
    subst (λ (s : Sort). admits (rule_of kind).stand s ≡ true) (text_sort (sort_of b r.section) (field_text files p r kind whole field))
    (sound_field files r kind records field.there field.kind_is field.fills).stands

-- a field of a job that holds its number
pub record IsHeldField (files : List (List ℕ)) (plan : LaidData) (r : RecordId) (kind : Kind) : Type 0 where
  pub word : IsWordField kind
  pub holds : Passes (line_of kind).check (fixed_value files plan r kind)

pub held_field : (inside job : PlainJob) (sites : List CallSite) (folds : FoldedSlots) (p : TextPlace) (r : RecordId) (kind : Kind) →
    IsOfJob inside sites folds → inside ≡ job → IsFieldAt job.files p r kind → role_at job.files job.plan p r kind ≡ role.Fixed →
    IsHeldField job.files job.plan r kind
held_field inside job sites folds p r kind is same field fixed =
    let this : IsOfJob job sites folds = subst (λ (j : PlainJob). IsOfJob j sites folds) same is in
    record {
      word = word_field kind (word_at job.files p) (record_target job.files r) (names_foldable job.files job.plan r) fixed
          (field_stands job.files p r kind this.whole this.records field) field.fills;
      holds = this.fixed p r kind field fixed;
    }

-- ---- slots that records name

pub goes_nowhere : (files : List (List ℕ)) (plan : LaidData) (r : RecordId) → None ≡ record_target files r →
    names_foldable files plan r ≡ false
goes_nowhere files plan r goes = ap (λ (t : Option Target). has_foldable files plan r.file (number_in (laid files plan) t)) (sym goes)

module _ (files : List (List ℕ)) (plan : LaidData) (is : IsPlan files plan.span plan) (f : FoldedSlots) (are : AreFolds (laid files plan) f)
    (r : RecordId) (t : Target) (goes : Some t ≡ record_target files r) (there : IsTargetOf files t) where
  pub no_number : None ≡ address_in plan t → names_foldable files plan r ≡ false
  no_number read = ap (has_foldable files plan r.file) (number_told files plan is r t None goes there read)

  pub no_slot : (number : ℕ) → Some number ≡ address_in plan t → IsNamed f r.file number None → names_foldable files plan r ≡ false
  no_slot number read none =
      ap (has_foldable files plan r.file) (number_told files plan is r t (Some number) goes there read)
      ∙ none_named (laid files plan) f r.file number are none

  pub the_slot : (number : ℕ) (s : Slot) → Some number ≡ address_in plan t → IsNamed f r.file number (Some s) → NamesSlot files plan r s.id
  the_slot number s read named =
      let slot = named_slot (laid files plan) f r.file number s are named in
      let file = slot.file_is in
      let begins = slot.begins in
      let here : begins_at files plan r.file number s.id ≡ true = grind (arith, nat_tests, file, begins) in
      record {
        there = slot.within;
        foldable = slot.folds;
        begins = subst (BeginsAt files plan r.file s.id) (sym (number_told files plan is r t (Some number) goes there read)) here;
      }
