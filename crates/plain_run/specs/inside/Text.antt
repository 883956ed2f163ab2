-- What is known of the text of a job while it is run.
use Rattle.std.specs.Prelude.{◌≡◌, ◌<◌, ◌≤◌, ℕ, true, false, List, Option, Some, None, is_some}
use Rattle.std.specs.List.{Contains}
use Rattle.elf64_records.specs.Records.{rela_of}
use Rattle.object_set.specs.declared.places.RecordId.{RecordId}
use Rattle.object_set.specs.Files.{file_at}
use Rattle.object_set.specs.Refusals.{set_refusal}
use Rattle.object_set.specs.Walks.{IsRecord}
use Rattle.reloc_fields.specs.declared.kind.Kind.{Kind}
use Rattle.reloc_fields.specs.declared.kind.Kind.TheVariants.{GotPcrel34}
use Rattle.reloc_fields.specs.Table.{line_of, Passes}
use Rattle.symbol_table.specs.Fields.{kind_numbered, field_of}
use Rattle.symbol_table.specs.Records.{records_refusal}
use Rattle.symbol_table.specs.inside.Fields.{FileOf}
use Rattle.call_sites.specs.declared.site.CallSite.{CallSite}
use Rattle.call_sites.specs.inside.Ready.{files_of}
use Rattle.call_sites.specs.Sites.{linkage_of, call_sites}
use Rattle.pcrel_rewrite.specs.declared.text_pairs.TextPair.{TextPair}
use Rattle.pcrel_rewrite.specs.Pairs.{ArePairs}
use Rattle.pcrel_rewrite.specs.TextPairs.{text_pair}
use Rattle.toc_groups.specs.Plans.{LaidData, IsPlan}
use Rattle.toc_rewrite.specs.Folded.{FoldedSlots, AreFolds}
use Rattle.plain_machine.specs.declared.kept.AddressRange.{AddressRange}
use Rattle.plain_machine.specs.declared.place.TextPlace.{TextPlace}
use Rattle.plain_run.specs.declared.standing.Standing.{Standing}
use Rattle.plain_run.specs.declared.standing.Standing.TheVariants as standing
use Rattle.plain_run.specs.declared.role.FieldRole.TheVariants as role
use Rattle.plain_run.specs.Jobs.{PlainJob}
use Rattle.plain_run.specs.Standing.{section_at, is_word, field_at}
use Rattle.plain_run.specs.Places.{laid, toc_ranges, role_at, fixed_value}
use Rattle.plain_run.specs.inside.Marks.{MarkedSection, AreMarked}

-- the record of a field that begins at a place, which is no call's
pub record IsFieldAt (files : List (List ℕ)) (p : TextPlace) (r : RecordId) (kind : Kind) : Type 0 where
  pub there : IsRecord files r
  pub kind_is : kind_numbered (rela_of (file_at files r.file) r.table r.entry).kind ≡ Some kind
  pub fills : 0 < (line_of kind).width
  pub no_call : is_some (linkage_of kind) ≡ false
  pub section_is : section_at files p ≡ record { file = r.file; section = r.section }
  pub offset_is : (rela_of (file_at files r.file) r.table r.entry).offset ≡ p.offset

-- each field that is filled with a number that doesn't depend on where text lies holds it
abbrev pub FixedFieldsHold : List (List ℕ) → LaidData → Type 0
FixedFieldsHold files plan =
    (p : TextPlace) (r : RecordId) (kind : Kind) → IsFieldAt files p r kind → role_at files plan p r kind ≡ role.Fixed →
    Passes (line_of kind).check (fixed_value files plan r kind)

-- none of the files and records is refused, and these are the plan, the calls, the foldable slots and the pairs of the files
pub record IsOfJob (job : PlainJob) (sites : List CallSite) (folds : FoldedSlots) : Type 0 where
  pub whole : set_refusal job.files ≡ None
  pub records : records_refusal job.files ≡ None
  pub plan_is : IsPlan job.files job.plan.span job.plan
  pub sites_are : sites ≡ call_sites job.files job.plan.groups
  pub folds_are : AreFolds (laid job.files job.plan) folds
  pub pairs_are : ArePairs job.files job.pairs
  pub fixed : FixedFieldsHold job.files job.plan

-- the text of a job
pub record IsTextOf (job : PlainJob) (sites : List CallSite) (folds : FoldedSlots) (toc : List AddressRange)
    (sections : List MarkedSection) (prologues : List FileOf) : Type 0 where
  pub job_is : IsOfJob job sites folds
  pub toc_is : toc ≡ toc_ranges job.files job.plan.span
  pub sections_are : AreMarked job.files job.pairs sections
  pub prologues_are : prologues ≡ files_of job.files

-- what is known of a place beside what stands there
abbrev pub KnownAt : List (List ℕ) → List TextPair → TextPlace → Standing → Type 0
KnownAt files pairs p standing.Outside = Unit {0}
KnownAt files pairs p standing.Word = is_word files p ≡ true
KnownAt files pairs p standing.Touched = is_word files p ≡ true
KnownAt files pairs p (standing.Call site) = is_word files p ≡ true
KnownAt files pairs p (standing.Restore site) = (is_word files p ≡ true) × (4 ≤ p.offset)
KnownAt files pairs p (standing.Entry form) = is_word files p ≡ true
KnownAt files pairs p standing.Base = (is_word files p ≡ true) × (4 ≤ p.offset)
KnownAt files pairs p (standing.Access head) = (is_word files p ≡ true) × Contains pairs (text_pair p.section head p.offset)
KnownAt files pairs p (standing.Field r kind) = (is_word files p ≡ true) × IsFieldAt files p r kind

-- the record of the load of a pair
abbrev pub IsLoadRecord : List (List ℕ) → TextPlace → Option RecordId → Type 0
IsLoadRecord files p None = ⊥
IsLoadRecord files p (Some r) = (field_at files p ≡ Some (field_of (file_at files r.file) r)) × IsFieldAt files p r GotPcrel34
