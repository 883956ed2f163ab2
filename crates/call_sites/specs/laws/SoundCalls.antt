-- What a call has where no record is refused: it stands on a branch in text, and goes to an instruction or to nothing.
use Rattle.std.proofs.Common.{◌≡◌, ◌<◌, ◌≤◌, ◌+◌, ◌%◌, ℕ, true, List, length, Option, None, Some, sym, ap, ◌∙◌, subst, refl, arith}
use Rattle.std.specs.Prelude.{is_some}
use Rattle.elf64_records.specs.FileHeader.{e_shnum}
use Rattle.elf64_records.specs.Sections.{sh_size}
use Rattle.object_set.specs.declared.places.RecordId.{RecordId}
use Rattle.object_set.specs.Files.{file_at}
use Rattle.object_set.specs.Refusals.{set_refusal}
use Rattle.object_set.specs.Sections.{is_text}
use Rattle.object_set.specs.Walks.{IsRecord}
use Rattle.reloc_fields.specs.declared.kind.Kind.{Kind}
use Rattle.reloc_fields.specs.declared.kind.Kind.TheVariants as kind
use Rattle.reloc_fields.specs.Table.{line_of}
use Rattle.symbol_table.specs.declared.fields.RecordField.{RecordField}
use Rattle.symbol_table.specs.declared.target.Target.{Target}
use Rattle.symbol_table.specs.Fields.{field_of}
use Rattle.symbol_table.specs.Prologue.{word_in}
use Rattle.symbol_table.specs.Sites.{is_relative}
use Rattle.symbol_table.specs.Records.{may_call, records_refusal}
use Rattle.symbol_table.specs.Targets.{target_of}
use Rattle.symbol_table.specs.laws.Records.{IsSoundField, records_sound}
use Rattle.symbol_table.specs.laws.Sections.{record_about}
use Rattle.call_sites.specs.Sites.{facts_of, linkage_of, linkage_in}
use Rattle.call_sites.specs.inside.Calls.{IsCall}

-- where the call of a field goes: to an instruction, or to a weak symbol that stands for nothing
pub record CallGoes (files : List (List ℕ)) (f : RecordField) (target : Target) : Type 0 where
  pub is : (let facts = facts_of (file_at files f.id.file) f in target_of files f.id.file facts.symbol facts.addend) ≡ Some target
  pub may : may_call files target ≡ true

pub record IsSoundCall (files : List (List ℕ)) (f : RecordField) : Type 0 where
  pub file_in : f.id.file < length files
  pub section_in : f.id.section < e_shnum (file_at files f.id.file)
  pub text : is_text (file_at files f.id.file) f.id.section ≡ true
  pub aligned : f.start % 4 ≡ 0
  pub within : f.start + 4 ≤ sh_size (file_at files f.id.file) f.id.section
  pub branch : is_relative 18 (word_in (file_at files f.id.file) f.id.section f.start) ≡ true
  pub goes : (target : Target) × CallGoes files f target

-- what a field of one of both kinds says
abbrev Says : List (List ℕ) → RecordId → Kind → Type 0
Says files r kind =
    let b = file_at files r.file in
    IsRecord files r → r.section < e_shnum b → (0 < 4 → IsSoundField files r kind) → IsSoundCall files (field_of b r)

with_toc : (files : List (List ℕ)) (r : RecordId) → Says files r kind.Rel24
with_toc files r is within sound =
    let field = sound (omega arith) in
    record {
      file_in = is.file_in;
      section_in = within;
      text = field.stands;
      aligned = field.aligned refl;
      within = field.within;
      branch = field.words;
      goes = (let goes = field.target refl in (goes.0, record { is = goes.1.is; may = goes.1.may }));
    }

without_toc : (files : List (List ℕ)) (r : RecordId) → Says files r kind.Rel24Notoc
without_toc files r is within sound =
    let field = sound (omega arith) in
    record {
      file_in = is.file_in;
      section_in = within;
      text = field.stands;
      aligned = field.aligned refl;
      within = field.within;
      branch = field.words;
      goes = (let goes = field.target refl in (goes.0, record { is = goes.1.is; may = goes.1.may }));
    }

by_kind : (files : List (List ℕ)) (r : RecordId) (k : Kind) → is_some (linkage_of k) ≡ true → IsRecord files r →
    r.section < e_shnum (file_at files r.file) →
    (0 < (line_of k).width → IsSoundField files r k) → IsSoundCall files (field_of (file_at files r.file) r)
by_kind files r = elim [
  | kind.Rel24 ↦ λ some is within sound. with_toc files r is within sound
  | kind.Rel24Notoc ↦ λ some is within sound. without_toc files r is within sound
  | _ ↦ λ some. cc
]

-- a call of which the record isn't refused
pub call_sound : (files : List (List ℕ)) (f : RecordField) → set_refusal files ≡ None → records_refusal files ≡ None → IsCall files f →
    IsSoundCall files f
call_sound files f whole sound is =
    let b = file_at files f.id.file in
    let record_sound = records_sound files f.id sound is.record_in in
    let some : is_some (linkage_of record_sound.kind) ≡ true =
    ap (λ (o : Option Kind). is_some (linkage_in o)) (sym record_sound.kind_is) ∙ is.call in
    subst (IsSoundCall files) (sym is.field_is)
    (by_kind files f.id record_sound.kind some is.record_in (record_about files f.id whole is.record_in).within record_sound.field)
