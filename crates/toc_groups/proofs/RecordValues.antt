-- Values of records: a record that fills a field goes somewhere, and what its value is made of is read of the plan.
use Rattle.std.proofs.Common.{ℕ, ℤ, ◌≡◌, ◌<◌, Bool, true, false, ◌==◌, List, length, get_or, Option, Some, None, slice_get, ap, sym, subst, ◌∙◌, refl, arith, if◌then◌else◌}
use Rattle.std.specs.Prelude.{IsSome, pos, unwrap_or}
use Rattle.std.specs.Option.{option_map}
use Rattle.std.proofs.lemmas.Option.{get_or_from_slice_get}
use Rattle.elf64_records.specs.Records.{rela_of}
use Rattle.elf64_records.specs.Symbols.{st_value}
use Rattle.object_set.specs.declared.places.RecordId.{RecordId}
use Rattle.object_set.specs.declared.sort.Sort.{Sort}
use Rattle.object_set.specs.declared.sort.Sort.TheVariants.{Text, Zeroed, Toc, Writable, ReadOnly, Dropped}
use Rattle.object_set.specs.Files.{file_at}
use Rattle.object_set.specs.Sections.{sort_of}
use Rattle.object_set.specs.Symbols.{name_of, is_local, is_weak, section_index, is_absolute, is_toc_base}
use Rattle.object_set.specs.Walks.{IsRecord}
use Rattle.reloc_fields.specs.declared.kind.Kind.{Kind}
use Rattle.reloc_fields.specs.Table.{line_of, value}
use Rattle.symbol_table.specs.declared.candidates.Resolution.{Resolution}
use Rattle.symbol_table.specs.declared.candidates.Resolution.TheVariants as resolution
use Rattle.symbol_table.specs.declared.target.Target.{Target}
use Rattle.symbol_table.specs.declared.target.Target.TheVariants.{Data, Code, Number, TocBase, WeakNone}
use Rattle.symbol_table.specs.Candidates.{stands_for}
use Rattle.symbol_table.specs.Fields.{kind_numbered}
use Rattle.symbol_table.specs.Records.{is_slot_kind, looks_at_symbol, records_refusal}
use Rattle.symbol_table.specs.Targets.{plus_addend, section_target, index_target, own_target, named_target, external_target, target_of}
use Rattle.symbol_table.specs.Text.{text_sections}
use Rattle.symbol_table.specs.laws.Records.{IsSoundField, records_sound}
use Rattle.toc_groups.specs.Data.{base_of, slot_address}
use Rattle.toc_groups.specs.Parts.{IsTargetOf}
use Rattle.toc_groups.specs.Plans.{LaidData, IsPlan, address_in}
use Rattle.toc_groups.specs.Values.{code_address, address_of, symbol_address, field_address, source_address, record_value}
use Rattle.toc_groups.specs.inside.Values.{IsPlacedTarget}
use Rattle.toc_groups.proofs.Reading.{address_is}

-- ---- text sections

pub some_case : (t : Bool) (k n : ℕ) → Some n ≡ (if t then Some k else None) → (t ≡ true) × (n ≡ k)
some_case true k n is = (refl, cc)
some_case false k n is = cc

pub none_case : (t : Bool) (k : ℕ) → None ≡ (if t then Some k else None) → t ≡ false
none_case true k is = cc
none_case false k is = refl

pub placed_target : (files : List (List ℕ)) (text : List ℕ) (target : Target) → IsTargetOf files target →
    length text ≡ length (text_sections files) → IsPlacedTarget text target
placed_target files text (Data piece addend) within texts = tt
placed_target files text (Code section offset) within texts = omega (arith, within, texts)
placed_target files text (Number n) within texts = tt
placed_target files text (TocBase file addend) within texts = tt
placed_target files text (WeakNone addend) within texts = tt

-- ---- a symbol that goes somewhere with one addend does with each

section_some : (files : List (List ℕ)) (file at to i : ℕ) (sort : Sort) (t : Target) → section_target files file at i sort ≡ Some t →
    IsSome (section_target files file to i sort)
section_some files file at to i Text t is = refl
section_some files file at to i Zeroed t is = refl
section_some files file at to i Toc t is = refl
section_some files file at to i Writable t is = refl
section_some files file at to i ReadOnly t is = refl
section_some files file at to i Dropped t is = cc

index_some : (files : List (List ℕ)) (file at to : ℕ) (o : Option ℕ) (t : Target) → index_target files file at o ≡ Some t →
    IsSome (index_target files file to o)
index_some files file at to None t is = cc
index_some files file at to (Some i) t is = section_some files file at to i (sort_of (file_at files file) i) t is

own_some : (files : List (List ℕ)) (file at to : ℕ) (o : Option ℕ) (absolute : Bool) (t : Target) →
    (if absolute then Some (Number at) else index_target files file at o) ≡ Some t →
    IsSome (if absolute then Some (Number to) else index_target files file to o)
own_some files file at to o true t is = refl
own_some files file at to o false t is = index_some files file at to o t is

named_some : (files : List (List ℕ)) (name : List ℕ) (weak : Bool) (stands : Resolution) (a b : ℤ) (t : Target) →
    named_target files name weak stands a ≡ Some t → IsSome (named_target files name weak stands b)
named_some files name weak (resolution.Definition s) a b t is =
    let f = file_at files s.file in
    own_some files s.file (plus_addend (st_value f s.symbol) a) (plus_addend (st_value f s.symbol) b) (section_index f s.symbol)
    (is_absolute f s.symbol) t is
named_some files name weak (resolution.Common common) a b t is = refl
named_some files name true resolution.Undefined a b t is = refl
named_some files name false resolution.Undefined a b t is = cc

target_some : (files : List (List ℕ)) (file j : ℕ) (a b : ℤ) (t : Target) (none base local : Bool) →
    (if none then Some (Number (plus_addend 0 a))
    else (if base then Some (TocBase file a)
    else (if local then own_target files file j a
    else external_target files file j a))) ≡ Some t →
    IsSome (if none then Some (Number (plus_addend 0 b))
    else (if base then Some (TocBase file b)
    else (if local then own_target files file j b
    else external_target files file j b)))
target_some files file j a b t true base local is = refl
target_some files file j a b t false true local is = refl
target_some files file j a b t false false true is =
    let f = file_at files file in
    own_some files file (plus_addend (st_value f j) a) (plus_addend (st_value f j) b) (section_index f j) (is_absolute f j) t is
target_some files file j a b t false false false is =
    let f = file_at files file in
    named_some files (name_of f j) (is_weak f j) (stands_for files (name_of f j)) a b t is

pub goes_with : (files : List (List ℕ)) (file j : ℕ) (a b : ℤ) (t : Target) → target_of files file j a ≡ Some t →
    IsSome (target_of files file j b)
goes_with files file j a b t is =
    let f = file_at files file in
    target_some files file j a b t (j == 0) (is_toc_base f j) (is_local f j) is

-- the kind of a record that fills a field, and what it has
pub sound_field : (files : List (List ℕ)) (r : RecordId) (kind : Kind) → records_refusal files ≡ None → IsRecord files r →
    kind_numbered (rela_of (file_at files r.file) r.table r.entry).kind ≡ Some kind → 0 < (line_of kind).width → IsSoundField files r kind
sound_field files r kind none is kind_is fills =
    let sound = records_sound files r none is in
    let both : Some sound.kind ≡ Some kind = sym sound.kind_is ∙ kind_is in
    let same : sound.kind ≡ kind = cc in
    subst (λ (k : Kind). 0 < (line_of k).width → IsSoundField files r k) same sound.field fills

-- its symbol goes somewhere, if the kind looks at it
pub record_goes : (files : List (List ℕ)) (r : RecordId) (kind : Kind) → records_refusal files ≡ None → IsRecord files r →
    kind_numbered (rela_of (file_at files r.file) r.table r.entry).kind ≡ Some kind → 0 < (line_of kind).width →
    looks_at_symbol kind ≡ true →
    IsSome (target_of files r.file (rela_of (file_at files r.file) r.table r.entry).symbol (pos 0))
record_goes files r kind none is kind_is fills looks =
    let facts = rela_of (file_at files r.file) r.table r.entry in
    let goes = (sound_field files r kind none is kind_is fills).target looks in
    goes_with files r.file facts.symbol facts.addend (pos 0) goes.0 goes.1.is

module _ (files : List (List ℕ)) (span : ℕ) (text : List ℕ) where
  pub symbol_address_is : (file j : ℕ) (t : Target) → target_of files file j (pos 0) ≡ Some t →
      symbol_address files span text file j ≡ address_of files span text t
  unfolding symbol_address
  symbol_address_is file j t is = ap (λ (o : Option Target). unwrap_or (option_map (address_of files span text) o) 0) is

  pub address_read : (plan : LaidData) (file j x : ℕ) (t : Target) → IsPlan files span plan → IsTargetOf files t →
      target_of files file j (pos 0) ≡ Some t → x ≡ unwrap_or (address_in plan t) (code_address text t) →
      x ≡ symbol_address files span text file j
  address_read plan file j x t is within goes read =
      read ∙ ap (λ (o : Option ℕ). unwrap_or o (code_address text t)) (address_is files span plan is t within)
      ∙ sym (symbol_address_is file j t goes)

  pub source_slot : (r : RecordId) (kind : Kind) (j : ℕ) (o : Option ℕ) → is_slot_kind kind ≡ true →
      j ≡ (rela_of (file_at files r.file) r.table r.entry).symbol → o ≡ slot_address files span r.file j →
      unwrap_or o 0 ≡ source_address files span text r kind
  source_slot r kind j o slot symbol read =
      let facts = rela_of (file_at files r.file) r.table r.entry in
      ap (λ (p : Option ℕ). unwrap_or p 0) (read ∙ ap (slot_address files span r.file) symbol)
      ∙ sym (ap (λ (t : Bool). if t then unwrap_or (slot_address files span r.file facts.symbol) 0
      else (if looks_at_symbol kind then symbol_address files span text r.file facts.symbol else 0)) slot)

  pub value_made : (r : RecordId) (kind : Kind) (x a : ℤ) (s p toc : ℕ) (bases : List ℕ) → x ≡ value (line_of kind).formula s a p toc →
      s ≡ source_address files span text r kind → a ≡ (rela_of (file_at files r.file) r.table r.entry).addend →
      p ≡ field_address files span text r → slice_get bases r.file ≡ Some toc → get_or bases r.file 0 ≡ base_of files span r.file →
      x ≡ record_value files span text r kind
  unfolding record_value
  value_made r kind x a s p toc bases is source addend place read base =
      let made : ℕ → ℤ → ℕ → ℕ → ℤ = value (line_of kind).formula in
      let toc_is : toc ≡ base_of files span r.file = sym (get_or_from_slice_get bases r.file toc 0 read) ∙ base in
      is ∙ ap (λ (v : ℕ). made v a p toc) source
      ∙ ap (λ (v : ℤ). made (source_address files span text r kind) v p toc) addend
      ∙ ap (λ (v : ℕ). made (source_address files span text r kind) (rela_of (file_at files r.file) r.table r.entry).addend v toc) place
      ∙ ap (made (source_address files span text r kind) (rela_of (file_at files r.file) r.table r.entry).addend
      (field_address files span text r))
      toc_is
