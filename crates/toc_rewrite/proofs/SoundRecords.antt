-- What records have where none is refused: a kind, a word or eight bytes in their sections, and a target in one of the files.
use Rattle.std.proofs.Common.{◌≡◌, ◌≢◌, ◌<◌, ◌≤◌, ℕ, ℤ, ◌+◌, Bool, true, false, not, List, length, Option, Some, None, sym, subst, refl, arith, if◌then◌else◌}
use Rattle.std.specs.Prelude.{◌==◌, IsSome}
use Rattle.std.proofs.lemmas.Bool.{and_parts}
use Rattle.std.proofs.lemmas.Bool.Decides.{nat_tests}
use Rattle.elf64_records.specs.Sections.{section_bytes}
use Rattle.elf64_records.specs.Symbols.{st_value}
use Rattle.object_set.specs.declared.places.RecordId.{RecordId}
use Rattle.object_set.specs.declared.sort.Sort.{Sort}
use Rattle.object_set.specs.declared.sort.Sort.TheVariants.{Text, Zeroed, Toc, Writable, ReadOnly, Dropped}
use Rattle.object_set.specs.Files.{file_at}
use Rattle.object_set.specs.Refusals.{set_refusal}
use Rattle.object_set.specs.Sections.{is_text, sort_of}
use Rattle.object_set.specs.Symbols.{name_of, is_local, is_weak, section_index, is_absolute, is_toc_base}
use Rattle.object_set.specs.Walks.{IsRecord}
use Rattle.reloc_fields.specs.declared.kind.Kind.{Kind}
use Rattle.reloc_fields.specs.declared.kind.Kind.TheVariants.{Toc16Ha, Toc16Lo, Toc16LoDs, Addr64, Rel16Ha, Rel16Lo}
use Rattle.reloc_fields.specs.Table.{line_of}
use Rattle.symbol_table.specs.declared.candidates.Resolution.{Resolution}
use Rattle.symbol_table.specs.declared.candidates.Resolution.TheVariants as resolution
use Rattle.symbol_table.specs.declared.sites.Stand.TheVariants.{InText}
use Rattle.symbol_table.specs.declared.target.Piece.TheVariants as piece
use Rattle.symbol_table.specs.declared.target.Target.{Target}
use Rattle.symbol_table.specs.declared.target.Target.TheVariants as target
use Rattle.std.specs.Int.{cast_signed, w64}
use Rattle.symbol_table.specs.Candidates.{stands_for, common_number}
use Rattle.symbol_table.specs.Records.{looks_at_symbol, is_prologue_kind, is_in_prologue, records_refusal}
use Rattle.symbol_table.specs.Sites.{rule_of, admits}
use Rattle.symbol_table.specs.Targets.{plus_addend, section_target, index_target, own_target, named_target, external_target, target_of}
use Rattle.symbol_table.specs.Text.{text_index}
use Rattle.symbol_table.specs.laws.Definitions.{definition_placed}
use Rattle.symbol_table.specs.laws.Records.{IsSoundField, records_sound}
use Rattle.symbol_table.specs.laws.Sections.{record_about, bytes_whole, text_stored}
use Rattle.toc_rewrite.specs.Records.{facts_of, kind_of, goes}
use Rattle.toc_rewrite.specs.Folds.{is_address, is_toc_sort}
use Rattle.toc_rewrite.specs.inside.Laid.{IsTargetOf}
use Rattle.toc_rewrite.specs.inside.Tables.{is_toc_user}

-- the kinds of a prologue's words fill bytes
prologue_fills : (kind : Kind) → is_prologue_kind kind ≡ true → 0 < (line_of kind).width
prologue_fills = elim [ Rel16Ha ↦ λ _. omega arith | Rel16Lo ↦ λ _. omega arith | _ ↦ λ other. cc ]

module _ (files : List (List ℕ)) (r : RecordId) (none : records_refusal files ≡ None) (is : IsRecord files r) where
  -- a record has a kind
  pub record_kind : (o : Option Kind) → kind_of files r ≡ o → IsSome o
  record_kind None known = let sound = records_sound files r none is in let has = sound.kind_is in cc
  record_kind (Some kind) known = refl

  -- its field is sound, if it fills bytes
  pub sound_field : (kind : Kind) → kind_of files r ≡ Some kind → 0 < (line_of kind).width → IsSoundField files r kind
  sound_field kind known fills =
      let sound = records_sound files r none is in
      let has = sound.kind_is in
      let same : sound.kind ≡ kind = cc in
      subst (λ (k : Kind). 0 < (line_of k).width → IsSoundField files r k) same sound.field fills

  -- a record of one of these kinds is of a recognised prologue
  pub of_prologue : (kind : Kind) → kind_of files r ≡ Some kind → is_prologue_kind kind ≡ true →
      is_in_prologue r.file (file_at files r.file) r.section (facts_of files r).offset ≡ true
  of_prologue kind known of = (sound_field kind known (prologue_fills kind of)).prologue of

  -- a relocation that goes somewhere has a target
  pub goes_somewhere : (kind : Kind) → kind_of files r ≡ Some kind → goes kind ≡ true →
      (let facts = facts_of files r in IsSome (target_of files r.file facts.symbol facts.addend))
  goes_somewhere kind known does =
      let parts = and_parts (not ((line_of kind).width == 0)) (looks_at_symbol kind) does in
      let wide = parts.0 in
      let fills : 0 < (line_of kind).width = grind (arith, nat_tests, wide) in
      let there = (sound_field kind known fills).target parts.1 in
      subst IsSome (sym there.1.is) refl

-- a word of a TOC load lies in text
record IsWord (kind : Kind) : Type 0 where
  stand : (rule_of kind).stand ≡ InText
  width : (line_of kind).width ≡ 4

user_word : (kind : Kind) → is_toc_user kind ≡ true → IsWord kind
user_word = elim [
  | Toc16Ha ↦ λ user. record { stand = refl; width = refl }
  | Toc16Lo ↦ λ user. record { stand = refl; width = refl }
  | Toc16LoDs ↦ λ user. record { stand = refl; width = refl }
  | _ ↦ λ user. cc
]

pub word_lies : (files : List (List ℕ)) (r : RecordId) (kind : Kind) → set_refusal files ≡ None → records_refusal files ≡ None →
    IsRecord files r → kind_of files r ≡ Some kind → is_toc_user kind ≡ true →
    (facts_of files r).offset + 4 ≤ length (section_bytes (file_at files r.file) r.section)
word_lies files r kind whole none is known user =
    let b = file_at files r.file in
    let word = user_word kind user in
    let width = word.width in
    let field = sound_field files r none is kind known (omega arith) in
    let text : is_text b r.section ≡ true =
    subst (λ s. admits s (sort_of b r.section) ≡ true) word.stand field.stands in
    let stored = bytes_whole files r.file r.section whole is.file_in (record_about files r whole is) (text_stored b r.section text) in
    omega (arith, stored, field.within, width)

-- eight bytes of a part of the table of contents lie in it
toc_stored : (sort : Sort) → is_toc_sort sort ≡ true → sort ≢ Zeroed
toc_stored = elim [ Toc ↦ λ toc zeroed. cc | _ ↦ λ toc. cc ]

pub address_kind : (o : Option Kind) → is_address o ≡ true → o ≡ Some Addr64
address_kind None is = cc
address_kind (Some kind) is =
    elim kind as (λ k. is_address (Some k) ≡ true → Some k ≡ Some Addr64) [ Addr64 ↦ λ _. refl | _ ↦ λ no_address. cc ] is

pub address_lies : (files : List (List ℕ)) (r : RecordId) → set_refusal files ≡ None → records_refusal files ≡ None →
    IsRecord files r → is_address (kind_of files r) ≡ true → is_toc_sort (sort_of (file_at files r.file) r.section) ≡ true →
    (facts_of files r).offset + 8 ≤ length (section_bytes (file_at files r.file) r.section)
address_lies files r whole none is address toc =
    let b = file_at files r.file in
    let field = sound_field files r none is Addr64 (address_kind (kind_of files r) address) (omega arith) in
    let stored = bytes_whole files r.file r.section whole is.file_in (record_about files r whole is)
    (toc_stored (sort_of b r.section) toc) in
    omega (arith, stored, field.within)

-- where a section of a file is gone to
section_known : (set : List (List ℕ)) (file at i : ℕ) (sort : Sort) (t : Target) → file < length set →
    section_target set file at i sort ≡ Some t → IsTargetOf set t
section_known set file at i Text t within is =
    let same : target.Code (text_index set file i) at ≡ t = cc in
    subst (IsTargetOf set) same tt
section_known set file at i Zeroed t within is =
    let same : target.Data (piece.Section file i) (cast_signed w64 at) ≡ t = cc in
    subst (IsTargetOf set) same within
section_known set file at i Toc t within is =
    let same : target.Data (piece.Section file i) (cast_signed w64 at) ≡ t = cc in
    subst (IsTargetOf set) same within
section_known set file at i Writable t within is =
    let same : target.Data (piece.Section file i) (cast_signed w64 at) ≡ t = cc in
    subst (IsTargetOf set) same within
section_known set file at i ReadOnly t within is =
    let same : target.Data (piece.Section file i) (cast_signed w64 at) ≡ t = cc in
    subst (IsTargetOf set) same within
section_known set file at i Dropped t within is = cc

index_known : (set : List (List ℕ)) (file at : ℕ) (o : Option ℕ) (t : Target) → file < length set →
    index_target set file at o ≡ Some t → IsTargetOf set t
index_known set file at None t within is = cc
index_known set file at (Some i) t within is = section_known set file at i (sort_of (file_at set file) i) t within is

own_known : (set : List (List ℕ)) (file j : ℕ) (addend : ℤ) (absolute : Bool) (t : Target) → file < length set →
    (if absolute then Some (target.Number (plus_addend (st_value (file_at set file) j) addend))
    else index_target set file (plus_addend (st_value (file_at set file) j) addend) (section_index (file_at set file) j)) ≡ Some t →
    IsTargetOf set t
own_known set file j addend true t within is =
    let same : target.Number (plus_addend (st_value (file_at set file) j) addend) ≡ t = cc in
    subst (IsTargetOf set) same tt
own_known set file j addend false t within is =
    index_known set file (plus_addend (st_value (file_at set file) j) addend) (section_index (file_at set file) j) t within is

named_known : (set : List (List ℕ)) (name : List ℕ) (weak : Bool) (stands : Resolution) (addend : ℤ) (t : Target) →
    stands_for set name ≡ stands → named_target set name weak stands addend ≡ Some t → IsTargetOf set t
named_known set name weak (resolution.Definition s) addend t stands is =
    own_known set s.file s.symbol addend (is_absolute (file_at set s.file) s.symbol) t (definition_placed set name s stands).file_in is
named_known set name weak (resolution.Common common) addend t stands is =
    let same : target.Data (piece.Common (common_number set name)) addend ≡ t = cc in
    subst (IsTargetOf set) same tt
named_known set name true resolution.Undefined addend t stands is =
    let same : target.WeakNone addend ≡ t = cc in
    subst (IsTargetOf set) same tt
named_known set name false resolution.Undefined addend t stands is = cc

symbol_known : (set : List (List ℕ)) (file j : ℕ) (addend : ℤ) (none base local : Bool) (t : Target) → file < length set →
    (if none then Some (target.Number (plus_addend 0 addend))
    else (if base then Some (target.TocBase file addend)
    else (if local then own_target set file j addend
    else external_target set file j addend))) ≡ Some t → IsTargetOf set t
symbol_known set file j addend true base local t within is =
    let same : target.Number (plus_addend 0 addend) ≡ t = cc in
    subst (IsTargetOf set) same tt
symbol_known set file j addend false true local t within is =
    let same : target.TocBase file addend ≡ t = cc in
    subst (IsTargetOf set) same within
symbol_known set file j addend false false true t within is =
    own_known set file j addend (is_absolute (file_at set file) j) t within is
symbol_known set file j addend false false false t within is =
    let b = file_at set file in
    named_known set (name_of b j) (is_weak b j) (stands_for set (name_of b j)) addend t refl is

-- what a symbol of a file goes to is in one of the files
pub target_known : (set : List (List ℕ)) (file j : ℕ) (addend : ℤ) (t : Target) → file < length set →
    target_of set file j addend ≡ Some t → IsTargetOf set t
target_known set file j addend t within is =
    let b = file_at set file in
    symbol_known set file j addend (j == 0) (is_toc_base b j) (is_local b j) t within is
