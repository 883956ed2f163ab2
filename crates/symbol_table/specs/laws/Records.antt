-- What records have where none is refused.
use Rattle.std.proofs.Common.{◌≡◌, ◌<◌, ◌≤◌, ◌+◌, ◌%◌, ◌⊎◌, inl, inr, ℕ, ℤ, pos, zero, suc, Bool, true, false, not, ◌&&◌, ◌||◌, eqb, ltb, max, min, List, [], ◌∷◌, map, length, Option, None, Some, sym, ap, ◌∙◌, subst, refl, arith, if◌then◌else◌}
use Rattle.std.specs.List.{list_any}
use Rattle.std.specs.Ordering.{int_eq}
use Rattle.std.specs.Cmp.{signed_Decides}
use Rattle.std.proofs.lemmas.Bool.{cases_lt}
use Rattle.std.proofs.lemmas.Bool.Decides.{nat_tests}
use Rattle.std.proofs.lemmas.List.Folds.{list_any-append}
use Rattle.elf64_records.specs.First.{◌orelse◌, when}
use Rattle.elf64_records.specs.laws.First.{both_none, walk_none}
use Rattle.elf64_records.specs.FileHeader.{e_shnum}
use Rattle.elf64_records.specs.Sections.{sh_size, sh_info}
use Rattle.elf64_records.specs.Records.{record_count, rela_of}
use Rattle.object_set.specs.declared.places.RecordId.{RecordId}
use Rattle.object_set.specs.declared.refusal.Refusal.{Refusal}
use Rattle.object_set.specs.declared.refusal.Refusal.TheVariants.{TlsAt, BadSite, UnsupportedAt, NotCode}
use Rattle.object_set.specs.Files.{file_at}
use Rattle.object_set.specs.Sections.{sort_of}
use Rattle.object_set.specs.Walks.{items_in, record_walk, record_id, records_in, IsRecord}
use Rattle.reloc_fields.specs.declared.kind.Kind.{Kind}
use Rattle.reloc_fields.specs.Table.{line_of}
use Rattle.symbol_table.specs.declared.fields.RecordField.{RecordField}
use Rattle.symbol_table.specs.declared.target.Target.{Target}
use Rattle.symbol_table.specs.Text.{text_number}
use Rattle.symbol_table.specs.Targets.{target_of}
use Rattle.symbol_table.specs.Fields.{kind_numbered, field_of, records_of, fields_of, meets, comes_before, overlaps_earlier}
use Rattle.symbol_table.specs.Prologue.{word_in}
use Rattle.symbol_table.specs.Sites.{rule_of, admits, is_text_only, suit, are_left_out, is_thread_local}
use Rattle.symbol_table.specs.Records.{site_of, is_outside, is_unfit, is_in_prologue, is_prologue_kind, is_slot_kind, is_left_out, looks_at_symbol, may_go, target_fault, target_refusal, kind_refusal, known_refusal, record_refusal, records_refusal}
use Rattle.symbol_table.specs.inside.Records.{entry_refusal_at, table_refusal, file_records_refusal}
use Rattle.symbol_table.specs.laws.FilteredLists.{list_any-filter}
use Rattle.symbol_table.specs.laws.RecordWalk.{records_first}

-- where a record goes, and that its kind may go there
pub record GoesTo (files : List (List ℕ)) (r : RecordId) (kind : Kind) (target : Target) : Type 0 where
  pub is : (let facts = rela_of (file_at files r.file) r.table r.entry in target_of files r.file facts.symbol facts.addend) ≡ Some target
  pub may : may_go files (text_number files r.file r.section) kind target ≡ true

-- a record that fills bytes can be linked: its field may stand in its section and lies in it, an instruction's at a multiple of 4; no
-- earlier record's field has bytes of it; its words suit; what it asks for isn't left out; and it goes somewhere
pub record IsSoundField (files : List (List ℕ)) (r : RecordId) (kind : Kind) : Type 0 where
  pub stands : admits (rule_of kind).stand (sort_of (file_at files r.file) r.section) ≡ true
  pub within : (rela_of (file_at files r.file) r.table r.entry).offset + (line_of kind).width ≤ sh_size (file_at files r.file) r.section
  pub aligned : is_text_only (rule_of kind).stand ≡ true → (rela_of (file_at files r.file) r.table r.entry).offset % 4 ≡ 0
  pub apart : overlaps_earlier r.file (file_at files r.file) r ≡ false
  pub words : (let b = file_at files r.file in
      let start = (rela_of b r.table r.entry).offset in
      suit (rule_of kind).words (word_in b r.section start) (word_in b r.section (start + 4))) ≡ true
  pub form : (let b = file_at files r.file in
      are_left_out (rule_of kind).words (word_in b r.section (rela_of b r.table r.entry).offset)) ≡ false
  pub prologue : is_prologue_kind kind ≡ true →
      is_in_prologue r.file (file_at files r.file) r.section (rela_of (file_at files r.file) r.table r.entry).offset ≡ true
  pub slot : is_slot_kind kind ≡ true → (rela_of (file_at files r.file) r.table r.entry).addend ≡ pos 0
  pub target : looks_at_symbol kind ≡ true → (target : Target) × GoesTo files r kind target

-- a record that isn't refused has a kind, and if that fills bytes it can be linked
pub record IsSoundRecord (files : List (List ℕ)) (r : RecordId) : Type 0 where
  pub kind : Kind
  pub kind_is : kind_numbered (rela_of (file_at files r.file) r.table r.entry).kind ≡ Some kind
  pub field : 0 < (line_of kind).width → IsSoundField files r kind

when_none : {R : Type 0} (test : Bool) (r : R) → when test r ≡ None → test ≡ false
when_none true r none = cc
when_none false r none = refl

or_false : (p q : Bool) → (p || q) ≡ false → (p ≡ false) × (q ≡ false)
or_false true q none = cc
or_false false q none = (refl, none)

not_false : (p : Bool) → not p ≡ false → p ≡ true
not_false true none = refl
not_false false none = cc

and_not : (p q : Bool) → (p && not q) ≡ false → p ≡ true → q ≡ true
and_not true true none holds = refl
and_not true false none holds = cc
and_not false q none holds = cc

target_case : (files : List (List ℕ)) (r : RecordId) (kind : Kind) (goes : Option Target) → target_fault files r kind goes ≡ None →
    (target : Target) × (goes ≡ Some target) × (may_go files (text_number files r.file r.section) kind target ≡ true)
target_case files r kind None none = cc
target_case files r kind (Some target) none =
    let may = may_go files (text_number files r.file r.section) kind target in
    (target, refl, not_false may (when_none (not may) (NotCode (site_of (file_at files r.file) r)) none))

goes_case : (files : List (List ℕ)) (r : RecordId) (kind : Kind) (looks : Bool) →
    (let facts = rela_of (file_at files r.file) r.table r.entry in
    if looks then target_fault files r kind (target_of files r.file facts.symbol facts.addend) else None) ≡ None → looks ≡ true →
    (target : Target) × GoesTo files r kind target
goes_case files r kind true none looks =
    let facts = rela_of (file_at files r.file) r.table r.entry in
    let found = target_case files r kind (target_of files r.file facts.symbol facts.addend) none in
    (found.0, record { is = found.1; may = found.2 })
goes_case files r kind false none looks = cc

-- the parts of what is refused of a field
kind_parts : (files : List (List ℕ)) (r : RecordId) (kind : Kind) → kind_refusal files r kind ≡ None → 0 < (line_of kind).width →
    ((is_outside (file_at files r.file) r kind || is_unfit (file_at files r.file) r kind) ≡ false)
    × (is_left_out (file_at files r.file) r kind ≡ false) × (target_refusal files r kind ≡ None)
unfolding kind_refusal
kind_parts files r kind none fills =
    let b = file_at files r.file in
    let bad = is_outside b r kind || is_unfit b r kind in
    let out = is_left_out b r kind in
    let later : Option Refusal = when out (UnsupportedAt (site_of b r)) orelse target_refusal files r kind in
    let all : Option Refusal = when bad (BadSite (site_of b r)) orelse later in
    let some : eqb (line_of kind).width 0 ≡ false = grind (arith, nat_tests) in
    let rest : all ≡ None = sym (ap (λ (t : Bool). if t then None else all) some) ∙ none in
    let first = both_none (when bad (BadSite (site_of b r))) later rest in
    let second = both_none (when out (UnsupportedAt (site_of b r))) (target_refusal files r kind) first.1 in
    (when_none bad (BadSite (site_of b r)) first.0, when_none out (UnsupportedAt (site_of b r)) second.0, second.1)

int_same : (x y : ℤ) → int_eq x y ≡ true → x ≡ y
int_same x y same = (signed_Decides x y).0 same

field_sound : (files : List (List ℕ)) (r : RecordId) (kind : Kind) → kind_refusal files r kind ≡ None → 0 < (line_of kind).width →
    IsSoundField files r kind
field_sound files r kind none fills =
    let b = file_at files r.file in
    let facts = rela_of b r.table r.entry in
    let start = facts.offset in
    let parts = kind_parts files r kind none fills in
    let site = or_false (is_outside b r kind) (is_unfit b r kind) parts.0 in
    let outside = or_false (not (admits (rule_of kind).stand (sort_of b r.section)))
    (ltb (sh_size b r.section) (start + (line_of kind).width)) site.0 in
    let suits = suit (rule_of kind).words (word_in b r.section start) (word_in b r.section (start + 4)) in
    let text = is_text_only (rule_of kind).stand && not (eqb (start % 4) 0) in
    let unfit = or_false (text || overlaps_earlier r.file b r) (not suits) site.1 in
    let placed = or_false text (overlaps_earlier r.file b r) unfit.0 in
    let in_prologue = is_prologue_kind kind && not (is_in_prologue r.file b r.section start) in
    let form = are_left_out (rule_of kind).words (word_in b r.section start) in
    let left = or_false (in_prologue || form) (is_slot_kind kind && not (int_eq facts.addend (pos 0))) parts.1 in
    let others = or_false in_prologue form left.0 in
    let past = outside.1 in
    record {
      stands = not_false (admits (rule_of kind).stand (sort_of b r.section)) outside.0;
      within = grind (arith, nat_tests, past);
      aligned = λ fills_text. (let whole : eqb (start % 4) 0 ≡ true =
          and_not (is_text_only (rule_of kind).stand) (eqb (start % 4) 0) placed.0 fills_text in grind (arith, nat_tests, whole));
      apart = placed.1;
      words = not_false suits unfit.1;
      form = others.1;
      prologue = and_not (is_prologue_kind kind) (is_in_prologue r.file b r.section start) others.0;
      slot = λ loads. int_same facts.addend (pos 0) (and_not (is_slot_kind kind) (int_eq facts.addend (pos 0)) left.1 loads);
      target = goes_case files r kind (looks_at_symbol kind) parts.2;
    }

known_case : (files : List (List ℕ)) (r : RecordId) (o : Option Kind) →
    kind_numbered (rela_of (file_at files r.file) r.table r.entry).kind ≡ o →
    known_refusal files r o ≡ None → IsSoundRecord files r
known_case files r None is none = cc
known_case files r (Some kind) is none = record { kind = kind; kind_is = is; field = field_sound files r kind none }

-- a record that isn't refused
pub record_sound : (files : List (List ℕ)) (r : RecordId) → record_refusal files r ≡ None → IsSoundRecord files r
unfolding record_refusal
record_sound files r none =
    let b = file_at files r.file in
    let number = (rela_of b r.table r.entry).kind in
    let parts = both_none (when (is_thread_local number) (TlsAt (site_of b r))) (known_refusal files r (kind_numbered number)) none in
    known_case files r (kind_numbered number) refl parts.1

-- where no record is refused, each can be linked
pub records_sound : (files : List (List ℕ)) (r : RecordId) → records_refusal files ≡ None → IsRecord files r → IsSoundRecord files r
records_sound files r none is =
    let b = file_at files r.file in
    let by_file = walk_none (file_records_refusal files) 0 (length files) r.file (sym (records_first files) ∙ none) (omega arith)
    (omega (arith, is.file_in)) in
    let by_table = walk_none (table_refusal files r.file) 0 (e_shnum b) r.table by_file (omega arith) (omega (arith, is.table_in)) in
    let this = walk_none (entry_refusal_at files r.file r.table) 0 (record_count b r.table) r.entry by_table (omega arith)
    (omega (arith, is.within)) in
    let same : record { file = r.file; table = r.table; entry = r.entry; section = r.section } ≡ record_id r.file b r.table r.entry =
    ap (λ (s : ℕ). record { file = r.file; table = r.table; entry = r.entry; section = s }) is.section_is in
    record_sound files r (ap (record_refusal files) same ∙ this)

or_true : (p : Bool) → (p || true) ≡ true
or_true true = refl
or_true false = refl

-- a test that a record passes is passed by one of its file's
entry_passes : (test : RecordId → Bool) (file : ℕ) (b : List ℕ) (i k n : ℕ) → k < n → test (record_id file b i k) ≡ true →
    list_any test (records_in file b i n) ≡ true
entry_passes test file b i k zero within passes = absurd (omega arith)
entry_passes test file b i k (suc n) within passes =
    let all = list_any-append test (records_in file b i n) (record_id file b i n ∷ []) in
    elim (cases_lt k n) [
      | inl less ↦ all ∙ ap (λ (x : Bool). x || list_any test (record_id file b i n ∷ [])) (entry_passes test file b i k n less passes)
      | inr most ↦ (
          let same : k ≡ n = omega arith in
          let last : (test (record_id file b i n) || false) ≡ true =
          ap (λ (m : ℕ). test (record_id file b i m) || false) (sym same) ∙ ap (λ (x : Bool). x || false) passes in
          all ∙ ap (λ (x : Bool). list_any test (records_in file b i n) || x) last ∙ or_true (list_any test (records_in file b i n)))
    ]

pub record_passes : (test : RecordId → Bool) (file : ℕ) (b : List ℕ) (i k n : ℕ) → i < n → k < record_count b i →
    test (record_id file b i k) ≡ true → list_any test (items_in record_walk file b n) ≡ true
record_passes test file b i k zero table within passes = absurd (omega arith)
record_passes test file b i k (suc n) table within passes =
    let before = items_in record_walk file b n in
    let own = records_in file b n (record_count b n) in
    let all = list_any-append test before own in
    elim (cases_lt i n) [
      | inl less ↦ all ∙ ap (λ (x : Bool). x || list_any test own) (record_passes test file b i k n less within passes)
      | inr most ↦ (
          let same : i ≡ n = omega arith in
          let last : list_any test own ≡ true = subst (λ (m : ℕ). list_any test (records_in file b m (record_count b m)) ≡ true) same
          (entry_passes test file b i k (record_count b i) within passes) in
          all ∙ ap (λ (x : Bool). list_any test before || x) last ∙ or_true (list_any test before))
    ]

pub any_mapped : (test : RecordField → Bool) (f : RecordId → RecordField) (rs : List RecordId) →
    list_any test (map f rs) ≡ list_any (λ r. test (f r)) rs
any_mapped test f [] = refl
any_mapped test f (r ∷ rs) = ap (λ (x : Bool). test (f r) || x) (any_mapped test f rs)

-- fields of one section, of which one is an earlier record's, have no bytes in common
ranges_apart : (one other start width from count : ℕ) → one ≡ other → 0 < width → 0 < count →
    (eqb one other && ltb (max start from) (min (start + width) (from + count))) ≡ false →
    (start + width ≤ from) ⊎ (from + count ≤ start)
ranges_apart one other start width from count same some some_too none =
    elim (cases_lt from (start + width)) [
      | inl less ↦ inr (grind (arith, nat_tests, none))
      | inr most ↦ inl most
    ]

meets_case : (files : List (List ℕ)) (q r : RecordId) (met : Bool) → IsRecord files q → q.file ≡ r.file → comes_before q r ≡ true →
    (let b = file_at files r.file in meets r.section (field_of b r).start (field_of b r).width (field_of b q)) ≡ met →
    overlaps_earlier r.file (file_at files r.file) r ≡ false → met ≡ false
meets_case files q r false is same before meet apart = refl
meets_case files q r true is same before meet apart =
    let b = file_at files r.file in
    let m = meets r.section (field_of b r).start (field_of b r).width in
    let test : RecordId → Bool = λ p. m (field_of b p) && comes_before p r in
    let here : file_at files q.file ≡ b = ap (file_at files) same in
    let own : record_id r.file b q.table q.entry ≡ q =
    ap (λ (f : ℕ). record { file = f; table = q.table; entry = q.entry; section = sh_info b q.table }) (sym same)
    ∙ ap (λ (s : ℕ). record { file = q.file; table = q.table; entry = q.entry; section = s })
    (ap (λ (l : List ℕ). sh_info l q.table) (sym here) ∙ sym is.section_is) in
    let passes : test (record_id r.file b q.table q.entry) ≡ true =
    ap test own ∙ ap (λ (x : Bool). x && comes_before q r) meet ∙ before in
    let table : q.table < e_shnum b = subst (λ (l : List ℕ). q.table < e_shnum l) here is.table_in in
    let within : q.entry < record_count b q.table = subst (λ (l : List ℕ). q.entry < record_count l q.table) here is.within in
    let found = record_passes test r.file b q.table q.entry (e_shnum b) table within passes in
    let all : overlaps_earlier r.file b r ≡ true =
    list_any-filter m (λ f. comes_before f.id r) (fields_of r.file b)
    ∙ any_mapped (λ f. m f && comes_before f.id r) (field_of b) (records_of r.file b) ∙ found in
    cc

pub fields_apart : (files : List (List ℕ)) (q r : RecordId) → overlaps_earlier r.file (file_at files r.file) r ≡ false →
    IsRecord files q → q.file ≡ r.file → q.section ≡ r.section → comes_before q r ≡ true →
    0 < (field_of (file_at files r.file) q).width → 0 < (field_of (file_at files r.file) r).width →
    (let b = file_at files r.file in (field_of b q).start + (field_of b q).width ≤ (field_of b r).start)
    ⊎ (let b = file_at files r.file in (field_of b r).start + (field_of b r).width ≤ (field_of b q).start)
fields_apart files q r apart is same section before some some_too =
    let b = file_at files r.file in
    let none = meets_case files q r (meets r.section (field_of b r).start (field_of b r).width (field_of b q)) is same before refl apart in
    ranges_apart q.section r.section (field_of b q).start (field_of b q).width (field_of b r).start (field_of b r).width section some
    some_too none
