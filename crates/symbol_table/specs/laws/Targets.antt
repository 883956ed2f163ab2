-- A symbol goes where its definition lies, what goes to text goes to one of the text sections, and an entry that isn't refused is an
-- instruction.
use Rattle.std.proofs.Common.{◌≡◌, ◌<◌, ℕ, ℤ, ◌%◌, Bool, true, false, List, ◌&&◌, ◌||◌}
use Rattle.std.proofs.Common.{length, Option, Some, None, sym, ap, refl, arith, subst, if◌then◌else◌}
use Rattle.std.specs.Prelude.{◌==◌, nat_lt, is_some, unwrap_or, IsSome}
use Rattle.std.proofs.lemmas.Bool.{and_parts}
use Rattle.std.proofs.lemmas.Bool.Decides.{nat_tests}
use Rattle.elf64_records.specs.FileHeader.{e_shnum}
use Rattle.elf64_records.specs.Sections.{sh_size}
use Rattle.elf64_records.specs.Symbols.{symbol_count, st_value}
use Rattle.object_set.specs.Files.{file_at}
use Rattle.object_set.specs.laws.Fit.{file_fit, symbol_fit}
use Rattle.object_set.specs.Refusals.{set_refusal}
use Rattle.object_set.specs.declared.refusal.Refusal.{Refusal}
use Rattle.object_set.specs.declared.refusal.Refusal.TheVariants.{EntryNotCode}
use Rattle.object_set.specs.declared.sort.Sort.{Sort}
use Rattle.object_set.specs.declared.sort.Sort.TheVariants.{Text, Zeroed, Toc, Writable, ReadOnly, Dropped}
use Rattle.object_set.specs.Sections.{is_text, is_text_sort, is_kept_sort, sort_of}
use Rattle.object_set.specs.Symbols.{name_of, is_local, is_weak, has_section, section_index, is_absolute, is_toc_base, index_of}
use Rattle.symbol_table.specs.declared.candidates.Resolution.{Resolution}
use Rattle.symbol_table.specs.declared.candidates.Resolution.TheVariants as resolution
use Rattle.symbol_table.specs.declared.target.CodePlace.{CodePlace}
use Rattle.symbol_table.specs.declared.target.Target.TheVariants as target
use Rattle.object_set.specs.declared.places.SymbolId.{SymbolId}
use Rattle.symbol_table.specs.Text.{text_sections, text_index}
use Rattle.symbol_table.specs.laws.Text.{IsTextSection, text_index_within}
use Rattle.symbol_table.specs.Targets.{IsPlaced, plus_addend, section_target, index_target, own_target, named_target, external_target}
use Rattle.symbol_table.specs.Targets.{target_of, is_defined, definition_of, is_instruction, instruction_in, entry_fault, entry_refusal}
use Rattle.symbol_table.specs.Targets.{entry_at, entry_place}
use Rattle.symbol_table.specs.Candidates.{stands_for, definition_in}
use Rattle.symbol_table.specs.laws.Definitions.{IsDefinition, name_definition, definition_placed}

-- the section of something that goes to text
section_code : (set : List (List ℕ)) (file at i section offset : ℕ) (sort : Sort) →
    section_target set file at i sort ≡ Some (target.Code section offset) →
    (is_text_sort sort ≡ true) × (text_index set file i ≡ section)
section_code set file at i section offset Text is = (refl, cc)
section_code set file at i section offset Zeroed is = cc
section_code set file at i section offset Toc is = cc
section_code set file at i section offset Writable is = cc
section_code set file at i section offset ReadOnly is = cc
section_code set file at i section offset Dropped is = cc

-- section i of a file is text, with its number
index_text : (set : List (List ℕ)) (file i section : ℕ) → file < length set → i < e_shnum (file_at set file) →
    is_text (file_at set file) i ≡ true → text_index set file i ≡ section →
    IsTextSection set section file i
index_text set file i section file_in within text place = record { file_in = file_in; within = within; text = text; index = place }

section_in : (set : List (List ℕ)) (file j : ℕ) → set_refusal set ≡ None → IsPlaced set file j → has_section (file_at set file) j ≡ true →
    index_of (file_at set file) j < e_shnum (file_at set file)
section_in set file j whole placed has =
    (symbol_fit file (file_at set file) j (file_fit set file whole placed.file_in) placed.some placed.within).section has

index_code : (set : List (List ℕ)) (file j at section offset : ℕ) (has : Bool) → has_section (file_at set file) j ≡ has →
    set_refusal set ≡ None → IsPlaced set file j →
    index_target set file at (if has then Some (index_of (file_at set file) j) else None) ≡ Some (target.Code section offset) →
    section < length (text_sections set)
index_code set file j at section offset false has whole placed is = cc
index_code set file j at section offset true has whole placed is =
    let i = index_of (file_at set file) j in
    let lies = section_code set file at i section offset (sort_of (file_at set file) i) is in
    let inside = text_index_within set file i placed.file_in (section_in set file j whole placed has) lies.0 in
    omega (arith, inside, lies.1)

own_code : (set : List (List ℕ)) (file j : ℕ) (addend : ℤ) (section offset : ℕ) (absolute : Bool) → set_refusal set ≡ None →
    IsPlaced set file j →
    (if absolute then Some (target.Number (plus_addend (st_value (file_at set file) j) addend))
    else index_target set file (plus_addend (st_value (file_at set file) j) addend) (section_index (file_at set file) j)) ≡ Some
    (target.Code section offset) →
    section < length (text_sections set)
own_code set file j addend section offset true whole placed is = cc
own_code set file j addend section offset false whole placed is =
    index_code set file j (plus_addend (st_value (file_at set file) j) addend) section offset (has_section (file_at set file) j) refl
    whole placed is

named_code : (set : List (List ℕ)) (name : List ℕ) (weak : Bool) (stands : Resolution) (addend : ℤ) (section offset : ℕ) →
    set_refusal set ≡ None → stands_for set name ≡ stands →
    named_target set name weak stands addend ≡ Some (target.Code section offset) → section < length (text_sections set)
named_code set name weak (resolution.Definition s) addend section offset whole stands is =
    own_code set s.file s.symbol addend section offset (is_absolute (file_at set s.file) s.symbol) whole
    (definition_placed set name s stands) is
named_code set name weak (resolution.Common common) addend section offset whole stands is = cc
named_code set name true resolution.Undefined addend section offset whole stands is = cc
named_code set name false resolution.Undefined addend section offset whole stands is = cc

target_code : (set : List (List ℕ)) (file j : ℕ) (addend : ℤ) (section offset : ℕ) (none base local : Bool) → (j == 0) ≡ none →
    set_refusal set ≡ None → file < length set →
    j < symbol_count (file_at set file) →
    (if none then Some (target.Number (plus_addend 0 addend))
    else (if base then Some (target.TocBase file addend)
    else (if local then own_target set file j addend
    else external_target set file j addend))) ≡ Some (target.Code section offset) →
    section < length (text_sections set)
target_code set file j addend section offset true base local zeroth whole file_in within is = cc
target_code set file j addend section offset false true local zeroth whole file_in within is = cc
target_code set file j addend section offset false false true zeroth whole file_in within is =
    let some : 0 < j = grind (arith, nat_tests, zeroth) in
    own_code set file j addend section offset (is_absolute (file_at set file) j) whole
    (record { file_in = file_in; some = some; within = within }) is
target_code set file j addend section offset false false false zeroth whole file_in within is =
    let b = file_at set file in
    named_code set (name_of b j) (is_weak b j) (stands_for set (name_of b j)) addend section offset whole refl is

-- what goes to text goes to one of the text sections
pub code_within : (set : List (List ℕ)) (file j : ℕ) (addend : ℤ) (section offset : ℕ) → set_refusal set ≡ None → file < length set →
    j < symbol_count (file_at set file) →
    target_of set file j addend ≡ Some (target.Code section offset) → section < length (text_sections set)
code_within set file j addend section offset whole file_in within is =
    let b = file_at set file in
    target_code set file j addend section offset (j == 0) (is_toc_base b j) (is_local b j) refl whole file_in within is

-- an instruction of a section of a file
pub record IsInstructionAt (set : List (List ℕ)) (place : CodePlace) (file section : ℕ) : Type 0 where
  pub lies : IsTextSection set place.section file section
  pub aligned : place.offset % 4 ≡ 0
  pub within : place.offset < sh_size (file_at set file) section

instruction_parts : (b : List ℕ) (i offset : ℕ) → is_instruction b i offset ≡ true →
    (is_text b i ≡ true) × (offset % 4 ≡ 0) × (offset < sh_size b i)
instruction_parts b i offset is =
    let all = and_parts (is_text b i && offset % 4 == 0) (nat_lt offset (sh_size b i)) is in
    let first = and_parts (is_text b i) (offset % 4 == 0) all.0 in
    let aligned = first.1 in
    let within = all.1 in
    (first.0, grind (arith, nat_tests, aligned), grind (arith, nat_tests, within))

index_within : (set : List (List ℕ)) (file j i : ℕ) (has : Bool) → has_section (file_at set file) j ≡ has → set_refusal set ≡ None →
    IsPlaced set file j →
    (if has then Some (index_of (file_at set file) j) else None) ≡ Some i → i < e_shnum (file_at set file)
index_within set file j i false has whole placed is = cc
index_within set file j i true has whole placed is =
    let inside = section_in set file j whole placed has in
    let same : index_of (file_at set file) j ≡ i = cc in
    omega (arith, inside, same)

-- the place in text of an offset of section i of a file, where an instruction stands there
abbrev place_of_text : List (List ℕ) → ℕ → ℕ → ℕ → Bool → Option CodePlace
place_of_text set file i offset there = if there then Some (record { section = text_index set file i; offset = offset }) else None

place_case : (set : List (List ℕ)) (file i offset : ℕ) (there : Bool) (other : CodePlace) (r : Refusal) → file < length set →
    i < e_shnum (file_at set file) →
    is_instruction (file_at set file) i offset ≡ there → (if is_some (place_of_text set file i offset there) then None else Some r) ≡ None →
    IsInstructionAt set (unwrap_or (place_of_text set file i offset there) other) file i
place_case set file i offset false other r file_in within is passes = cc
place_case set file i offset true other r file_in within is passes =
    let parts = instruction_parts (file_at set file) i offset is in
    record {
      lies = record { file_in = file_in; within = within; text = parts.0; index = refl };
      aligned = parts.1;
      within = parts.2;
    }

entry_case : (set : List (List ℕ)) (file j : ℕ) (o : Option ℕ) (other : CodePlace) (r : Refusal) → set_refusal set ≡ None →
    IsPlaced set file j → section_index (file_at set file) j ≡ o →
    (if is_some (instruction_in set file (st_value (file_at set file) j) o) then None else Some r) ≡ None →
    (i : ℕ) × IsInstructionAt set (unwrap_or (instruction_in set file (st_value (file_at set file) j) o) other) file i
entry_case set file j None other r whole placed index passes = cc
entry_case set file j (Some i) other r whole placed index passes =
    let offset = st_value (file_at set file) j in
    let within = index_within set file j i (has_section (file_at set file) j) refl whole placed index in
    (i, place_case set file i offset (is_instruction (file_at set file) i offset) other r placed.file_in within refl passes)

stands_case : (set : List (List ℕ)) (entry : List ℕ) (stands : Resolution) → set_refusal set ≡ None → stands_for set entry ≡ stands →
    entry_fault set entry stands ≡ None →
    (file : ℕ) × (section : ℕ) × IsInstructionAt set (entry_at set stands) file section
stands_case set entry (resolution.Definition s) whole stands passes =
    let found = entry_case set s.file s.symbol (section_index (file_at set s.file) s.symbol) (record { section = 0; offset = 0 })
    (EntryNotCode entry) whole
    (definition_placed set entry s stands) refl passes in
    (s.file, found.0, found.1)
stands_case set entry (resolution.Common common) whole stands passes = cc
stands_case set entry resolution.Undefined whole stands passes = cc

-- an entry that isn't refused is an instruction
pub entry_instruction : (set : List (List ℕ)) (entry : List ℕ) → set_refusal set ≡ None → entry_refusal set entry ≡ None →
    (file : ℕ) × (section : ℕ) × IsInstructionAt set (entry_place set entry) file section
entry_instruction set entry whole passes = stands_case set entry (stands_for set entry) whole refl passes

stands_target : (set : List (List ℕ)) (name : List ℕ) (weak : Bool) (stands : Resolution) (d : SymbolId) (addend : ℤ) →
    definition_in stands ≡ Some d →
    named_target set name weak stands addend ≡ own_target set d.file d.symbol addend
stands_target set name weak (resolution.Definition s) d addend is =
    let this : s ≡ d = cc in
    ap (λ (i : SymbolId). own_target set i.file i.symbol addend) this
stands_target set name weak (resolution.Common common) d addend is = cc
stands_target set name weak resolution.Undefined d addend is = cc

definition_case : (set : List (List ℕ)) (file j : ℕ) (d : SymbolId) (addend : ℤ) (none base local own : Bool) →
    (if none || base then None
    else (if local then (if own then Some (record { file = file; symbol = j }) else None)
    else definition_in (stands_for set (name_of (file_at set file) j)))) ≡ Some d →
    (if none then Some (target.Number (plus_addend 0 addend))
    else (if base then Some (target.TocBase file addend)
    else (if local then own_target set file j addend
    else external_target set file j addend))) ≡ own_target set d.file d.symbol addend
definition_case set file j d addend true base local own is = cc
definition_case set file j d addend false true local own is = cc
definition_case set file j d addend false false true true is =
    let here : SymbolId = record { file = file; symbol = j } in
    let this : here ≡ d = cc in
    ap (λ (i : SymbolId). own_target set i.file i.symbol addend) this
definition_case set file j d addend false false true false is = cc
definition_case set file j d addend false false false own is =
    let b = file_at set file in
    stands_target set (name_of b j) (is_weak b j) (stands_for set (name_of b j)) d addend is

-- a symbol that has a definition goes where the definition lies
pub definition_target : (set : List (List ℕ)) (file j : ℕ) (d : SymbolId) (addend : ℤ) →
    definition_of set file j ≡ Some d →
    target_of set file j addend ≡ own_target set d.file d.symbol addend
definition_target set file j d addend is =
    let b = file_at set file in
    definition_case set file j d addend (j == 0) (is_toc_base b j) (is_local b j) (is_defined b j) is

defined_stands : (set : List (List ℕ)) (name : List ℕ) (stands : Resolution) (d : SymbolId) → stands_for set name ≡ stands →
    definition_in stands ≡ Some d → IsDefinition set d
defined_stands set name (resolution.Definition s) d stands is =
    let this : s ≡ d = cc in
    subst (IsDefinition set) this (name_definition set name s stands)
defined_stands set name (resolution.Common common) d stands is = cc
defined_stands set name resolution.Undefined d stands is = cc

definition_of_case : (set : List (List ℕ)) (file j : ℕ) (d : SymbolId) (none base local own : Bool) → (j == 0) ≡ none →
    is_defined (file_at set file) j ≡ own → file < length set →
    j < symbol_count (file_at set file) →
    (if none || base then None
    else (if local then (if own then Some (record { file = file; symbol = j }) else None)
    else definition_in (stands_for set (name_of (file_at set file) j)))) ≡ Some d →
    IsDefinition set d
definition_of_case set file j d true base local own zeroth has file_in within is = cc
definition_of_case set file j d false true local own zeroth has file_in within is = cc
definition_of_case set file j d false false true true zeroth has file_in within is =
    let some : 0 < j = grind (arith, nat_tests, zeroth) in
    let here : SymbolId = record { file = file; symbol = j } in
    let this : here ≡ d = cc in
    subst (IsDefinition set) this (record { placed = record { file_in = file_in; some = some; within = within }; defined = has })
definition_of_case set file j d false false true false zeroth has file_in within is = cc
definition_of_case set file j d false false false own zeroth has file_in within is =
    let name = name_of (file_at set file) j in
    defined_stands set name (stands_for set name) d refl is

-- what a symbol stands for is a definition
pub symbol_definition : (set : List (List ℕ)) (file j : ℕ) (d : SymbolId) →
    file < length set →
    j < symbol_count (file_at set file) →
    definition_of set file j ≡ Some d →
    IsDefinition set d
symbol_definition set file j d file_in within is =
    let b = file_at set file in
    definition_of_case set file j d (j == 0) (is_toc_base b j) (is_local b j) (is_defined b j) refl refl file_in within is

section_goes : (set : List (List ℕ)) (file at i : ℕ) (sort : Sort) → is_kept_sort sort ≡ true → IsSome (section_target set file at i sort)
section_goes set file at i Text kept = refl
section_goes set file at i Zeroed kept = refl
section_goes set file at i Toc kept = refl
section_goes set file at i Writable kept = refl
section_goes set file at i ReadOnly kept = refl
section_goes set file at i Dropped kept = cc

own_goes : (set : List (List ℕ)) (file j at : ℕ) (absolute has : Bool) →
    (absolute || (has && is_kept_sort (sort_of (file_at set file) (index_of (file_at set file) j)))) ≡ true →
    IsSome (if absolute then Some (target.Number at) else index_target set file at
    (if has then Some (index_of (file_at set file) j) else None))
own_goes set file j at true has is = refl
own_goes set file j at false true is =
    section_goes set file at (index_of (file_at set file) j) (sort_of (file_at set file) (index_of (file_at set file) j)) is
own_goes set file j at false false is = cc

-- a symbol that has a definition goes somewhere
pub definition_goes : (set : List (List ℕ)) (file j : ℕ) (d : SymbolId) (addend : ℤ) →
    file < length set →
    j < symbol_count (file_at set file) →
    definition_of set file j ≡ Some d →
    IsSome (target_of set file j addend)
definition_goes set file j d addend file_in within is =
    let b = file_at set d.file in
    let this = symbol_definition set file j d file_in within is in
    subst IsSome (sym (definition_target set file j d addend is))
    (own_goes set d.file d.symbol (plus_addend (st_value b d.symbol) addend) (is_absolute b d.symbol) (has_section b d.symbol) this.defined)
