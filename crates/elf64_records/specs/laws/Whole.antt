-- What a file without a fault has.
use Rattle.std.proofs.Common.{◌≡◌, ℕ, ◌+◌, ◌-◌, ◌/◌, ◌<◌, ◌≤◌, true, false, inl, inr, List, length, eqb, None, ap, arith}
use Rattle.std.specs.Prelude.{not, ◌&&◌}
use Rattle.std.proofs.lemmas.Bool.{cases_lt}
use Rattle.std.proofs.lemmas.Bool.Decides.{nat_tests}
use Rattle.std.proofs.Math.ListN.{drop_of_length-le}
use Rattle.std.specs.List.{list_any}
use Rattle.elf64_records.specs.declared.fault.ElfFault.TheVariants.{BadTable}
use Rattle.elf64_records.specs.declared.fault.Place.TheVariants.{Section}
use Rattle.elf64_records.specs.First.{◌orelse◌, when, first_from}
use Rattle.elf64_records.specs.laws.First.{both_none, walk_none}
use Rattle.elf64_records.specs.FileHeader.{e_shnum}
use Rattle.elf64_records.specs.Sections.{has_bytes, is_rela, sh_name, sh_offset, sh_size, sh_link, sh_info, section_names}
use Rattle.elf64_records.specs.Names.{has_zero_from}
use Rattle.elf64_records.specs.Symbols.{symbol_table, symbol_count, symbol_names, st_name}
use Rattle.elf64_records.specs.Records.{has_records, record_count, r_symbol}
use Rattle.elf64_records.specs.Faults.{first_section, header_fault, range_fault, name_fault, sections_fault, second_fault, symbol_table_fault, symbol_fault, symbols_fault, record_fault, records_fault, rela_fault, has_entries, object_fault}

-- a section of a file whose ranges are whole lies in the file
pub section_in_file : (b : List ℕ) (i : ℕ) → first_section b (range_fault b) ≡ None → i < e_shnum b → has_bytes b i ≡ true →
    sh_offset b i + sh_size b i ≤ length b
unfolding range_fault
section_in_file b i whole within stored =
    let above : 1 ≤ i = grind (arith, nat_tests) in
    let passes : range_fault b i ≡ None = walk_none (range_fault b) 1 (e_shnum b - 1) i whole above (omega arith) in
    grind (arith, nat_tests, passes)

-- a place after which a zero byte stands lies in the table
pub zero_within : (table : List ℕ) (start : ℕ) → has_zero_from table start ≡ true → start < length table
zero_within table start ends =
    elim (cases_lt start (length table)) [
      | inl less ↦ less
      | inr most ↦ (let none : has_zero_from table start ≡ false = ap (list_any (λ c. eqb c 0)) (drop_of_length-le table most) in cc)
    ]

-- the name of each section but the first begins in the table of names
pub name_in_table : (b : List ℕ) (i : ℕ) → sections_fault b ≡ None → 1 ≤ i → i < e_shnum b → sh_name b i < length (section_names b)
unfolding name_fault
name_in_table b i whole above within =
    let ranges_and_names = both_none (first_section b (range_fault b)) (first_section b (name_fault b)) whole in
    let passes : name_fault b i ≡ None = walk_none (name_fault b) 1 (e_shnum b - 1) i ranges_and_names.1 above (omega arith) in
    zero_within (section_names b) (sh_name b i) (grind (arith, passes))

-- the name of each symbol begins in the table of the symbols' names
pub symbol_name_in_table : (b : List ℕ) (j : ℕ) → symbols_fault b ≡ None → j < symbol_count b → st_name b j < length (symbol_names b)
unfolding symbol_fault
symbol_name_in_table b j whole within =
    let others = both_none (first_section b (second_fault b))
    (symbol_table_fault b orelse first_from (symbol_fault b) 0 (symbol_count b)) whole in
    let table_and_names = both_none (symbol_table_fault b) (first_from (symbol_fault b) 0 (symbol_count b)) others.1 in
    let passes : symbol_fault b j ≡ None = walk_none (symbol_fault b) 0 (symbol_count b) j table_and_names.1 (omega arith) (omega arith) in
    zero_within (symbol_names b) (st_name b j) (grind (arith, passes))

-- the sections of a file without a fault
pub sections_whole : (b : List ℕ) → object_fault b ≡ None → sections_fault b ≡ None
sections_whole b whole =
    let others = both_none (header_fault b) (sections_fault b orelse (symbols_fault b orelse first_section b (rela_fault b))) whole in
    (both_none (sections_fault b) (symbols_fault b orelse first_section b (rela_fault b)) others.1).0

-- the records of a file without a fault
pub records_whole : (b : List ℕ) → object_fault b ≡ None → first_section b (rela_fault b) ≡ None
records_whole b whole =
    let others = both_none (header_fault b) (sections_fault b orelse (symbols_fault b orelse first_section b (rela_fault b))) whole in
    let rest = both_none (sections_fault b) (symbols_fault b orelse first_section b (rela_fault b)) others.1 in
    (both_none (symbols_fault b) (first_section b (rela_fault b)) rest.1).1

-- a section of relocation records has no fault
relas_pass : (b : List ℕ) (i : ℕ) → object_fault b ≡ None → i < e_shnum b → is_rela b i ≡ true → rela_fault b i ≡ None
relas_pass b i whole within kind =
    let above : 1 ≤ i = grind (arith, nat_tests) in
    walk_none (rela_fault b) 1 (e_shnum b - 1) i (records_whole b whole) above (omega arith)

-- relocation records are about a section of the file
pub target_in_range : (b : List ℕ) (i : ℕ) → object_fault b ≡ None → i < e_shnum b → is_rela b i ≡ true → sh_info b i < e_shnum b
unfolding rela_fault
target_in_range b i whole within kind =
    let passes : rela_fault b i ≡ None = relas_pass b i whole within kind in
    grind (arith, nat_tests, passes)

-- records that are read stand in a section of relocation records about a kept section
pub read_has_records : (b : List ℕ) (i k : ℕ) → k < record_count b i → has_records b i ≡ true
read_has_records b i k read = grind (arith, nat_tests)

-- nor has what is said of its records
records_pass : (b : List ℕ) (i : ℕ) → rela_fault b i ≡ None → has_records b i ≡ true → records_fault b i ≡ None
unfolding rela_fault
records_pass b i passes kept = grind (arith, nat_tests, passes, kept)

-- nor has each of its records
record_passes : (b : List ℕ) (i k : ℕ) → records_fault b i ≡ None → k < sh_size b i / 24 → record_fault b i k ≡ None
unfolding records_fault
record_passes b i k passes within =
    let table_and_records = both_none
    (when (not (has_entries b i && eqb (sh_link b i) (symbol_table b) && not (eqb (symbol_table b) 0))) (BadTable (Section i)))
    (first_from (record_fault b i) 0 (sh_size b i / 24)) passes in
    walk_none (record_fault b i) 0 (sh_size b i / 24) k table_and_records.1 (omega arith) (omega arith)

-- a record that is read names a symbol of the file
pub symbol_in_range : (b : List ℕ) (i k : ℕ) → object_fault b ≡ None → i < e_shnum b → k < record_count b i →
    r_symbol b i k < symbol_count b
unfolding record_fault
symbol_in_range b i k whole within read =
    let about_kept : has_records b i ≡ true = read_has_records b i k read in
    let kind : is_rela b i ≡ true = grind (arith, about_kept) in
    let below : k < sh_size b i / 24 = grind (arith, about_kept, read) in
    let passes : record_fault b i k ≡ None = record_passes b i k (records_pass b i (relas_pass b i whole within kind) about_kept) below in
    grind (arith, nat_tests, passes)
