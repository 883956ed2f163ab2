-- What a cursor has left.
use Rattle.std.proofs.Common.{◌≡◌, ◌<◌, ◌≤◌, ℕ, zero, suc, ◌+◌, ◌-◌, List, [], ◌∷◌, ◌++◌, length, sym, ap, ◌∙◌, refl, arith}
use Rattle.std.specs.Prelude.{map}
use Rattle.std.proofs.lemmas.List.Concat.{flat_map_single}
use Rattle.object_set.specs.declared.walk.Numbers.{Numbers}
use Rattle.object_set.specs.declared.walk.Numbers.TheVariants.{Sections, Symbols}
use Rattle.object_set.specs.Files.{file_at}
use Rattle.object_set.specs.inside.Left.{numbers_left, files_left}
use Rattle.object_set.specs.inside.Cursor.{count_of, pair_walk, pairs_left, section_id, symbol_id}
use Rattle.object_set.specs.Walks.{all_items, section_walk, symbol_walk}
use Rattle.object_set.specs.laws.Walks.{all_given}

-- nothing is left past the last file
pub pairs_none : (numbers : Numbers) (set : List (List ℕ)) (file number end next : ℕ) → number ≡ end → next ≡ length set →
    pairs_left numbers set file number end next ≡ []
pairs_none numbers set file number end next last over =
    let none : end - number ≡ 0 = omega arith in
    let no_files : length set - next ≡ 0 = omega arith in
    ap (λ (n : ℕ). numbers_left (pair_walk numbers) set file number n ++ files_left (pair_walk numbers) set next (length set - next)) none
    ∙ ap (files_left (pair_walk numbers) set next) no_files

-- past the last number of a file the next file follows
pub pairs_next : (numbers : Numbers) (set : List (List ℕ)) (file number end next : ℕ) → number ≡ end → next < length set →
    pairs_left numbers set next 0 (count_of numbers (file_at set next)) (next + 1) ≡ pairs_left numbers set file number end next
pairs_next numbers set file number end next last more =
    let none : end - number ≡ 0 = omega arith in
    let files : length set - next ≡ suc (length set - (next + 1)) = omega arith in
    let count : count_of numbers (file_at set next) - 0 ≡ count_of numbers (file_at set next) = omega arith in
    ap (λ (n : ℕ). numbers_left (pair_walk numbers) set next 0 n
    ++ files_left (pair_walk numbers) set (next + 1) (length set - (next + 1))) count
    ∙ sym (ap (λ (n : ℕ). numbers_left (pair_walk numbers) set file number n
    ++ files_left (pair_walk numbers) set next (length set - next)) none
    ∙ ap (files_left (pair_walk numbers) set next) files)

-- a number that is left comes first
pub pairs_step : (numbers : Numbers) (set : List (List ℕ)) (file number end next : ℕ) → number < end →
    pairs_left numbers set file number end next ≡ (file, number) ∷ pairs_left numbers set file (number + 1) end next
pairs_step numbers set file number end next left =
    let some : end - number ≡ suc (end - (number + 1)) = omega arith in
    ap (λ (n : ℕ). numbers_left (pair_walk numbers) set file number n ++ files_left (pair_walk numbers) set next (length set - next)) some

-- all files and section numbers are all sections
pub all_sections : (set : List (List ℕ)) → map section_id (all_items (pair_walk Sections) set) ≡ all_items section_walk set
all_sections set =
    sym (flat_map_single section_id (all_items (pair_walk Sections) set))
    ∙ all_given (pair_walk Sections) section_walk set (λ pair. section_id pair ∷ []) (λ file. refl) (λ file n. refl)

-- and all files and symbol numbers are all symbols
pub all_symbols : (set : List (List ℕ)) → map symbol_id (all_items (pair_walk Symbols) set) ≡ all_items symbol_walk set
all_symbols set =
    sym (flat_map_single symbol_id (all_items (pair_walk Symbols) set))
    ∙ all_given (pair_walk Symbols) symbol_walk set (λ pair. symbol_id pair ∷ []) (λ file. refl) (λ file n. refl)
