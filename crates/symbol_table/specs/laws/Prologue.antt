-- A function with two entry points has the words of its prologue.
use Rattle.std.proofs.Common.{◌≡◌, ◌<◌, ◌≤◌, ◌+◌, ◌%◌, ℕ, zero, suc, Bool, true, false, ◌&&◌, List, length, None, sym, ap, ◌∙◌, subst, refl, arith}
use Rattle.std.specs.List.{range_with_len}
use Rattle.std.proofs.lemmas.List.Folds.{Any-from_list_any}
use Rattle.std.proofs.lemmas.List.FromFn.{length-range_with_len, get_or-range_with_len}
use Rattle.std.proofs.lemmas.Bool.Decides.{nat_tests}
use Rattle.elf64_records.specs.Sections.{sh_size, section_bytes}
use Rattle.elf64_records.specs.FileHeader.{e_shnum}
use Rattle.elf64_records.specs.Symbols.{symbol_count, st_value}
use Rattle.object_set.specs.Files.{file_at}
use Rattle.object_set.specs.Refusals.{set_refusal}
use Rattle.object_set.specs.Sections.{sort_of, is_text}
use Rattle.object_set.specs.Symbols.{has_section, index_of, entry_points, lies_in_text, has_entries}
use Rattle.object_set.specs.laws.Fit.{file_fit, symbol_fit}
use Rattle.symbol_table.specs.Prologue.{stands_at, has_two_entries}
use Rattle.symbol_table.specs.laws.Sections.{text_about, text_stored, bytes_whole}

-- section 0 isn't text
zeroth_section : (b : List ℕ) → is_text b 0 ≡ false
unfolding sort_of
zeroth_section b = refl

-- a symbol that stands at a place
record Stands (b : List ℕ) (section at j : ℕ) : Type 0 where
  within : j < symbol_count b
  has : has_section b j ≡ true
  index : index_of b j ≡ section
  value : st_value b j ≡ at
  points : entry_points b j ≡ 3

stands_case : (b : List ℕ) (section at j : ℕ) → j < symbol_count b → stands_at b section at j ≡ true → Stands b section at j
stands_case b section at j within stands = record {
  within = within;
  has = grind (arith, nat_tests, stands);
  index = grind (arith, nat_tests, stands);
  value = grind (arith, nat_tests, stands);
  points = grind (arith, nat_tests, stands);
}

some_stands : (b : List ℕ) (section at : ℕ) → has_two_entries b section at ≡ true → (j : ℕ) × Stands b section at j
some_stands b section at two =
    let numbers = range_with_len 0 (symbol_count b) in
    let found = Any-from_list_any (stands_at b section at) numbers two in
    let within : found.0 < symbol_count b = omega (arith, found.2, length-range_with_len 0 (symbol_count b)) in
    let is : found.1 ≡ found.0 = sym found.3 ∙ get_or-range_with_len 0 (symbol_count b) found.0 found.1 within ∙ omega arith in
    (found.1, stands_case b section at found.1 (omega (arith, is, within)) found.4)

-- where it stands the words of the prologue lie in the section
pub record IsInside (b : List ℕ) (section at : ℕ) : Type 0 where
  pub aligned : at % 4 ≡ 0
  pub within : at + 8 < sh_size b section
  pub stored : length (section_bytes b section) ≡ sh_size b section

points_case : (at size : ℕ) → has_entries 3 at size ≡ true → (at % 4 ≡ 0) × (at + 8 < size)
points_case at size fit = (grind (arith, nat_tests, fit), grind (arith, nat_tests, fit))

symbol_above : (b : List ℕ) (section at j : ℕ) → is_text b section ≡ true → Stands b section at j → 1 ≤ j
symbol_above b section at zero text stands =
    let none : section ≡ 0 = sym stands.index in
    let other = subst (λ (i : ℕ). is_text b i ≡ true) none text in
    let first = zeroth_section b in
    cc
symbol_above b section at (suc j) text stands = omega arith

pub two_entries_inside : (set : List (List ℕ)) (file section at : ℕ) → set_refusal set ≡ None → file < length set →
    section < e_shnum (file_at set file) → is_text (file_at set file) section ≡ true →
    has_two_entries (file_at set file) section at ≡ true → IsInside (file_at set file) section at
two_entries_inside set file section at whole file_in within text two =
    let b = file_at set file in
    let symbol = some_stands b section at two in
    let j = symbol.0 in
    let stands = symbol.1 in
    let above = symbol_above b section at j text stands in
    let fit = symbol_fit file b j (file_fit set file whole file_in) above stands.within in
    let there : is_text b (index_of b j) ≡ true = subst (λ (i : ℕ). is_text b i ≡ true) (sym stands.index) text in
    let lies : lies_in_text b j ≡ true = ap (λ (x : Bool). x && is_text b (index_of b j)) stands.has ∙ there in
    let entries = fit.entries lies in
    let three = subst (λ (e : ℕ). has_entries e (st_value b j) (sh_size b (index_of b j)) ≡ true) stands.points entries in
    let here = subst (λ (v : ℕ). has_entries 3 v (sh_size b (index_of b j)) ≡ true) stands.value three in
    let all = subst (λ (i : ℕ). has_entries 3 at (sh_size b i) ≡ true) stands.index here in
    let parts = points_case at (sh_size b section) all in
    record {
      aligned = parts.0;
      within = parts.1;
      stored = bytes_whole set file section whole file_in (text_about b section within text) (text_stored b section text);
    }
