-- What is so in each file of a set: none of its sections and symbols is refused.
use Rattle.std.proofs.Common.{◌≡◌, ◌≢◌, ℕ, zero, suc, ◌<◌, ◌≤◌, ◌⊎◌, ◌+◌, ◌-◌, ◌*◌, ◌/◌, ◌%◌, ◌^◌, Bool, true, false, List, [], ◌∷◌, length, take, drop, length-drop, max, Some, None, inl, inr, sym, ap, ◌∙◌, refl, add-zero, arith}
use Rattle.std.specs.Prelude.{not, ◌&&◌, ◌||◌, nat_lt, if◌then◌else◌}
use Rattle.std.proofs.lemmas.Bool.{cases_lt}
use Rattle.std.proofs.lemmas.Bool.Decides.{nat_tests}
use Rattle.std.proofs.lemmas.Nat.{zero_from_ones, pow_pos}
use Rattle.std.proofs.Math.Nat.{pow-suc, pow-le-pow_right}
use Rattle.std.proofs.lemmas.List.{length-take-le}
use Rattle.std.specs.Option.{option_map}
use Rattle.std.specs.Int.{is_power_of_two}
use Rattle.std.specs.Int.RustNames.{count_ones}
use Rattle.std.specs.Int.Count.{ones_step}
use Rattle.ppc_bytes.specs.Bytes.{IsPowerOfTwo}
use Rattle.elf64_records.specs.First.{◌orelse◌, first_from}
use Rattle.elf64_records.specs.laws.First.{both_none, walk_none}
use Rattle.elf64_records.specs.FileHeader.{e_shnum}
use Rattle.elf64_records.specs.Sections.{is_kept, sh_type, sh_size, sh_addralign, sh_offset, has_bytes, section_bytes}
use Rattle.elf64_records.specs.Symbols.{symbol_count, st_value}
use Rattle.elf64_records.specs.Faults.{object_fault, first_section, range_fault, name_fault}
use Rattle.elf64_records.specs.laws.Whole.{sections_whole, section_in_file}
use Rattle.object_set.specs.declared.sort.Sort.{Sort}
use Rattle.object_set.specs.declared.sort.Sort.TheVariants.{Text, Zeroed}
use Rattle.object_set.specs.Files.{file_at}
use Rattle.object_set.specs.Fit.{IsFitSection, IsFitSymbol}
use Rattle.object_set.specs.Sections.{sort_of, is_kept_sort, is_text_sort, is_text, is_power_up_to, is_kept_type, is_unfit_text, is_unfit_toc, has_fit_align, align_of, kept_refusal, section_refusal}
use Rattle.object_set.specs.Symbols.{binding, is_local, index_of, is_undefined, is_common, has_section, lies_in_kept, lies_in_text, is_toc_base, entry_points, has_entries, has_unfit_entries, is_known_binding, is_known_index, is_unfit_symbol, symbol_refusal, value_refusal}
use Rattle.object_set.specs.Refusals.{refusal_of, length_refusal, fault_refusal, sections_refusal, symbols_refusal, file_refusal, files_refusal, set_refusal}

-- the section of a symbol that is fit by itself is one of the file
pub index_in_range : (file : ℕ) (b : List ℕ) (j : ℕ) → symbol_refusal file b j ≡ None → has_section b j ≡ true → index_of b j < e_shnum b
unfolding symbol_refusal
index_in_range file b j fit section = grind (arith, nat_tests, fit, section)

-- the kept sections are those that aren't of the sort Dropped
pub is_kept_sort-sort_of : (b : List ℕ) (i : ℕ) → is_kept_sort (sort_of b i) ≡ is_kept b i
unfolding sort_of
is_kept_sort-sort_of b i = grind (arith, nat_tests)

-- a number with one bit set is a power of two
one_bit : (d n : ℕ) → n ≤ d → count_ones n ≡ 1 → IsPowerOfTwo n
unfolding count_ones
one_bit zero n small one =
    let none : n ≡ 0 = omega arith in
    let some : count_ones n ≡ 0 = ap count_ones none in
    absurd (omega arith)
one_bit (suc d) n small one =
    let step = ones_step n in
    elim (cases_lt (n % 2) 1) [
      | inl even ↦ (
          let half = one_bit d (n / 2) (omega arith) (omega arith) in
          let twice : n ≡ 2 ^ half.0 * 2 = omega (arith, half.1) in
          (suc half.0, twice ∙ sym (pow-suc 2 half.0)))
      | inr odd ↦ (let half : n / 2 ≡ 0 = zero_from_ones (n / 2) (omega arith) in (0, omega arith))
    ]

pub power_of_two : (n : ℕ) → is_power_of_two n ≡ true → IsPowerOfTwo n
power_of_two n one = one_bit n n (omega arith) (grind (arith, nat_tests))

-- none of the files is refused
files_fit : (first : ℕ) (files : List (List ℕ)) (k : ℕ) → files_refusal first files ≡ None → k < length files →
    file_refusal (first + k) (file_at files k) ≡ None
files_fit first [] k none within = absurd (omega arith)
files_fit first (b ∷ rest) zero none within =
    ap (λ n. file_refusal n b) (add-zero first) ∙ (both_none (file_refusal first b) (files_refusal (first + 1) rest) none).0
files_fit first (b ∷ rest) (suc k) none within =
    let later = files_fit (first + 1) rest k (both_none (file_refusal first b) (files_refusal (first + 1) rest) none).1 (omega arith) in
    let same : first + 1 + k ≡ first + suc k = omega arith in
    ap (λ n. file_refusal n (file_at rest k)) (sym same) ∙ later

pub file_fit : (set : List (List ℕ)) (file : ℕ) → set_refusal set ≡ None → file < length set → file_refusal file (file_at set file) ≡ None
file_fit set file none within = let e : 0 + file ≡ file = omega arith in ap (λ n. file_refusal n (file_at set file)) (sym e)
    ∙ files_fit 0 set file none within

-- none of the parts of a file is refused
pub record IsFitFile (file : ℕ) (b : List ℕ) : Type 0 where
  pub length : length_refusal file b ≡ None
  pub fault : fault_refusal file b ≡ None
  pub sections : sections_refusal file b ≡ None
  pub symbols : first_from (symbol_refusal file b) 1 (symbol_count b - 1) ≡ None
  pub values : first_from (value_refusal file b) 1 (symbol_count b - 1) ≡ None

parts_fit : (file : ℕ) (b : List ℕ) → file_refusal file b ≡ None → IsFitFile file b
unfolding file_refusal
parts_fit file b fit =
    let first = both_none (length_refusal file b)
    (fault_refusal file b orelse (sections_refusal file b orelse symbols_refusal file b)) fit in
    let second = both_none (fault_refusal file b) (sections_refusal file b orelse symbols_refusal file b) first.1 in
    let third = both_none (sections_refusal file b) (symbols_refusal file b) second.1 in
    let last = both_none (first_from (symbol_refusal file b) 1 (symbol_count b - 1))
    (first_from (value_refusal file b) 1 (symbol_count b - 1)) third.1 in
    record { length = first.0; fault = second.0; sections = third.0; symbols = last.0; values = last.1 }

-- a file that isn't refused has no fault
no_fault : (file : ℕ) (b : List ℕ) → fault_refusal file b ≡ None → object_fault b ≡ None
unfolding fault_refusal
no_fault file b fit = elim (object_fault b) as
    (λ o. option_map (refusal_of file) o ≡ None → o ≡ None) [ None ↦ λ _. refl | Some fault ↦ λ some. cc ] fit

section_passes : (file : ℕ) (b : List ℕ) (i : ℕ) → IsFitFile file b → is_kept b i ≡ true → i < e_shnum b → kept_refusal file b i ≡ None
unfolding section_refusal
section_passes file b i fit kept within =
    let above : 1 ≤ i = grind (arith, nat_tests) in
    let passes : section_refusal file b i ≡ None =
    walk_none (section_refusal file b) 1 (e_shnum b - 1) i fit.sections above (omega arith) in
    grind (arith, nat_tests, passes, kept)

-- what is asked of a kept section
record IsAsked (b : List ℕ) (i : ℕ) : Type 0 where
  kind : is_kept_type (sh_type b i) ≡ true
  text : is_unfit_text b i ≡ false
  toc : is_unfit_toc b i ≡ false
  align : has_fit_align b i ≡ true

asked : (file : ℕ) (b : List ℕ) (i : ℕ) → kept_refusal file b i ≡ None → IsAsked b i
unfolding kept_refusal
asked file b i passes = record {
  kind = grind (arith, passes);
  text = grind (arith, passes);
  toc = grind (arith, passes);
  align = grind (arith, passes);
}

-- at least 1 or 4, a power of two stays one
least_power : (least a : ℕ) → (least ≡ 1) ⊎ (least ≡ 4) → (a ≡ 0) ⊎ IsPowerOfTwo a → IsPowerOfTwo (max least a)
least_power least a (inl one) (inl none) = (0, grind arith)
least_power least a (inr four) (inl none) = (2, grind arith)
least_power least a (inl one) (inr power) =
    let some : 1 ≤ 2 ^ power.0 = pow_pos power.0 in
    (power.0, omega (arith, power.1))
least_power least a (inr four) (inr power) =
    elim (cases_lt power.0 2) [
      | inl less ↦ (
          let low : power.0 ≤ 2 = omega arith in
          let small : 2 ^ power.0 ≤ 2 ^ 2 = pow-le-pow_right {n = 2} (omega arith) low in
          let four_is : 2 ^ 2 ≡ 4 = refl in
          (2, omega (arith, power.1)))
      | inr most ↦ (
          let large : 2 ^ 2 ≤ 2 ^ power.0 = pow-le-pow_right {n = 2} (omega arith) most in
          let four_is : 2 ^ 2 ≡ 4 = refl in
          (power.0, omega (arith, power.1)))
    ]

fit_align : (b : List ℕ) (i : ℕ) → has_fit_align b i ≡ true → (sh_addralign b i ≡ 0) ⊎ IsPowerOfTwo (sh_addralign b i)
fit_align b i fit =
    elim (cases_lt (sh_addralign b i) 1) [
      | inl none ↦ inl (omega arith)
      | inr some ↦ inr (power_of_two (sh_addralign b i) (grind (arith, nat_tests, fit)))
    ]

align_power : (b : List ℕ) (i : ℕ) → has_fit_align b i ≡ true → IsPowerOfTwo (align_of b i)
align_power b i fit = least_power (if is_text b i then 4 else 1) (sh_addralign b i) (grind arith) (fit_align b i fit)

-- a section of a whole file whose bytes stand in it has them all
pub length-section_bytes : (b : List ℕ) (i : ℕ) → object_fault b ≡ None → i < e_shnum b → has_bytes b i ≡ true →
    length (section_bytes b i) ≡ sh_size b i
length-section_bytes b i whole within stored =
    let ranges = (both_none (first_section b (range_fault b)) (first_section b (name_fault b)) (sections_whole b whole)).0 in
    let inside : sh_offset b i + sh_size b i ≤ length b = section_in_file b i ranges within stored in
    let size : sh_offset b i + sh_size b i - sh_offset b i ≡ sh_size b i = omega arith in
    let room : sh_size b i ≤ length (drop (sh_offset b i) b) = simp length-drop (omega arith) in
    let taken : length (take (sh_size b i) (drop (sh_offset b i) b)) ≡ sh_size b i =
    length-take-le (sh_size b i) (drop (sh_offset b i) b) room in
    let all : section_bytes b i ≡ take (sh_size b i) (drop (sh_offset b i) b) = grind (arith, stored, size) in
    ap length all ∙ taken

-- the bytes of a kept section that isn't zeroed stand in the file
kept_stored : (b : List ℕ) (i : ℕ) → is_kept b i ≡ true → sort_of b i ≢ Zeroed → IsAsked b i → has_bytes b i ≡ true
unfolding sort_of
kept_stored b i kept not_zeroed a =
    let text = a.text in
    let kind = a.kind in
    grind (arith, nat_tests, kept, not_zeroed, text, kind)

-- the kept sections of a file that isn't refused
pub section_fit : (file : ℕ) (b : List ℕ) (i : ℕ) → file_refusal file b ≡ None → i < e_shnum b → is_kept_sort (sort_of b i) ≡ true →
    IsFitSection b i
unfolding sort_of
section_fit file b i fit within kept =
    let parts = parts_fit file b fit in
    let flag : is_kept b i ≡ true = sym (is_kept_sort-sort_of b i) ∙ kept in
    let a = asked file b i (section_passes file b i parts flag within) in
    record {
      kind = a.kind;
      align = align_power b i a.align;
      align_most = grind (arith, nat_tests, a.align);
      toc_align_most = λ toc. grind (arith, nat_tests, a.align);
      text_whole = λ text. grind (arith, nat_tests, a.text);
      stored = λ not_zeroed.
          length-section_bytes b i (no_fault file b parts.fault) within (kept_stored b i flag not_zeroed a);
    }

-- what is asked of a symbol
record IsAskedSymbol (b : List ℕ) (j : ℕ) : Type 0 where
  fit : is_unfit_symbol b j ≡ false
  common : (is_common b j && not (is_power_up_to 0x10000 (st_value b j))) ≡ false

asked_symbol : (file : ℕ) (b : List ℕ) (j : ℕ) → symbol_refusal file b j ≡ None → IsAskedSymbol b j
unfolding symbol_refusal
asked_symbol file b j passes = record { fit = grind (arith, passes); common = grind (arith, passes) }

-- what is asked of a symbol in a kept section
asked_value : (file : ℕ) (b : List ℕ) (j : ℕ) → value_refusal file b j ≡ None →
    (lies_in_kept b j && (nat_lt (sh_size b (index_of b j)) (st_value b j) || has_unfit_entries b j)) ≡ false
unfolding value_refusal
asked_value file b j passes = grind (arith, passes)

-- tests that fail
all_false : (p q r s : Bool) → (p || q || r || s) ≡ false → (p ≡ false) × (q ≡ false) × (r ≡ false) × (s ≡ false)
all_false true q r s none = cc
all_false false true r s none = cc
all_false false false true s none = cc
all_false false false false true none = cc
all_false false false false false none = (refl, refl, refl, refl)

and_not : (p q : Bool) → (p && not q) ≡ false → p ≡ true → q ≡ true
and_not true true none holds = refl
and_not true false none holds = cc
and_not false q none holds = cc

not_false : (p : Bool) → not p ≡ false → p ≡ true
not_false true none = refl
not_false false none = cc

not_both : (p q : Bool) → (p && q) ≡ false → q ≡ true → p ≡ false
not_both true true none holds = cc
not_both true false none holds = cc
not_both false q none holds = refl

neither : (p q r : Bool) → (p && (q || r)) ≡ false → p ≡ true → (q ≡ false) × (r ≡ false)
neither true true r none holds = cc
neither true false true none holds = cc
neither true false false none holds = (refl, refl)
neither false q r none holds = cc

-- text is kept
kept_text : (s : Sort) → is_text_sort s ≡ true → is_kept_sort s ≡ true
kept_text = elim [ Text ↦ λ _. refl | _ ↦ λ text. cc ]

text_kept : (b : List ℕ) (j : ℕ) → lies_in_text b j ≡ true → lies_in_kept b j ≡ true
text_kept b j text =
    let kept = kept_text (sort_of b (index_of b j)) in
    grind (arith, text, kept)

-- the symbols of a file that isn't refused
pub symbol_fit : (file : ℕ) (b : List ℕ) (j : ℕ) → file_refusal file b ≡ None → 1 ≤ j → j < symbol_count b → IsFitSymbol b j
symbol_fit file b j fit above within =
    let parts = parts_fit file b fit in
    let itself : symbol_refusal file b j ≡ None =
    walk_none (symbol_refusal file b) 1 (symbol_count b - 1) j parts.symbols above (omega arith) in
    let lies : value_refusal file b j ≡ None = walk_none (value_refusal file b) 1 (symbol_count b - 1) j parts.values above (omega arith) in
    let a = asked_symbol file b j itself in
    let each = all_false (not (is_known_binding (binding b j))) (not (is_known_index (e_shnum b) (index_of b j)))
    (is_toc_base b j && not (is_undefined b j)) (is_local b j && is_common b j) a.fit in
    let place : is_known_index (e_shnum b) (index_of b j) ≡ true = not_false (is_known_index (e_shnum b) (index_of b j)) each.1 in
    let power : is_common b j ≡ true → is_power_up_to 0x10000 (st_value b j) ≡ true =
    and_not (is_common b j) (is_power_up_to 0x10000 (st_value b j)) a.common in
    let asked = asked_value file b j lies in
    let both = neither (lies_in_kept b j) (nat_lt (sh_size b (index_of b j)) (st_value b j)) (has_unfit_entries b j) asked in
    record {
      bound = not_false (is_known_binding (binding b j)) each.0;
      placed = grind (arith, place);
      section = index_in_range file b j itself;
      toc_base = and_not (is_toc_base b j) (is_undefined b j) each.2;
      common_known = not_both (is_local b j) (is_common b j) each.3;
      common_align = λ common. power_of_two (st_value b j) (grind (arith, power common));
      common_align_most = λ common. grind (arith, nat_tests, power common);
      within = λ kept. grind (arith, nat_tests, (both kept).0);
      entries = λ text.
          and_not (lies_in_text b j) (has_entries (entry_points b j) (st_value b j) (sh_size b (index_of b j)))
          (both (text_kept b j text)).1 text;
    }
