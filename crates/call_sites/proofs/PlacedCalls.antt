-- The calls of a file in order of their places are those that stand at each offset of each section.
use Rattle.std.proofs.Common.{◌≡◌, ◌<◌, ◌≤◌, inl, inr, ℕ, zero, suc, ◌+◌, ◌*◌, ◌^◌, Bool, true, false, ◌&&◌, eqb, ltb, List, [], ◌∷◌, ◌++◌, sym, ap, ◌∙◌, subst, refl, arith, append_assoc, if◌then◌else◌}
use Rattle.std.specs.List.{All, filter, flat_map, range_with_len, slice_index_or}
use Rattle.std.proofs.lemmas.Bool.{cases_lt}
use Rattle.std.proofs.lemmas.Bool.Decides.{nat_tests}
use Rattle.std.proofs.lemmas.List.{append-nil}
use Rattle.std.proofs.lemmas.List.Concat.{flat_map-append}
use Rattle.std.proofs.lemmas.List.Sorted.{All-permutation}
use Rattle.elf64_records.specs.FileHeader.{e_shnum}
use Rattle.elf64_records.specs.Sections.{sh_size}
use Rattle.object_set.specs.Sections.{is_text}
use Rattle.object_set.specs.Walks.{items_in}
use Rattle.symbol_table.specs.declared.fields.RecordField.{RecordField}
use Rattle.symbol_table.specs.Fields.{fields_of}
use Rattle.symbol_table.specs.inside.Fields.{rank_of}
use Rattle.symbol_table.specs.laws.FilteredLists.{filter_none}
use Rattle.call_sites.specs.Sites.{is_call, begins_at, calls_at, calls_in, call_walk}
use Rattle.call_sites.specs.inside.Calls.{unsorted_calls, file_calls, IsInOrder}
use Rattle.call_sites.specs.laws.KeptLists.{range_more, filter_same, filter_all, filter_twice, below, at, one_more}

-- a call lies in a text section of the file
pub record IsPlaced (b : List ℕ) (f : RecordField) : Type 0 where
  pub section_in : f.id.section < e_shnum b
  pub text : is_text b f.id.section ≡ true
  pub within : f.start < sh_size b f.id.section
  pub small : sh_size b f.id.section ≤ 0x1000_0000

-- a field at an offset of a section
abbrev field_at : ℕ → ℕ → RecordField
field_at section offset = record {
  id = record { file = 0; table = 0; entry = 0; section = section };
  start = offset;
  width = 0;
}

rank_tells : (own start section offset : ℕ) → start ≤ 0x1000_0000 → offset ≤ 0x1000_0000 →
    eqb (own * 2 ^ 64 + start) (section * 2 ^ 64 + offset) ≡ (eqb own section && eqb start offset)
rank_tells own start section offset small few = grind (arith, nat_tests)

below_tells : (own start section size : ℕ) → start ≤ 0x1000_0000 → size ≤ 0x1000_0000 → (own ≡ section → start < size) →
    ltb (own * 2 ^ 64 + start) ((section + 1) * 2 ^ 64) ≡ ltb (own * 2 ^ 64 + start) (section * 2 ^ 64 + size)
below_tells own start section size small few within =
    elim (cases_lt own section) [
      | inl less ↦ grind (arith, nat_tests)
      | inr more ↦ elim (cases_lt section own) [
        | inl past ↦ grind (arith, nat_tests)
        | inr same ↦ (let here : start < size = within (omega arith) in grind (arith, nat_tests))
      ]
    ]

all_below : (own start count : ℕ) → own < count → start ≤ 0x1000_0000 → ltb (own * 2 ^ 64 + start) (count * 2 ^ 64) ≡ true
all_below own start count within small = grind (arith, nat_tests)

module _ (file : ℕ) (b : List ℕ) (calls : List RecordField) (ordered : IsInOrder (unsorted_calls file b) calls)
    (placed : All (IsPlaced b) (unsorted_calls file b)) where
  sorted_placed : All (IsPlaced b) calls
  sorted_placed = All-permutation (IsPlaced b) (unsorted_calls file b) calls ordered.same placed

  -- the calls of one place
  here : (section offset : ℕ) → offset ≤ 0x1000_0000 →
      filter (at rank_of (section * 2 ^ 64 + offset)) calls ≡ calls_at file b section offset
  here section offset few =
      let unsorted = unsorted_calls file b in
      ordered.stable (field_at section offset)
      ∙ filter_same (at rank_of (section * 2 ^ 64 + offset)) (begins_at section offset) unsorted
      (λ k d within. let is = placed k d within in
      let f = slice_index_or unsorted k d in
      rank_tells f.id.section f.start section offset (omega (arith, is.within, is.small)) few)
      ∙ filter_twice (is_call b) (begins_at section offset) (fields_of file b)

  -- those of the first offsets of a section
  offsets : (section n : ℕ) → n ≤ 0x1000_0000 →
      filter (below rank_of (section * 2 ^ 64 + n)) calls
      ≡ filter (below rank_of (section * 2 ^ 64)) calls ++ flat_map (calls_at file b section) (range_with_len 0 n)
  offsets section zero few =
      let none : section * 2 ^ 64 + 0 ≡ section * 2 ^ 64 = omega arith in
      ap (λ (r : ℕ). filter (below rank_of r) calls) none ∙ sym (append-nil (filter (below rank_of (section * 2 ^ 64)) calls))
  offsets section (suc n) few =
      let f = calls_at file b section in
      let base = filter (below rank_of (section * 2 ^ 64)) calls in
      let next : section * 2 ^ 64 + suc n ≡ suc (section * 2 ^ 64 + n) = omega arith in
      ap (λ (r : ℕ). filter (below rank_of r) calls) next
      ∙ one_more rank_of calls (section * 2 ^ 64 + n) ordered.sorted
      ∙ ap (λ (l : List RecordField). l ++ filter (at rank_of (section * 2 ^ 64 + n)) calls) (offsets section n (omega arith))
      ∙ ap (λ (l : List RecordField). (base ++ flat_map f (range_with_len 0 n)) ++ l) (here section n (omega arith))
      ∙ append_assoc base (flat_map f (range_with_len 0 n)) (f n)
      ∙ ap (λ (l : List RecordField). base ++ (flat_map f (range_with_len 0 n) ++ l)) (sym (append-nil (f n)))
      ∙ ap (λ (l : List RecordField). base ++ l) (sym (flat_map-append f (range_with_len 0 n) (n ∷ [])))
      ∙ ap (λ (l : List ℕ). base ++ flat_map f l) (sym (range_more 0 n n (omega arith)))

  -- those of one section more
  section_case : (section : ℕ) (text : Bool) → is_text b section ≡ text → (text ≡ true → sh_size b section ≤ 0x1000_0000) →
      filter (below rank_of ((section + 1) * 2 ^ 64)) calls
      ≡ filter (below rank_of (section * 2 ^ 64)) calls
      ++ (if text then flat_map (calls_at file b section) (range_with_len 0 (sh_size b section)) else [])
  section_case section true text few =
      filter_same (below rank_of ((section + 1) * 2 ^ 64)) (below rank_of (section * 2 ^ 64 + sh_size b section)) calls
      (λ k d within. let is = sorted_placed k d within in
      let f = slice_index_or calls k d in
      below_tells f.id.section f.start section (sh_size b section) (omega (arith, is.within, is.small)) (few refl)
      (λ same. subst (λ (s : ℕ). f.start < sh_size b s) same is.within))
      ∙ offsets section (sh_size b section) (few refl)
  section_case section false text few =
      filter_same (below rank_of ((section + 1) * 2 ^ 64)) (below rank_of (section * 2 ^ 64 + 0)) calls
      (λ k d within. let is = sorted_placed k d within in
      let f = slice_index_or calls k d in
      below_tells f.id.section f.start section 0 (omega (arith, is.within, is.small)) (omega arith)
      (λ same. let other : is_text b section ≡ true = subst (λ (s : ℕ). is_text b s ≡ true) same is.text in cc))
      ∙ offsets section 0 (omega arith)

  section_more : (section : ℕ) → (is_text b section ≡ true → sh_size b section ≤ 0x1000_0000) →
      filter (below rank_of ((section + 1) * 2 ^ 64)) calls ≡ filter (below rank_of (section * 2 ^ 64)) calls ++ calls_in file b section
  unfolding calls_in
  section_more section few = section_case section (is_text b section) refl few

  -- those of the first sections
  sections : (n : ℕ) → ((i : ℕ) → i < n → is_text b i ≡ true → sh_size b i ≤ 0x1000_0000) →
      filter (below rank_of (n * 2 ^ 64)) calls ≡ items_in call_walk file b n
  sections zero small = filter_none (below rank_of (0 * 2 ^ 64)) calls (λ k d within. grind (arith, nat_tests))
  sections (suc n) small =
      let next : suc n * 2 ^ 64 ≡ (n + 1) * 2 ^ 64 = omega arith in
      ap (λ (r : ℕ). filter (below rank_of r) calls) next
      ∙ section_more n (small n (omega arith))
      ∙ ap (λ (l : List RecordField). l ++ calls_in file b n) (sections n (λ i within text. small i (omega arith) text))

  -- all of them
  pub calls_placed : ((i : ℕ) → i < e_shnum b → is_text b i ≡ true → sh_size b i ≤ 0x1000_0000) → calls ≡ file_calls file b
  calls_placed small =
      let count = e_shnum b in
      sym (filter_all (below rank_of (count * 2 ^ 64)) calls
      (λ k d within. let is = sorted_placed k d within in
      let f = slice_index_or calls k d in
      all_below f.id.section f.start count is.section_in (omega (arith, is.within, is.small))))
      ∙ sections count small
