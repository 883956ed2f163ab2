-- What is read of groups and their starts, and what is written of addresses.
use Rattle.std.proofs.Common.{ℕ, zero, suc, ◌≡◌, ◌<◌, ◌≤◌, ◌+◌, ◌^◌, List, [], ◌∷◌, ◌++◌}
use Rattle.std.proofs.Common.{length, map, get_or, None, ap, sym, subst, ◌∙◌, refl, arith, add-one, append_assoc, length-append}
use Rattle.std.specs.List.{range_with_len}
use Rattle.std.proofs.lemmas.Option.{slice_get_read}
use Rattle.std.proofs.lemmas.List.FromFn.{map-range_with_len_more, get_or-map-range_with_len, length-map-range_with_len}
use Rattle.elf64_records.specs.FileHeader.{e_shnum}
use Rattle.object_set.specs.declared.places.SymbolId.{SymbolId}
use Rattle.object_set.specs.Files.{file_at}
use Rattle.object_set.specs.Refusals.{set_refusal}
use Rattle.object_set.specs.Walks.{items_in, items_before, index_of, section_walk}
use Rattle.toc_groups.specs.declared.extents.TheConstants.{DATA_END}
use Rattle.toc_groups.specs.declared.groups.TocGroup.{TocGroup}
use Rattle.toc_groups.specs.declared.groups.TocGroups.{TocGroups}
use Rattle.toc_groups.specs.Groups.{group_number, group_count, group_at}
use Rattle.toc_groups.specs.Data.{groups_end, group_start, section_address, address_walk}
use Rattle.toc_groups.specs.inside.Open.{IsGroup, AreGroups}
use Rattle.toc_groups.proofs.Bounds.{slots_few}
use Rattle.toc_groups.proofs.Grouping.{group_end}
use Rattle.toc_groups.proofs.GroupFiles.{number_below, whole_of}
use Rattle.toc_groups.proofs.GroupPlaces.{start_low}

module _ (files : List (List ℕ)) (span : ℕ) where
  pub file_number : (numbers : List ℕ) (file n : ℕ) → numbers ≡ map (group_number files span) (range_with_len 0 (length files)) →
      file < length files → n ≡ get_or numbers file n → n ≡ group_number files span file
  file_number numbers file n are within is =
      is ∙ ap (λ (l : List ℕ). get_or l file n) are
      ∙ get_or-map-range_with_len (group_number files span) 0 (length files) file file n within (omega arith)

  pub start_read : (starts : List ℕ) (file number : ℕ) →
      starts ≡ map (group_start files span) (range_with_len 0 (group_count files span)) → file < length files →
      number ≡ group_number files span file →
      (number < length starts) × (get_or starts number 0 ≡ group_start files span (group_number files span file))
  start_read starts file number are within is =
      let count = group_count files span in
      let long = ap (λ (l : List ℕ). length l) are ∙ length-map-range_with_len (group_start files span) 0 count in
      let inside : number < count = omega (arith, is, number_below files span file within) in (
        omega (arith, long, inside),
        ap (λ (l : List ℕ). get_or l number 0) are
            ∙ get_or-map-range_with_len (group_start files span) 0 count number number 0 inside (omega arith)
            ∙ ap (group_start files span) is,
      )

  pub group_there : (laid : TocGroups) (file number : ℕ) → AreGroups files span laid → file < length files →
      number ≡ group_number files span file → number < length laid.groups.items
  group_there laid file number are within is = omega (arith, are.count, is, number_below files span file within)

  pub whole_read : (laid : TocGroups) (file number : ℕ) (group : TocGroup) → AreGroups files span laid → file < length files →
      number ≡ group_number files span file → group ≡ get_or laid.groups.items number group →
      IsGroup files (group_at files span (group_number files span file)) group
  whole_read laid file number group are within is read =
      let inside = group_there laid file number are within is in
      let found = slice_get_read laid.groups.items (length laid.groups.items) number group refl inside read in
      subst (λ (n : ℕ). IsGroup files (group_at files span n) group) is (are.each number group found)

  pub few_there : (file : ℕ) (group : TocGroup) → set_refusal files ≡ None → length files ≤ 4096 → file < length files →
      IsGroup files (group_at files span (group_number files span file)) group → length group.slots.items ≤ 2 ^ 58
  few_there file group whole few within is =
      let g = group_at files span (group_number files span file) in
      let all = whole_of files span file within in
      let end = group_end files span (suc file) in
      let inside : g.first + g.count ≤ length files = omega (arith, all.first, all.count, all.last, end) in
      let most = slots_few files g.first g.count whole inside in
      let long = ap (λ (l : List SymbolId). length l) is.slots in
      omega (arith, most, long, inside, few)

  pub start_is_low : (starts : List ℕ) (file number : ℕ) →
      starts ≡ map (group_start files span) (range_with_len 0 (group_count files span)) → file < length files →
      number ≡ group_number files span file → groups_end files span ≤ DATA_END → get_or starts number 0 < 2 ^ 62
  start_is_low starts file number are within is low =
      let read = start_read starts file number are within is in
      omega (arith, read.1, start_low files span (group_number files span file) (number_below files span file within) low)

  -- one address more
  pub address_more : (file i address : ℕ) (old before new : List ℕ) →
      before ≡ old ++ items_in (address_walk files span) file (file_at files file) i → new ≡ before ++ address ∷ [] →
      address ≡ section_address files span file (file_at files file) i →
      new ≡ old ++ items_in (address_walk files span) file (file_at files file) (i + 1)
  address_more file i address old before new are next is =
      let b = file_at files file in
      next ∙ ap (λ (l : List ℕ). l ++ address ∷ []) are ∙ append_assoc old (items_in (address_walk files span) file b i) (address ∷ [])
      ∙ ap (λ (x : ℕ). old ++ (items_in (address_walk files span) file b i ++ x ∷ [])) is
      ∙ ap (λ (n : ℕ). old ++ items_in (address_walk files span) file b n) (sym (add-one i))

  -- as many addresses as sections
  addresses_in : (file : ℕ) (b : List ℕ) (n : ℕ) →
      length (items_in (address_walk files span) file b n) ≡ length (items_in section_walk file b n)
  addresses_in file b zero = refl
  addresses_in file b (suc n) =
      let one = length-append (items_in (address_walk files span) file b n) (section_address files span file b n ∷ []) in
      let other = length-append (items_in section_walk file b n) (section_walk.items file b n) in
      omega (arith, one, other, addresses_in file b n)

  pub address_count : (n : ℕ) → length (items_before (address_walk files span) files n) ≡ length (items_before section_walk files n)
  address_count zero = refl
  address_count (suc n) =
      let b = file_at files n in
      let one = length-append (items_before (address_walk files span) files n) (items_in (address_walk files span) n b (e_shnum b)) in
      let other = length-append (items_before section_walk files n) (items_in section_walk n b (e_shnum b)) in
      omega (arith, one, other, address_count n, addresses_in n b (e_shnum b))

  pub first_more : (n first : ℕ) (pieces firsts new : List ℕ) → pieces ≡ items_before (address_walk files span) files n →
      firsts ≡ map (λ file. index_of section_walk files file 0) (range_with_len 0 n) → first ≡ length pieces → new ≡ firsts ++ first ∷ [] →
      new ≡ map (λ file. index_of section_walk files file 0) (range_with_len 0 (n + 1))
  first_more n first pieces firsts new pieces_are are is next =
      let f : ℕ → ℕ = λ file. index_of section_walk files file 0 in
      let long = ap (λ (l : List ℕ). length l) pieces_are in
      let this : first ≡ length (items_before section_walk files n) + 0 = omega (arith, is, long, address_count n) in
      next ∙ ap (λ (l : List ℕ). l ++ first ∷ []) are ∙ ap (λ (x : ℕ). map f (range_with_len 0 n) ++ x ∷ []) this
      ∙ sym (map-range_with_len_more f 0 n n (omega arith))

  pub file_more : (n : ℕ) (pieces new : List ℕ) → pieces ≡ items_before (address_walk files span) files n →
      new ≡ pieces ++ items_in (address_walk files span) n (file_at files n) (e_shnum (file_at files n)) →
      new ≡ items_before (address_walk files span) files (n + 1)
  file_more n pieces new are next =
      let b = file_at files n in
      next ∙ ap (λ (l : List ℕ). l ++ items_in (address_walk files span) n b (e_shnum b)) are
      ∙ ap (items_before (address_walk files span) files) (sym (add-one n))
