-- The address of a symbol that doesn't stand for a number is that of a place of the image, and low.
use Rattle.std.proofs.Common.{ℕ, pos, ◌≡◌, ◌<◌, ◌≤◌, ◌+◌, ◌-◌, ◌^◌, ◌&&◌, ◌||◌, inl, inr, Bool, true, false, List, length, Some, None, slice_index, ap, sym, ◌∙◌, subst, refl, arith, if◌then◌else◌}
use Rattle.std.specs.Prelude.{◌==◌}
use Rattle.std.specs.Int.{w64, cast_signed, cast_unsigned}
use Rattle.std.proofs.Math.Nat.{mod-le}
use Rattle.std.proofs.lemmas.Bool.{cases_lt}
use Rattle.std.proofs.lemmas.Bool.Decides.{nat_tests}
use Rattle.std.proofs.lemmas.Int.{of_z-to_z}
use Rattle.std.proofs.lemmas.Option.{get_or_from_slice_get}
use Rattle.elf64_records.specs.FileHeader.{e_shnum}
use Rattle.elf64_records.specs.Sections.{sh_size, section_bytes}
use Rattle.elf64_records.specs.Symbols.{symbol_count, st_value}
use Rattle.object_set.specs.declared.places.SectionId.{SectionId}
use Rattle.object_set.specs.declared.sort.Sort.{Sort}
use Rattle.object_set.specs.declared.sort.Sort.TheVariants.{Text, Zeroed, Toc, Writable, ReadOnly, Dropped}
use Rattle.object_set.specs.Files.{file_at}
use Rattle.object_set.specs.Fit.{IsFitSymbol}
use Rattle.object_set.specs.Refusals.{set_refusal}
use Rattle.object_set.specs.Sections.{sort_of, is_text, is_text_sort, is_kept_sort}
use Rattle.object_set.specs.Symbols.{name_of, is_local, is_weak, index_of, has_section, section_index, is_absolute, is_toc_base, lies_in_kept}
use Rattle.object_set.specs.laws.Fit.{file_fit, symbol_fit}
use Rattle.symbol_table.specs.declared.candidates.Resolution.{Resolution}
use Rattle.symbol_table.specs.declared.candidates.Resolution.TheVariants as resolution
use Rattle.symbol_table.specs.declared.target.Piece.TheVariants.{Section, Common}
use Rattle.symbol_table.specs.declared.target.Target.{Target}
use Rattle.symbol_table.specs.declared.target.Target.TheVariants.{Data, Code, Number, TocBase, WeakNone}
use Rattle.symbol_table.specs.Candidates.{stands_for, definition_in, common_number}
use Rattle.symbol_table.specs.Targets.{plus_addend, section_target, index_target, own_target, named_target, external_target, target_of, is_defined, definition_of}
use Rattle.symbol_table.specs.Text.{text_sections, text_index}
use Rattle.symbol_table.specs.laws.Definitions.{definition_placed}
use Rattle.symbol_table.specs.laws.Text.{text_index_found, text_index_within}
use Rattle.call_sites.specs.laws.TextSizes.{text_whole}
use Rattle.toc_groups.specs.Data.{base_of, section_address, common_address}
use Rattle.toc_groups.specs.Parts.{IsTargetOf, is_laid_sort}
use Rattle.toc_groups.specs.Parts.Part.{of_section}
use Rattle.toc_groups.specs.PlacedData.{IsPlacedData}
use Rattle.toc_groups.specs.Values.{address_of, symbol_address}
use Rattle.toc_groups.proofs.RecordValues.{symbol_address_is}
use Rattle.pcrel_rewrite.specs.Pairs.{is_number}
use Rattle.image_writer.specs.Places.{bytes_of}
use Rattle.image_writer.specs.Text.{text_section, no_section}

-- what a sum with nothing is
sum_most : (n : ℕ) → plus_addend n (pos 0) ≤ n
sum_most n =
    let most = mod-le (n + cast_unsigned w64 (pos 0)) (2 ^ 64) in
    let none : cast_unsigned w64 (pos 0) ≡ 0 = refl in
    omega (arith, most, none)

module _ (files : List (List ℕ)) (span : ℕ) (text : List ℕ) (whole : set_refusal files ≡ None) (placed : IsPlacedData files span)
    (ends : (s : ℕ) → s < length (text_sections files) → slice_index text s + length (bytes_of files s) ≤ 0x60000000) where
  abbrev IsLow : Target → Type 0
  IsLow t = address_of files span text t ≤ 0x60000000

  -- a place in a section of data
  data_low : (file i at : ℕ) → file < length files → i < e_shnum (file_at files file) → is_laid_sort
      (sort_of (file_at files file) i) ≡ true →
      at ≤ sh_size (file_at files file) i → IsLow (Data (Section file i) (cast_signed w64 at))
  data_low file i at file_in within laid most =
      let b = file_at files file in
      let start = section_address files span file b i in
      let low = placed.pieces (Section file i) (file_in, within) in
      let room : start + at ≤ 0x60000000 =
      elim (cases_lt 0 (sh_size b i)) [
        | inl some ↦ (
            let last = placed.parts (of_section file i) (start + sh_size b i - 1) (record {
              is = (file_in, within, laid);
              covers = record { from = omega (arith, some); below = omega (arith, some) };
            }) in
            omega (arith, last.limit, most, some))
        | inr none ↦ omega (arith, low, most, none)
      ] in
      let back = of_z-to_z w64 at (omega (arith, room)) in
      let sum = mod-le (start + cast_unsigned w64 (cast_signed w64 at)) (2 ^ 64) in
      omega (arith, room, back, sum)

  -- a place in a section of text
  text_low : (file i at : ℕ) → file < length files → i < e_shnum (file_at files file) → is_text (file_at files file) i ≡ true →
      at ≤ sh_size (file_at files file) i → IsLow (Code (text_index files file i) at)
  text_low file i at file_in within is_in_text most =
      let n = text_index files file i in
      let number_in = text_index_within files file i file_in within is_in_text in
      let id : text_section files n ≡ record { file = file; section = i } =
      get_or_from_slice_get (text_sections files) n (record { file = file; section = i }) no_section
      (text_index_found files file i file_in within is_in_text) in
      let size = ap (λ (s : SectionId). length (section_bytes (file_at files s.file) s.section)) id
      ∙ text_whole files file i whole file_in within is_in_text in
      let end = ends n number_in in
      let sum = mod-le (slice_index text n + at) (2 ^ 64) in
      omega (arith, most, size, end, sum)

  section_low : (file i at : ℕ) (sort : Sort) (t : Target) → file < length files → i < e_shnum (file_at files file) →
      sort_of (file_at files file) i ≡ sort → (is_kept_sort sort ≡ true → at ≤ sh_size (file_at files file) i) →
      section_target files file at i sort ≡ Some t → IsLow t
  section_low file i at Text t file_in within is most goes =
      let same : Code (text_index files file i) at ≡ t = cc in
      subst IsLow same (text_low file i at file_in within (ap is_text_sort is) (most refl))
  section_low file i at Zeroed t file_in within is most goes =
      let same : Data (Section file i) (cast_signed w64 at) ≡ t = cc in
      subst IsLow same (data_low file i at file_in within (ap is_laid_sort is) (most refl))
  section_low file i at Toc t file_in within is most goes =
      let same : Data (Section file i) (cast_signed w64 at) ≡ t = cc in
      subst IsLow same (data_low file i at file_in within (ap is_laid_sort is) (most refl))
  section_low file i at Writable t file_in within is most goes =
      let same : Data (Section file i) (cast_signed w64 at) ≡ t = cc in
      subst IsLow same (data_low file i at file_in within (ap is_laid_sort is) (most refl))
  section_low file i at ReadOnly t file_in within is most goes =
      let same : Data (Section file i) (cast_signed w64 at) ≡ t = cc in
      subst IsLow same (data_low file i at file_in within (ap is_laid_sort is) (most refl))
  section_low file i at Dropped t file_in within is most goes = cc

  -- a symbol's own place
  index_low : (file j : ℕ) (has : Bool) (t : Target) → file < length files → has_section (file_at files file) j ≡ has →
      IsFitSymbol (file_at files file) j →
      index_target files file (plus_addend (st_value (file_at files file) j) (pos 0))
      (if has then Some (index_of (file_at files file) j) else None)
      ≡ Some t → IsLow t
  index_low file j false t file_in is fit goes = cc
  index_low file j true t file_in is fit goes =
      let b = file_at files file in
      let i = index_of b j in
      let sum = sum_most (st_value b j) in
      section_low file i (plus_addend (st_value b j) (pos 0)) (sort_of b i) t file_in (fit.section is) refl
      (λ kept. (let most = fit.within (ap (λ (h : Bool). h && is_kept_sort (sort_of b i)) is ∙ kept) in omega (arith, sum, most)))
      goes

  own_low : (file j : ℕ) (absolute : Bool) (t : Target) → file < length files → 1 ≤ j → j < symbol_count (file_at files file) →
      absolute ≡ false →
      (let b = file_at files file in
      let at = plus_addend (st_value b j) (pos 0) in
      if absolute then Some (Number at) else index_target files file at (section_index b j)) ≡ Some t → IsLow t
  own_low file j true t file_in least within none goes = cc
  own_low file j false t file_in least within none goes =
      let b = file_at files file in
      index_low file j (has_section b j) t file_in refl
      (symbol_fit file b j (file_fit files file whole file_in) least within) goes

  named_low : (name : List ℕ) (weak : Bool) (stands : Resolution) (t : Target) → stands_for files name ≡ stands →
      is_number files (definition_in stands) ≡ false → IsTargetOf files t → named_target files name weak stands (pos 0) ≡ Some t → IsLow t
  named_low name weak (resolution.Definition s) t is none there goes =
      let own = definition_placed files name s is in
      own_low s.file s.symbol (is_absolute (file_at files s.file) s.symbol) t own.file_in own.some own.within none goes
  named_low name weak (resolution.Common common) t is none there goes =
      let same : Data (Common (common_number files name)) (pos 0) ≡ t = cc in
      let within : IsTargetOf files (Data (Common (common_number files name)) (pos 0)) = subst (IsTargetOf files) (sym same) there in
      let low = placed.pieces (Common (common_number files name)) within in
      let sum = sum_most (common_address files span (common_number files name)) in
      subst IsLow same (omega (arith, low, sum))
  named_low name true resolution.Undefined t is none there goes =
      let same : WeakNone (pos 0) ≡ t = cc in
      let sum = sum_most 0 in
      subst IsLow same (omega (arith, sum))
  named_low name false resolution.Undefined t is none there goes = cc

  not_number : (file j : ℕ) (absolute kept : Bool) → is_absolute (file_at files file) j ≡ absolute →
      is_number files (if absolute || kept then Some (record { file = file; symbol = j }) else None) ≡ false → absolute ≡ false
  not_number file j true kept is none = sym is ∙ none
  not_number file j false kept is none = refl

  symbol_case : (file j : ℕ) (first base local : Bool) (t : Target) → (j == 0) ≡ first → file < length files →
      j < symbol_count (file_at files file) → IsTargetOf files t →
      is_number files
      (if first || base then None
      else (if local then (if is_defined (file_at files file) j then Some (record { file = file; symbol = j }) else None)
      else definition_in (stands_for files (name_of (file_at files file) j)))) ≡ false →
      (if first then Some (Number (plus_addend 0 (pos 0)))
      else (if base then Some (TocBase file (pos 0))
      else (if local then own_target files file j (pos 0)
      else external_target files file j (pos 0)))) ≡ Some t → IsLow t
  symbol_case file j true base local t is file_in within there none goes =
      let same : Number (plus_addend 0 (pos 0)) ≡ t = cc in
      let sum = sum_most 0 in
      subst IsLow same (omega (arith, sum))
  symbol_case file j false true local t is file_in within there none goes =
      let same : TocBase file (pos 0) ≡ t = cc in
      let low = placed.bases file file_in in
      let sum = sum_most (base_of files span file) in
      subst IsLow same (omega (arith, low, sum))
  symbol_case file j false false true t is file_in within there none goes =
      let b = file_at files file in
      let some : 1 ≤ j = grind (arith, nat_tests, is) in
      own_low file j (is_absolute b j) t file_in some within
      (not_number file j (is_absolute b j) (lies_in_kept b j) refl none) goes
  symbol_case file j false false false t is file_in within there none goes =
      let b = file_at files file in
      named_low (name_of b j) (is_weak b j) (stands_for files (name_of b j)) t refl none there goes

  -- so is the address of a symbol that goes somewhere
  pub symbol_low : (file j : ℕ) (t : Target) → file < length files → j < symbol_count (file_at files file) → IsTargetOf files t →
      target_of files file j (pos 0) ≡ Some t → is_number files (definition_of files file j) ≡ false →
      symbol_address files span text file j ≤ 0x60000000
  symbol_low file j t file_in within there goes none =
      let b = file_at files file in
      let low = symbol_case file j (j == 0) (is_toc_base b j) (is_local b j) t refl file_in within there none goes in
      omega (arith, low, symbol_address_is files span text file j t goes)
