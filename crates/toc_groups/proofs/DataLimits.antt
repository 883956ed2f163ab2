-- Where data, its bases and text lie at most.
use Rattle.std.proofs.Common.{ℕ, ◌≡◌, ◌<◌, ◌≤◌, ◌+◌, ◌%◌, ◌⊎◌, inl, inr, Bool, true, false, ◌==◌, List, length, take, get_or, None, ap, refl, arith, if◌then◌else◌, ◌++◌}
use Rattle.std.proofs.lemmas.Bool.{cases_lt}
use Rattle.std.proofs.lemmas.Bool.Decides.{nat_tests}
use Rattle.std.proofs.lemmas.List.FromFn.{get_or-map-range_with_len}
use Rattle.elf64_exec.specs.declared.memory_map.TheConstants.{IMAGE_START, PAGE}
use Rattle.elf64_records.specs.FileHeader.{e_shnum}
use Rattle.layout_rounds.specs.Shapes.{aligned}
use Rattle.layout_rounds.proofs.Aligned.{aligned_most}
use Rattle.elf64_records.specs.Sections.{sh_size}
use Rattle.object_set.specs.declared.sort.Sort.{Sort}
use Rattle.object_set.specs.declared.sort.Sort.TheVariants.{Text, Zeroed, Toc, Writable, ReadOnly, Dropped}
use Rattle.object_set.specs.Files.{file_at}
use Rattle.object_set.specs.Refusals.{set_refusal}
use Rattle.object_set.specs.Sections.{sort_of, is_kept_sort}
use Rattle.object_set.specs.Walks.{items_in}
use Rattle.symbol_table.specs.declared.target.Piece.{Piece}
use Rattle.symbol_table.specs.declared.target.Piece.TheVariants.{Section, Common}
use Rattle.toc_groups.specs.declared.extents.Extent.{Extent}
use Rattle.toc_groups.specs.Runs.{placed, run_end, no_piece, IsFitExtent}
use Rattle.toc_groups.specs.Sections.{sort_walk, section_extent, sections_of, sections_before, commons_of}
use Rattle.toc_groups.specs.Groups.{group_number, group_count, group_at, group_extent, group_extents, tocs_of}
use Rattle.toc_groups.specs.Data.{read_only_end, writable_start, groups_end, writable_end, zeroed_end, commons_end, data_end, text_start, group_start, base_of, toc_before, address_by_sort, piece_address, data_refusal}
use Rattle.toc_groups.specs.Parts.{Part, IsPieceOf, IsPart, Takes, is_laid_sort, start_of, size_of}
use Rattle.toc_groups.specs.PlacedData.{IsInSegment, IsPlacedData}
use Rattle.toc_groups.specs.Parts.Part.{of_section, of_slot, of_common}
use Rattle.toc_groups.proofs.Regions.{has_room, lies, sort_lies}
use Rattle.toc_groups.proofs.Commons.{commons_fit}
use Rattle.toc_groups.proofs.Laying.{low_begins, fit_section, fit_at, aligned_least, run_grows}
use Rattle.toc_groups.proofs.Placing.{tocs_there, slots_there, toc_begins}
use Rattle.toc_groups.proofs.Rooms.{data_low, end_low}
use Rattle.toc_groups.proofs.Running.{in_order, page_low}
use Rattle.toc_groups.proofs.GroupOrder.{whole_size, group_in, group_tocs_fit}
use Rattle.toc_groups.proofs.SectionOrder.{sections_fit, section_in}
use Rattle.toc_groups.proofs.Begins.{number_begins, take_begins}
use Rattle.toc_groups.proofs.GroupFiles.{number_below}
use Rattle.toc_groups.proofs.GroupPlaces.{groups_fit}

-- pages begin at multiples of their size
pub page_whole : (n : ℕ) → aligned n 0x10000 % 0x10000 ≡ 0
page_whole n = omega arith

most_placed : (end n : ℕ) (piece : Extent) → IsFitExtent piece → end ≤ n → placed end piece < n + 0x10000
most_placed end n piece fit low = omega (arith, aligned_most end piece.align, fit.most, low)

-- the part that is only read begins where the image does
pub image_before : (files : List (List ℕ)) → set_refusal files ≡ None → IMAGE_START ≤ read_only_end files
image_before files whole = run_grows (sections_of files ReadOnly) IMAGE_START (sections_fit files ReadOnly whole refl)

module _ (files : List (List ℕ)) (span : ℕ) (whole : set_refusal files ≡ None) (fits : data_refusal files span ≡ None) where
  -- a group, however small, starts before the limit and a page
  group_low : (g : ℕ) → g < group_count files span → group_start files span g < 0x40000000 + 0x100
  group_low g within =
      let pieces = group_extents files span in
      let read = get_or-map-range_with_len (group_extent files span) 0 (group_count files span) g g no_piece within (omega arith) in
      let align = ap (λ (e : Extent). e.align) read in
      let before = low_begins (writable_start files) (take g pieces) pieces (take_begins pieces g) (groups_fit files span) in
      let most = aligned_most (run_end (writable_start files) (take g pieces)) (get_or pieces g no_piece).align in
      let order = in_order files span whole in
      omega (arith, align, before, most, order.writable, order.zeroed, order.commons, data_low files span whole fits)

  pub base_low : (file : ℕ) → file < length files → base_of files span file < 0x60000000
  base_low file within = omega (arith, group_low (group_number files span file) (number_below files span file within))

  sort_low : (sort : Sort) (start all : ℕ) (file i : ℕ) → is_kept_sort sort ≡ true → file < length files →
      i < e_shnum (file_at files file) →
      sort_of (file_at files file) i ≡ sort → all ≡ run_end start (sections_of files sort) → all ≤ commons_end files span →
      placed (run_end start (sections_before files sort file i)) (section_extent (file_at files file) i) < 0x60000000
  sort_low sort start all file i kept within inside is end low =
      let begins = number_begins (sort_walk sort) files file i within (omega (arith, inside)) in
      let before = low_begins start (sections_before files sort file i) (sections_of files sort) begins
      (sections_fit files sort whole kept) in
      let fit = fit_section files file i sort whole within inside kept is in
      omega (
        arith,
        most_placed (run_end start (sections_before files sort file i)) (commons_end files span) (section_extent (file_at files file) i) fit
            (omega (arith, before, end, low)),
        data_low files span whole fits,
      )

  toc_low : (file i : ℕ) → file < length files → i < e_shnum (file_at files file) → sort_of (file_at files file) i ≡ Toc →
      group_start files span (group_number files span file) + placed (toc_before files span file i) (section_extent (file_at files file) i)
      < 0x60000000
  toc_low file i within inside is =
      let g = group_number files span file in
      let b = file_at files file in
      let below = number_below files span file within in
      let begins = toc_begins files span file i within (omega (arith, inside)) in
      let before = low_begins (slots_there files span file) (tocs_there files span file ++ items_in (sort_walk Toc) file b i)
      (tocs_of files (group_at files span g).first (group_at files span g).count) begins (group_tocs_fit files span g whole) in
      let fit = fit_section files file i Toc whole within inside refl is in
      let order = in_order files span whole in
      let start = group_low g below in
      let here = most_placed (toc_before files span file i) (whole_size files span g) (section_extent b i) fit before in
      elim (cases_lt 0 (whole_size files span g)) [
        | inl some ↦ (
            let group = group_in files span g below some in
            omega (arith, group.1, here, order.writable, order.zeroed, order.commons, data_low files span whole fits))
        | inr none ↦ omega (arith, start, here, none)
      ]

  by_sort : (sort : Sort) (file i : ℕ) → file < length files → i < e_shnum (file_at files file) → sort_of (file_at files file) i ≡ sort →
      address_by_sort files span file i (section_extent (file_at files file) i) sort < 0x60000000
  by_sort ReadOnly file i within inside is =
      let order = in_order files span whole in
      sort_low ReadOnly IMAGE_START (read_only_end files) file i refl within inside is refl
      (omega (arith, order.read_only, order.groups, order.writable, order.zeroed, order.commons))
  by_sort Toc file i within inside is = toc_low file i within inside is
  by_sort Writable file i within inside is =
      let order = in_order files span whole in
      sort_low Writable (groups_end files span) (writable_end files span) file i refl within inside is refl
      (omega (arith, order.zeroed, order.commons))
  by_sort Zeroed file i within inside is =
      let order = in_order files span whole in
      sort_low Zeroed (writable_end files span) (zeroed_end files span) file i refl within inside is refl (omega (arith, order.commons))
  by_sort Text file i within inside is = omega arith
  by_sort Dropped file i within inside is = omega arith

  -- each address of a piece, empty ones too, is low
  pub piece_low : (piece : Piece) → IsPieceOf files piece → piece_address files span piece < 0x60000000
  piece_low (Section file i) within = by_sort (sort_of (file_at files file) i) file i within.0 within.1 refl
  piece_low (Common c) within =
      let pieces = commons_of files in
      let fit = commons_fit files whole in
      let before = low_begins (zeroed_end files span) (take c pieces) pieces (take_begins pieces c) fit in
      omega (
        arith,
        most_placed (run_end (zeroed_end files span) (take c pieces)) (commons_end files span) (get_or pieces c no_piece)
            (fit_at pieces c no_piece fit within) before,
        data_low files span whole fits,
      )

  end_case : (commons start read_only : ℕ) (none : Bool) → (commons == start) ≡ none → start ≤ commons → read_only ≤ start →
      read_only ≤ (if none then read_only else commons)
  end_case commons start read_only true is order before = omega arith
  end_case commons start read_only false is order before = omega (arith, order, before)

  written_case : (commons start read_only : ℕ) (none : Bool) → (commons == start) ≡ none → start < commons →
      commons ≤ (if none then read_only else commons)
  written_case commons start read_only true is some =
      let same : commons ≡ start = grind (arith, nat_tests, is) in
      absurd (omega (arith, same, some))
  written_case commons start read_only false is some = omega arith

  text_from : data_end files span ≤ text_start files span
  text_from = aligned_least (data_end files span) PAGE (omega arith)

  -- data ends no earlier than its parts that aren't empty
  read_only_least : read_only_end files ≤ data_end files span
  read_only_least =
      let order = in_order files span whole in
      end_case (commons_end files span) (writable_start files) (read_only_end files) (commons_end files span == writable_start files) refl
      (omega (arith, order.groups, order.writable, order.zeroed, order.commons)) order.read_only

  commons_least : writable_start files < commons_end files span → commons_end files span ≤ data_end files span
  commons_least some =
      written_case (commons_end files span) (writable_start files) (read_only_end files) (commons_end files span == writable_start files)
      refl some

  -- so they end before text
  pub read_only_before_text : read_only_end files ≤ text_start files span
  read_only_before_text = omega (arith, read_only_least, text_from)

  pub commons_before_text : writable_start files < commons_end files span → commons_end files span ≤ text_start files span
  commons_before_text some = omega (arith, commons_least some, text_from)

  -- a part that isn't empty lies in the one segment or in the other
  abbrev Range : ℕ → ℕ → Type 0
  Range start size =
      ((IMAGE_START ≤ start) × (start + size ≤ read_only_end files))
      ⊎ ((writable_start files ≤ start) × (start + size ≤ commons_end files span))

  section_range : (sort : Sort) (file i : ℕ) → file < length files → i < e_shnum (file_at files file) →
      sort_of (file_at files file) i ≡ sort →
      is_laid_sort sort ≡ true → 0 < sh_size (file_at files file) i →
      Range (address_by_sort files span file i (section_extent (file_at files file) i) sort) (sh_size (file_at files file) i)
  section_range ReadOnly file i within inside is laid some =
      let this = section_in files ReadOnly IMAGE_START file i whole refl within inside is some in
      inl (this.0, this.1)
  section_range Toc file i within inside is laid some =
      let this = sort_lies files span Toc file i whole within inside is laid some in
      let order = in_order files span whole in
      inr (omega (arith, this.from), omega (arith, this.below, order.writable, order.zeroed, order.commons))
  section_range Writable file i within inside is laid some =
      let this = sort_lies files span Writable file i whole within inside is laid some in
      let order = in_order files span whole in
      inr (omega (arith, this.from, order.groups), omega (arith, this.below, order.zeroed, order.commons))
  section_range Zeroed file i within inside is laid some =
      let this = sort_lies files span Zeroed file i whole within inside is laid some in
      let order = in_order files span whole in
      inr (omega (arith, this.from, order.groups, order.writable), omega (arith, this.below, order.commons))
  section_range Text file i within inside is laid some = cc
  section_range Dropped file i within inside is laid some = cc

  part_range : (p : Part) → IsPart files span p → 0 < size_of files span p → Range (start_of files span p) (size_of files span p)
  part_range (of_section file i) is some = section_range (sort_of (file_at files file) i) file i is.0 is.1 refl is.2 some
  part_range (of_slot g k) is some =
      let this = lies files span (of_slot g k) whole is some in
      let order = in_order files span whole in
      inr (omega (arith, this.from), omega (arith, this.below, order.writable, order.zeroed, order.commons))
  part_range (of_common c) is some =
      let this = lies files span (of_common c) whole is some in
      let order = in_order files span whole in
      inr (omega (arith, this.from, order.groups, order.writable, order.zeroed), omega (arith, this.below))

  in_range : (p : Part) (a : ℕ) → Takes files span p a → Range (start_of files span p) (size_of files span p) → IsInSegment files span a
  in_range p a takes (inl range) = record {
    from = omega (arith, range.0, takes.covers.from);
    limit = omega (arith, range.1, takes.covers.below, read_only_least, end_low files span fits);
    before_text = omega (arith, range.1, takes.covers.below, read_only_before_text);
    segment = inl (omega (arith, range.1, takes.covers.below));
  }
  in_range p a takes (inr range) =
      let order = in_order files span whole in
      let some : writable_start files < commons_end files span =
      omega (arith, range.0, range.1, takes.covers.from, takes.covers.below) in
      record {
        from = omega (arith, range.0, takes.covers.from, order.read_only, image_before files whole);
        limit = omega (arith, range.1, takes.covers.below, commons_least some, end_low files span fits);
        before_text = omega (arith, range.1, takes.covers.below, commons_before_text some);
        segment = inr (omega (arith, range.0, takes.covers.from), omega (arith, range.1, takes.covers.below));
      }

  pub placed_data : IsPlacedData files span
  placed_data =
      let order = in_order files span whole in
      record {
        segments = order.read_only;
        text_page = page_whole (data_end files span);
        text_from = omega (arith, image_before files whole, read_only_before_text);
        text_limit = page_low (data_end files span) (end_low files span fits);
        parts = λ p a takes. in_range p a takes (part_range p takes.is (has_room files span p a takes));
        pieces = piece_low;
        bases = base_low;
      }
