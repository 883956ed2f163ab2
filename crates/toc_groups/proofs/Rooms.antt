-- Sections of data, and slots, lie in the segments' bytes.
use Rattle.std.proofs.Common.{ℕ, ◌≡◌, ◌<◌, ◌≤◌, ◌+◌, ◌^◌, inl, inr, true, List, length, Some, None, sym, subst, refl, arith, if◌then◌else◌, ◌==◌, Bool, false, ◌-◌, nat_lt}
use Rattle.std.proofs.lemmas.Bool.Decides.{nat_tests}
use Rattle.elf64_exec.specs.declared.memory_map.TheConstants.{IMAGE_START}
use Rattle.elf64_records.specs.FileHeader.{e_shnum}
use Rattle.elf64_records.specs.Sections.{sh_size}
use Rattle.object_set.specs.declared.refusal.Refusal.TheVariants.{DataTooBig}
use Rattle.object_set.specs.declared.sort.Sort.{Sort}
use Rattle.object_set.specs.declared.sort.Sort.TheVariants.{Text, Zeroed, Toc, Writable, ReadOnly, Dropped}
use Rattle.object_set.specs.Files.{file_at}
use Rattle.object_set.specs.Refusals.{set_refusal}
use Rattle.object_set.specs.Sections.{sort_of}
use Rattle.symbol_table.specs.Sites.{is_data_sort}
use Rattle.toc_groups.specs.Sections.{section_extent, sections_of}
use Rattle.toc_groups.specs.Groups.{group_number, group_count}
use Rattle.toc_groups.specs.Data.{read_only_end, writable_start, groups_end, commons_end, data_end, address_by_sort, section_address, group_slots, data_refusal}
use Rattle.toc_groups.specs.Parts.{slot_place}
use Rattle.toc_groups.specs.declared.pieces.DataEnds.{DataEnds}
use Rattle.toc_groups.specs.Plans.{data_ends}
use Rattle.toc_groups.specs.inside.Memory.{HasRange}
use Rattle.toc_groups.proofs.Laying.{run_grows}
use Rattle.toc_groups.proofs.Running.{in_order, page_low}
use Rattle.toc_groups.proofs.SectionOrder.{section_in, sections_fit}
use Rattle.toc_groups.proofs.GroupOrder.{toc_in, group_in}
use Rattle.toc_groups.proofs.Regions.{slot_in}
use Rattle.toc_groups.proofs.GroupFiles.{number_below}

module _ (files : List (List ℕ)) (span : ℕ) where
  sort_range : (sort : Sort) (file i : ℕ) → set_refusal files ≡ None → file < length files → i < e_shnum (file_at files file) →
      sort_of (file_at files file) i ≡ sort → is_data_sort sort ≡ true → 0 < sh_size (file_at files file) i →
      HasRange (data_ends files span) (address_by_sort files span file i (section_extent (file_at files file) i) sort)
      (sh_size (file_at files file) i)
  sort_range ReadOnly file i whole within inside is stored some =
      let this = section_in files ReadOnly IMAGE_START file i whole refl within inside is some in
      inl (this.0, this.1)
  sort_range Toc file i whole within inside is stored some =
      let g = group_number files span file in
      let this = toc_in files span file i whole within inside is some in
      let group = group_in files span g (number_below files span file within) (omega (arith, this.1, some)) in
      let order = in_order files span whole in
      inr (omega (arith, group.0), omega (arith, this.1, group.1, order.writable))
  sort_range Writable file i whole within inside is stored some =
      let this = section_in files Writable (groups_end files span) file i whole refl within inside is some in
      let order = in_order files span whole in
      inr (omega (arith, this.0, order.groups), this.1)
  sort_range Zeroed file i whole within inside is stored some = cc
  sort_range Text file i whole within inside is stored some = cc
  sort_range Dropped file i whole within inside is stored some = cc

  pub stored_range : (file i : ℕ) → set_refusal files ≡ None → file < length files → i < e_shnum (file_at files file) →
      is_data_sort (sort_of (file_at files file) i) ≡ true → 0 < sh_size (file_at files file) i →
      HasRange (data_ends files span) (section_address files span file (file_at files file) i) (sh_size (file_at files file) i)
  stored_range file i whole within inside stored some =
      sort_range (sort_of (file_at files file) i) file i whole within inside refl stored some

  pub slot_range : (g k : ℕ) → set_refusal files ≡ None → g < group_count files span → k < length (group_slots files span g) →
      HasRange (data_ends files span) (slot_place files span g k) 8
  slot_range g k whole within inside =
      let there = slot_in files span g k whole inside in
      let group = group_in files span g within (omega (arith, there)) in
      let order = in_order files span whole in
      inr (omega (arith, group.0), omega (arith, there, group.1, order.writable))

  big_case : (big : Bool) → (if big then Some DataTooBig else None) ≡ None → big ≡ false
  big_case true is = cc
  big_case false is = refl

  -- the last piece that isn't empty ends by the limit of data
  pub end_low : data_refusal files span ≡ None → data_end files span ≤ 0x40000000
  end_low fits =
      let small = big_case (nat_lt 0x30000000 (data_end files span - 0x10000000)) fits in
      grind (arith, nat_tests, small)

  end_case : (none : Bool) (commons start read_only : ℕ) → (commons == start) ≡ none → (if none then read_only else commons) ≤ 0x40000000 →
      (read_only ≤ 0x40000000 → start ≤ 0x40000000) → commons ≤ 0x40000000
  end_case true commons start read_only is low page =
      let same : commons ≡ start = grind (arith, nat_tests, is) in
      omega (arith, same, page low)
  end_case false commons start read_only is low page = omega (arith, low)

  -- and so does all data
  pub data_low : set_refusal files ≡ None → data_refusal files span ≡ None → commons_end files span ≤ 0x40000000
  data_low whole fits =
      end_case (commons_end files span == writable_start files) (commons_end files span) (writable_start files) (read_only_end files) refl
      (end_low fits) (page_low (read_only_end files))

  -- a slot ends below the limit too
  pub few_slots : (g k : ℕ) → set_refusal files ≡ None → data_refusal files span ≡ None → g < group_count files span →
      k < length (group_slots files span g) → slot_place files span g k + 8 ≤ 0x40000000
  few_slots g k whole fits within inside =
      let there = slot_in files span g k whole inside in
      let group = group_in files span g within (omega (arith, there)) in
      let order = in_order files span whole in
      omega (arith, there, group.1, order.writable, order.zeroed, order.commons, data_low whole fits)

  -- where the runs of data begin and end is in order
  pub record AreEndsInOrder (ends : DataEnds) : Type 0 where
    pub first : IMAGE_START ≤ ends.read_only
    pub order : ends.read_only ≤ ends.writable_start
    pub last : ends.writable_start ≤ ends.writable
    pub limit : ends.writable < 2 ^ 63
    pub written : ends.writable_start ≤ ends.commons

  pub ends_in_order : (ends : DataEnds) → ends ≡ data_ends files span → set_refusal files ≡ None → data_refusal files span ≡ None →
      AreEndsInOrder ends
  ends_in_order ends are whole fits =
      let order = in_order files span whole in
      let grown = run_grows (sections_of files ReadOnly) IMAGE_START (sections_fit files ReadOnly whole refl) in
      let low = data_low whole fits in
      subst AreEndsInOrder (sym are) (record {
        first = grown;
        order = order.read_only;
        last = omega (arith, order.groups, order.writable);
        limit = omega (arith, order.zeroed, order.commons, low);
        written = omega (arith, order.groups, order.writable, order.zeroed, order.commons);
      })
