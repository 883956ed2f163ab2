-- Parts of data lie in the region of their sort: read-only, groups, writable, zeroed, commons.
use Rattle.std.proofs.Common.{ℕ, zero, suc, ◌≡◌, ◌<◌, ◌≤◌, ◌+◌, ◌-◌, ◌*◌, true, List, length, take, get_or, None, ap, refl, arith}
use Rattle.elf64_records.specs.FileHeader.{e_shnum}
use Rattle.elf64_records.specs.Sections.{sh_size}
use Rattle.elf64_exec.specs.declared.memory_map.TheConstants.{IMAGE_START}
use Rattle.object_set.specs.declared.sort.Sort.{Sort}
use Rattle.object_set.specs.declared.sort.Sort.TheVariants.{Text, Zeroed, Toc, Writable, ReadOnly, Dropped}
use Rattle.object_set.specs.Files.{file_at}
use Rattle.object_set.specs.Refusals.{set_refusal}
use Rattle.object_set.specs.Sections.{sort_of}
use Rattle.toc_groups.specs.Runs.{no_piece}
use Rattle.toc_groups.specs.Sections.{section_extent, sections_of, commons_of}
use Rattle.toc_groups.specs.Groups.{tocs_of, slot_bytes, group_number, group_at}
use Rattle.toc_groups.specs.Data.{writable_start, groups_end, writable_end, zeroed_end, commons_end, address_by_sort, group_slots}
use Rattle.toc_groups.specs.Parts.{Part, is_laid_sort, start_of, size_of, IsPart, Takes}
use Rattle.toc_groups.specs.Parts.Part.{of_section, of_slot, of_common}
use Rattle.toc_groups.proofs.Commons.{commons_fit}
use Rattle.toc_groups.proofs.Laying.{run_grows}
use Rattle.toc_groups.proofs.Running.{in_order}
use Rattle.toc_groups.proofs.RunOrder.{in_run, piece_begins}
use Rattle.toc_groups.proofs.SectionOrder.{sections_fit, section_in}
use Rattle.toc_groups.proofs.GroupOrder.{whole_size, group_in, group_tocs_fit, toc_in}
use Rattle.toc_groups.proofs.GroupFiles.{number_below}

abbrev pub rank_of : Sort → ℕ
rank_of ReadOnly = 0
rank_of Toc = 1
rank_of Writable = 2
rank_of Zeroed = 3
rank_of Text = 5
rank_of Dropped = 5

pub one_rank : (s t : Sort) → is_laid_sort s ≡ true → is_laid_sort t ≡ true → rank_of s ≡ rank_of t → s ≡ t
one_rank Text t laid laid' same = cc
one_rank Dropped t laid laid' same = cc
one_rank ReadOnly ReadOnly laid laid' same = refl
one_rank ReadOnly Toc laid laid' same = absurd (omega (arith, same))
one_rank ReadOnly Writable laid laid' same = absurd (omega (arith, same))
one_rank ReadOnly Zeroed laid laid' same = absurd (omega (arith, same))
one_rank ReadOnly Text laid laid' same = cc
one_rank ReadOnly Dropped laid laid' same = cc
one_rank Toc ReadOnly laid laid' same = absurd (omega (arith, same))
one_rank Toc Toc laid laid' same = refl
one_rank Toc Writable laid laid' same = absurd (omega (arith, same))
one_rank Toc Zeroed laid laid' same = absurd (omega (arith, same))
one_rank Toc Text laid laid' same = cc
one_rank Toc Dropped laid laid' same = cc
one_rank Writable ReadOnly laid laid' same = absurd (omega (arith, same))
one_rank Writable Toc laid laid' same = absurd (omega (arith, same))
one_rank Writable Writable laid laid' same = refl
one_rank Writable Zeroed laid laid' same = absurd (omega (arith, same))
one_rank Writable Text laid laid' same = cc
one_rank Writable Dropped laid laid' same = cc
one_rank Zeroed ReadOnly laid laid' same = absurd (omega (arith, same))
one_rank Zeroed Toc laid laid' same = absurd (omega (arith, same))
one_rank Zeroed Writable laid laid' same = absurd (omega (arith, same))
one_rank Zeroed Zeroed laid laid' same = refl
one_rank Zeroed Text laid laid' same = cc
one_rank Zeroed Dropped laid laid' same = cc

pub not_common : (s : Sort) → is_laid_sort s ≡ true → rank_of s ≡ 4 → ⊥
not_common Text laid is = cc
not_common Zeroed laid is = omega (arith, is)
not_common Toc laid is = omega (arith, is)
not_common Writable laid is = omega (arith, is)
not_common ReadOnly laid is = omega (arith, is)
not_common Dropped laid is = cc

module _ (files : List (List ℕ)) (span : ℕ) where
  abbrev pub low : ℕ → ℕ
  low zero = IMAGE_START
  low (suc zero) = writable_start files
  low (suc (suc zero)) = groups_end files span
  low (suc (suc (suc zero))) = writable_end files span
  low (suc (suc (suc (suc zero)))) = zeroed_end files span
  low (suc (suc (suc (suc (suc n))))) = commons_end files span

  low_next : (r : ℕ) → set_refusal files ≡ None → low r ≤ low (suc r)
  low_next zero whole =
      let grown = run_grows (sections_of files ReadOnly) IMAGE_START (sections_fit files ReadOnly whole refl) in
      omega (arith, grown, (in_order files span whole).read_only)
  low_next (suc zero) whole = (in_order files span whole).groups
  low_next (suc (suc zero)) whole = (in_order files span whole).writable
  low_next (suc (suc (suc zero))) whole = (in_order files span whole).zeroed
  low_next (suc (suc (suc (suc zero)))) whole = (in_order files span whole).commons
  low_next (suc (suc (suc (suc (suc n))))) whole = omega arith

  low_up : (r d : ℕ) → set_refusal files ≡ None → low r ≤ low (r + d)
  low_up r zero whole = let e : r + 0 ≡ r = omega arith in omega (arith, ap low e)
  low_up r (suc d) whole =
      let e : r + suc d ≡ suc (r + d) = omega arith in
      omega (arith, low_up r d whole, low_next (r + d) whole, ap low e)

  -- a part lies in the region of a rank
  pub record Lies (r start size : ℕ) : Type 0 where
    pub from : low r ≤ start
    pub below : start + size ≤ low (suc r)

  pub sort_lies : (sort : Sort) (file i : ℕ) → set_refusal files ≡ None → file < length files → i < e_shnum (file_at files file) →
      sort_of (file_at files file) i ≡ sort → is_laid_sort sort ≡ true → 0 < sh_size (file_at files file) i →
      Lies (rank_of sort) (address_by_sort files span file i (section_extent (file_at files file) i) sort) (sh_size (file_at files file) i)
  sort_lies ReadOnly file i whole within inside is laid some =
      let this = section_in files ReadOnly IMAGE_START file i whole refl within inside is some in
      record { from = this.0; below = omega (arith, this.1, (in_order files span whole).read_only) }
  sort_lies Toc file i whole within inside is laid some =
      let g = group_number files span file in
      let this = toc_in files span file i whole within inside is some in
      let group = group_in files span g (number_below files span file within) (omega (arith, this.1, some)) in
      record { from = omega (arith, group.0); below = omega (arith, this.1, group.1) }
  sort_lies Writable file i whole within inside is laid some =
      let this = section_in files Writable (groups_end files span) file i whole refl within inside is some in
      record { from = this.0; below = this.1 }
  sort_lies Zeroed file i whole within inside is laid some =
      let this = section_in files Zeroed (writable_end files span) file i whole refl within inside is some in
      record { from = this.0; below = this.1 }
  sort_lies Text file i whole within inside is laid some = cc
  sort_lies Dropped file i whole within inside is laid some = cc

  abbrev pub rank : Part → ℕ
  rank (of_section file i) = rank_of (sort_of (file_at files file) i)
  rank (of_slot g k) = 1
  rank (of_common c) = 4

  -- slots stand in their group, in front of its `.toc` sections
  pub slot_in : (g k : ℕ) → set_refusal files ≡ None → k < length (group_slots files span g) → 8 * k + 8 ≤ whole_size files span g
  slot_in g k whole within =
      let all = group_at files span g in
      let grown = run_grows (tocs_of files all.first all.count) (slot_bytes files all.first all.count)
      (group_tocs_fit files span g whole) in
      omega (arith, grown, within)

  pub lies : (p : Part) → set_refusal files ≡ None → IsPart files span p → 0 < size_of files span p →
      Lies (rank p) (start_of files span p) (size_of files span p)
  lies (of_section file i) whole is some =
      sort_lies (sort_of (file_at files file) i) file i whole is.0 is.1 refl is.2 some
  lies (of_slot g k) whole is some =
      let inside = slot_in g k whole is.1 in
      let group = group_in files span g is.0 (omega (arith, inside)) in
      record { from = omega (arith, group.0); below = omega (arith, inside, group.1) }
  lies (of_common c) whole is some =
      let pieces = commons_of files in
      let this = in_run (zeroed_end files span) (take c pieces) pieces (get_or pieces c no_piece) (piece_begins pieces c is)
      (commons_fit files whole) some in
      record { from = this.0; below = this.1 }

  pub has_room : (p : Part) (a : ℕ) → Takes files span p a → 0 < size_of files span p
  has_room p a takes = omega (arith, takes.covers.from, takes.covers.below)

  pub ranks_apart : (p q : Part) (a : ℕ) → set_refusal files ≡ None → Takes files span p a → Takes files span q a → rank p < rank q → ⊥
  ranks_apart p q a whole first second less =
      let here = lies p whole first.is (has_room p a first) in
      let there = lies q whole second.is (has_room q a second) in
      let e : suc (rank p) + (rank q - suc (rank p)) ≡ rank q = omega (arith, less) in
      let up = low_up (suc (rank p)) (rank q - suc (rank p)) whole in
      omega (arith, here.below, there.from, up, ap low e, first.covers.below, second.covers.from)
