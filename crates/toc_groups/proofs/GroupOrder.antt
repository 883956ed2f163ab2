-- TOC groups stand in order, and so do the `.toc` sections of a group behind its slots.
use Rattle.std.proofs.Common.{ℕ, zero, suc, ◌≡◌, ◌<◌, ◌≤◌, ◌+◌, ◌-◌, inl, inr, Bool, true, false, ◌==◌, List, [], ◌∷◌, ◌++◌, length, take, get_or, None, ap, sym, subst, ◌∙◌, refl, arith, append_assoc, if◌then◌else◌}
use Rattle.std.specs.List.{AllByRecursion}
use Rattle.std.proofs.lemmas.List.FromFn.{get_or-map-range_with_len, length-map-range_with_len}
use Rattle.elf64_records.specs.FileHeader.{e_shnum}
use Rattle.elf64_records.specs.Sections.{sh_size}
use Rattle.object_set.specs.declared.sort.Sort.TheVariants.{Toc}
use Rattle.object_set.specs.Files.{file_at}
use Rattle.object_set.specs.Refusals.{set_refusal}
use Rattle.object_set.specs.Sections.{sort_of}
use Rattle.object_set.specs.Walks.{items_in}
use Rattle.toc_groups.specs.declared.extents.Extent.{Extent}
use Rattle.toc_groups.specs.Runs.{placed, run_end, no_piece, IsFitExtent}
use Rattle.toc_groups.specs.Sections.{section_extent, sort_walk}
use Rattle.toc_groups.specs.Groups.{tocs_of, slot_bytes, group_size, group_with, group_number, group_among, group_count, group_at, group_extent, group_extents}
use Rattle.toc_groups.specs.Data.{writable_start, groups_end, group_start, toc_before}
use Rattle.toc_groups.proofs.Bounds.{tocs_of_files, IsSmallToc}
use Rattle.toc_groups.proofs.Every.{all_weaker}
use Rattle.toc_groups.proofs.Adding.{fit_toc}
use Rattle.toc_groups.proofs.Grouping.{group_end, group_some}
use Rattle.toc_groups.proofs.Laying.{fit_section}
use Rattle.toc_groups.proofs.Placing.{slots_there, tocs_there, toc_begins, tocs_begin, tocs_more}
use Rattle.toc_groups.proofs.Begins.{Begins, begins_all, begins_behind, begins_before, begun, in_begins}
use Rattle.toc_groups.proofs.RunOrder.{in_run_order, in_run, piece_begins, run_order}
use Rattle.toc_groups.proofs.SectionOrder.{one_section, IsBefore}
use Rattle.toc_groups.proofs.GroupFiles.{same_group}
use Rattle.toc_groups.proofs.GroupPlaces.{groups_fit}

module _ (files : List (List ℕ)) (span : ℕ) where
  -- the size of a group with all its files
  abbrev pub whole_size : ℕ → ℕ
  whole_size g = group_size files (group_at files span g).first (group_at files span g).count

  group_read : (g : ℕ) → g < group_count files span → get_or (group_extents files span) g no_piece ≡ group_extent files span g
  group_read g within = get_or-map-range_with_len (group_extent files span) 0 (group_count files span) g g no_piece within (omega arith)

  groups_long : length (group_extents files span) ≡ group_count files span
  groups_long = length-map-range_with_len (group_extent files span) 0 (group_count files span)

  pub group_order : (g h : ℕ) → g < h → h < group_count files span → 0 < whole_size g →
      group_start files span g + whole_size g ≤ group_start files span h
  group_order g h before within some =
      let size = ap (λ (e : Extent). e.size) (group_read g (omega (arith, before, within))) in
      let this = run_order (writable_start files) g h (group_extents files span) (groups_fit files span) before
      (omega (arith, within, groups_long)) (omega (arith, size, some)) in
      omega (arith, this, size)

  pub group_in : (g : ℕ) → g < group_count files span → 0 < whole_size g →
      (writable_start files ≤ group_start files span g) × (group_start files span g + whole_size g ≤ groups_end files span)
  group_in g within some =
      let pieces = group_extents files span in
      let size = ap (λ (e : Extent). e.size) (group_read g within) in
      let this = in_run (writable_start files) (take g pieces) pieces (get_or pieces g no_piece)
      (piece_begins pieces g (omega (arith, within, groups_long))) (groups_fit files span) (omega (arith, size, some)) in
      (this.0, omega (arith, this.1, size))

  among_case : (g n : ℕ) (t : Bool) →
      (group_among files span g n).first + (group_among files span g n).count ≤ n →
      (if t then group_with files span n else group_among files span g n).first
      + (if t then group_with files span n else group_among files span g n).count ≤ suc n
  among_case g n true before = omega (arith, group_end files span (suc n))
  among_case g n false before = omega (arith, before)

  pub among_end : (g n : ℕ) → (group_among files span g n).first + (group_among files span g n).count ≤ n
  among_end g zero = omega arith
  among_end g (suc n) = among_case g n (group_number files span n == g) (among_end g n)

  -- the `.toc` sections of a group may be laid out
  pub group_tocs_fit : (g : ℕ) → set_refusal files ≡ None →
      AllByRecursion IsFitExtent (tocs_of files (group_at files span g).first (group_at files span g).count)
  group_tocs_fit g whole =
      let all = tocs_of_files files (group_at files span g).first (group_at files span g).count whole (among_end g (length files)) in
      all_weaker IsSmallToc IsFitExtent fit_toc (tocs_of files (group_at files span g).first (group_at files span g).count) all.0

  -- ---- `.toc` sections of a group

  abbrev tocs_until : ℕ → ℕ → List Extent
  tocs_until file i = tocs_there files span file ++ items_in (sort_walk Toc) file (file_at files file) i

  abbrev tocs_all : ℕ → List Extent
  tocs_all file =
      tocs_of files (group_at files span (group_number files span file)).first (group_at files span (group_number files span file)).count

  toc_more : (file i : ℕ) → sort_of (file_at files file) i ≡ Toc →
      tocs_until file (suc i) ≡ tocs_until file i ++ section_extent (file_at files file) i ∷ []
  toc_more file i is =
      let b = file_at files file in
      ap (λ (l : List Extent). tocs_there files span file ++ (items_in (sort_walk Toc) file b i ++ l)) (one_section Toc file b i is)
      ∙ sym (append_assoc (tocs_there files span file) (items_in (sort_walk Toc) file b i) (section_extent b i ∷ []))

  this_begins : (file i : ℕ) → file < length files → i < e_shnum (file_at files file) → sort_of (file_at files file) i ≡ Toc →
      Begins (tocs_until file i ++ section_extent (file_at files file) i ∷ []) (tocs_all file)
  this_begins file i within inside is =
      subst (λ (l : List Extent). Begins l (tocs_all file)) (toc_more file i is)
      (toc_begins files span file (suc i) within (omega (arith, inside)))

  before_toc : (file i file' j : ℕ) → IsBefore file i file' j → file < length files → i < e_shnum (file_at files file) →
      sort_of (file_at files file) i ≡ Toc → group_number files span file' ≡ group_number files span file →
      Begins (tocs_until file i ++ section_extent (file_at files file) i ∷ []) (tocs_until file' j)
  before_toc file i file' j (inl less) within inside is same =
      let now = group_with files span file in
      let e : file + (file' - file) ≡ file' = omega (arith, less) in
      let later = same_group files span file (file' - file) (ap (group_number files span) e ∙ same) in
      let first : (group_with files span file').first ≡ now.first = sym (ap (λ (n : ℕ). (group_with files span n).first) e) ∙ later.0 in
      let count : (group_with files span file').count ≡ now.count + (file' - file) =
      sym (ap (λ (n : ℕ). (group_with files span n).count) e) ∙ later.1 in
      let some = group_some files span file in
      let less_one : (group_with files span file').count - 1 ≡ now.count + (file' - file - 1) = omega (arith, count, less, some) in
      let there : tocs_there files span file' ≡ tocs_of files now.first (now.count + (file' - file - 1)) =
      ap (λ (f : ℕ). tocs_of files f ((group_with files span file').count - 1)) first ∙ ap (tocs_of files now.first) less_one in
      let own = tocs_begin files span file (suc i) within (omega (arith, inside)) in
      let all = begins_all (tocs_until file (suc i)) (tocs_of files now.first now.count)
      (tocs_of files now.first (now.count + (file' - file - 1))) own (tocs_more files span now.first now.count (file' - file - 1)) in
      let reached : Begins (tocs_until file (suc i)) (tocs_there files span file') =
      subst (Begins (tocs_until file (suc i))) (sym there) all in
      subst (λ (l : List Extent). Begins l (tocs_until file' j)) (toc_more file i is)
      (begins_before (tocs_until file (suc i)) (tocs_there files span file') (items_in (sort_walk Toc) file' (file_at files file') j)
      reached)
  before_toc file i file' j (inr same_file) within inside is same =
      let w = sort_walk Toc in
      let b = file_at files file in
      let front = tocs_there files span file in
      let e : suc i + (j - suc i) ≡ j = omega (arith, same_file.1) in
      let inner : Begins (items_in w file b (suc i)) (items_in w file b j) =
      subst (λ (n : ℕ). Begins (items_in w file b (suc i)) (items_in w file b n)) e (in_begins w files file (suc i) (j - suc i)) in
      let all : Begins (tocs_until file (suc i)) (tocs_until file j) =
      begins_behind front (items_in w file b (suc i)) (items_in w file b j) inner in
      subst (λ (l : List Extent). Begins l (tocs_until file' j)) (toc_more file i is)
      (subst (λ (f : ℕ). Begins (tocs_until file (suc i)) (tocs_until f j)) same_file.0 all)

  -- where it lies in its group
  abbrev pub toc_offset : ℕ → ℕ → ℕ
  toc_offset file i = placed (toc_before files span file i) (section_extent (file_at files file) i)

  pub toc_in : (file i : ℕ) → set_refusal files ≡ None → file < length files → i < e_shnum (file_at files file) →
      sort_of (file_at files file) i ≡ Toc → 0 < sh_size (file_at files file) i →
      (slots_there files span file ≤ toc_offset file i)
      × (toc_offset file i + sh_size (file_at files file) i ≤ whole_size (group_number files span file))
  toc_in file i whole within inside is some =
      in_run (slots_there files span file) (tocs_until file i) (tocs_all file) (section_extent (file_at files file) i)
      (this_begins file i within inside is) (group_tocs_fit (group_number files span file) whole) some

  pub toc_order : (file i file' j : ℕ) → set_refusal files ≡ None → IsBefore file i file' j → file < length files →
      i < e_shnum (file_at files file) → sort_of (file_at files file) i ≡ Toc → file' < length files →
      j < e_shnum (file_at files file') → sort_of (file_at files file') j ≡ Toc → 0 < sh_size (file_at files file) i →
      group_number files span file' ≡ group_number files span file →
      toc_offset file i + sh_size (file_at files file) i ≤ toc_offset file' j
  toc_order file i file' j whole before within inside is within' inside' is' some same =
      let begins = before_toc file i file' j before within inside is same in
      let fit = begun IsFitExtent (tocs_until file' j) (tocs_all file')
      (toc_begins files span file' j within' (omega (arith, inside'))) (group_tocs_fit (group_number files span file') whole) in
      let this = in_run_order (slots_there files span file') (tocs_until file i) (tocs_until file' j)
      (section_extent (file_at files file) i) (section_extent (file_at files file') j) begins fit
      (fit_section files file' j Toc whole within' inside' refl is') some in
      let slots : slots_there files span file' ≡ slots_there files span file =
      ap (λ (g : ℕ). slot_bytes files (group_at files span g).first (group_at files span g).count) same in
      subst (λ (s : ℕ). placed (run_end s (tocs_until file i)) (section_extent (file_at files file) i) + sh_size (file_at files file) i
      ≤ toc_offset file' j) slots this
