-- Where a section lies, section by section, and its room where data fits.
use Rattle.std.proofs.Common.{ℕ, suc, ◌≡◌, ◌<◌, ◌≤◌, ◌+◌, ◌-◌, Bool, true, false, List, [], ◌∷◌, ◌++◌}
use Rattle.std.proofs.Common.{length, None, if◌then◌else◌, ap, sym, subst, ◌∙◌, refl, arith, add-one, append_assoc}
use Rattle.elf64_records.specs.FileHeader.{e_shnum}
use Rattle.elf64_exec.specs.declared.memory_map.TheConstants.{IMAGE_START}
use Rattle.object_set.specs.declared.sort.Sort.{Sort}
use Rattle.object_set.specs.declared.sort.Sort.TheVariants.{Text, Zeroed, Toc, Writable, ReadOnly, Dropped}
use Rattle.object_set.specs.Files.{file_at}
use Rattle.object_set.specs.Refusals.{set_refusal}
use Rattle.object_set.specs.Sections.{sort_of, is_kept_sort}
use Rattle.object_set.specs.Walks.{items_in, items_before}
use Rattle.toc_groups.specs.declared.extents.Extent.{Extent}
use Rattle.toc_groups.specs.declared.extents.TheConstants.{DATA_END}
use Rattle.toc_groups.specs.declared.pieces.Ends.{Ends}
use Rattle.toc_groups.specs.Runs.{placed, behind, run_end, IsFitExtent}
use Rattle.toc_groups.specs.Sections.{same_sort, section_extent, extent_at, sort_walk, sections_of, sections_before}
use Rattle.toc_groups.specs.Groups.{tocs_of, slot_bytes, group_with, group_number, group_at}
use Rattle.toc_groups.specs.Data.{groups_end, writable_end, group_start, toc_before, address_by_sort, section_address}
use Rattle.toc_groups.specs.inside.Limits.{FitsData}
use Rattle.toc_groups.specs.inside.Laid.{HasRoomAt, HasRoom, address_after, ends_after, AreEndsAt}
use Rattle.toc_groups.proofs.Bounds.{tocs_of_files, IsSmallToc}
use Rattle.toc_groups.proofs.Every.{all_weaker}
use Rattle.toc_groups.proofs.Runs.{run_end-append}
use Rattle.toc_groups.proofs.Adding.{fit_toc}
use Rattle.toc_groups.proofs.Grouping.{group_end, group_some}
use Rattle.toc_groups.proofs.Laying.{behind_least, low_begins, fit_before, fit_section}
use Rattle.toc_groups.proofs.GroupFiles.{number_below, whole_of}
use Rattle.toc_groups.proofs.GroupPlaces.{group_low}
use Rattle.toc_groups.proofs.Begins.{Begins, begins_all, grown_begins, number_begins, in_all}

module _ (files : List (List ℕ)) (span : ℕ) where
  one_case : (end : ℕ) (piece : Extent) (t : Bool) → (if t then behind end piece else end) ≡ run_end end (if t then piece ∷ [] else [])
  one_case end piece true = refl
  one_case end piece false = refl

  more_case : (sort : Sort) (start end file i : ℕ) (before : List Extent) (t : Bool) →
      end ≡ run_end start (before ++ items_in (sort_walk sort) file (file_at files file) i) →
      same_sort (sort_of (file_at files file) i) sort ≡ t →
      (if t then behind end (section_extent (file_at files file) i) else end)
      ≡ run_end start (before ++ items_in (sort_walk sort) file (file_at files file) (suc i))
  more_case sort start end file i before t is test =
      let b = file_at files file in
      let piece = section_extent b i in
      let items = items_in (sort_walk sort) file b i in
      let split : run_end start (before ++ (items ++ extent_at sort file b i)) ≡ run_end end (extent_at sort file b i) =
      ap (run_end start) (sym (append_assoc before items (extent_at sort file b i)))
      ∙ run_end-append start (before ++ items) (extent_at sort file b i)
      ∙ ap (λ (e : ℕ). run_end e (extent_at sort file b i)) (sym is) in
      one_case end piece t
      ∙ sym (ap (λ (u : Bool). run_end end (if u then piece ∷ [] else [])) test) ∙ sym split

  -- the parts of a file's group that come before its own sections
  abbrev pub slots_there : ℕ → ℕ
  slots_there file =
      let whole = group_at files span (group_number files span file) in
      slot_bytes files whole.first whole.count

  abbrev pub tocs_there : ℕ → List Extent
  tocs_there file = tocs_of files (group_with files span file).first ((group_with files span file).count - 1)

  -- one end more
  next_of : (sort here : Sort) (start end file i : ℕ) (before : List Extent) →
      end ≡ run_end start (before ++ items_in (sort_walk sort) file (file_at files file) i) →
      sort_of (file_at files file) i ≡ here →
      (if same_sort here sort then behind end (section_extent (file_at files file) i) else end)
      ≡ run_end start (before ++ items_in (sort_walk sort) file (file_at files file) (suc i))
  next_of sort here start end file i before is at =
      more_case sort start end file i before (same_sort here sort) is (ap (λ (s : Sort). same_sort s sort) at)

  after_case : (file i : ℕ) (ends : Ends) (here : Sort) → AreEndsAt files span file i ends → sort_of (file_at files file) i ≡ here →
      AreEndsAt files span file (suc i) (record {
        read_only = if same_sort here ReadOnly then behind ends.read_only (section_extent (file_at files file) i) else ends.read_only;
        toc = if same_sort here Toc then behind ends.toc (section_extent (file_at files file) i) else ends.toc;
        writable = if same_sort here Writable then behind ends.writable (section_extent (file_at files file) i) else ends.writable;
        zeroed = if same_sort here Zeroed then behind ends.zeroed (section_extent (file_at files file) i) else ends.zeroed;
      })
  after_case file i ends here are at = record {
    read_only = next_of ReadOnly here IMAGE_START ends.read_only file i (items_before (sort_walk ReadOnly) files file) are.read_only at;
    toc = next_of Toc here (slots_there file) ends.toc file i (tocs_there file) are.toc at;
    writable = next_of Writable here (groups_end files span) ends.writable file i (items_before (sort_walk Writable) files file)
        are.writable at;
    zeroed = next_of Zeroed here (writable_end files span) ends.zeroed file i (items_before (sort_walk Zeroed) files file) are.zeroed at;
  }

  after_sort : (file i : ℕ) (ends : Ends) (here : Sort) → AreEndsAt files span file i ends → sort_of (file_at files file) i ≡ here →
      AreEndsAt files span file (suc i) (ends_after (section_extent (file_at files file) i) ends here)
  after_sort file i ends ReadOnly are at = after_case file i ends ReadOnly are at
  after_sort file i ends Toc are at = after_case file i ends Toc are at
  after_sort file i ends Writable are at = after_case file i ends Writable are at
  after_sort file i ends Zeroed are at = after_case file i ends Zeroed are at
  after_sort file i ends Text are at = after_case file i ends Text are at
  after_sort file i ends Dropped are at = after_case file i ends Dropped are at

  -- where what is laid out ends with a section more
  pub ends_next : (file i : ℕ) (ends : Ends) (here : Sort) → AreEndsAt files span file i ends → sort_of (file_at files file) i ≡ here →
      AreEndsAt files span file (i + 1) (ends_after (section_extent (file_at files file) i) ends here)
  ends_next file i ends here are at =
      subst (λ (n : ℕ). AreEndsAt files span file n (ends_after (section_extent (file_at files file) i) ends here)) (sym (add-one i))
      (after_sort file i ends here are at)

  address_case : (file i start : ℕ) (ends : Ends) (here : Sort) → AreEndsAt files span file i ends →
      start ≡ group_start files span (group_number files span file) →
      address_after (section_extent (file_at files file) i) start ends here
      ≡ address_by_sort files span file i (section_extent (file_at files file) i) here
  address_case file i start ends ReadOnly are starts = ap (λ (e : ℕ). placed e (section_extent (file_at files file) i)) are.read_only
  address_case file i start ends Toc are starts =
      ap (λ (s : ℕ). s + placed ends.toc (section_extent (file_at files file) i)) starts
      ∙ ap (λ (e : ℕ). group_start files span (group_number files span file) + placed e (section_extent (file_at files file) i)) are.toc
  address_case file i start ends Writable are starts = ap (λ (e : ℕ). placed e (section_extent (file_at files file) i)) are.writable
  address_case file i start ends Zeroed are starts = ap (λ (e : ℕ). placed e (section_extent (file_at files file) i)) are.zeroed
  address_case file i start ends Text are starts = refl
  address_case file i start ends Dropped are starts = refl

  -- its address
  pub address_there : (file i start : ℕ) (ends : Ends) (here : Sort) → AreEndsAt files span file i ends →
      sort_of (file_at files file) i ≡ here → start ≡ group_start files span (group_number files span file) →
      address_after (section_extent (file_at files file) i) start ends here ≡ section_address files span file (file_at files file) i
  address_there file i start ends here are at starts =
      let piece = section_extent (file_at files file) i in
      address_case file i start ends here are starts ∙ sym (ap (address_by_sort files span file i piece) at)

  -- ---- room for a section

  room_of_sort : (sort : Sort) (start end file i limit : ℕ) → set_refusal files ≡ None → file < length files →
      i < e_shnum (file_at files file) → is_kept_sort sort ≡ true → sort_of (file_at files file) i ≡ sort → same_sort sort sort ≡ true →
      end ≡ run_end start (sections_before files sort file i) → run_end start (sections_of files sort) ≤ DATA_END →
      HasRoomAt end (section_extent (file_at files file) i)
  room_of_sort sort start end file i limit whole within inside kept at itself is low =
      let piece = section_extent (file_at files file) i in
      let fit = fit_section files file i sort whole within inside kept at in
      let next = next_of sort sort start end file i (items_before (sort_walk sort) files file) is at in
      let now : behind end piece ≡ run_end start (sections_before files sort file (suc i)) =
      sym (ap (λ (t : Bool). if t then behind end piece else end) itself) ∙ next in
      let begins = number_begins (sort_walk sort) files file (suc i) within (omega (arith, inside)) in
      let all = low_begins start (sections_before files sort file (suc i)) (sections_of files sort) begins
      (fit_before files sort (length files) whole (omega arith) kept) in
      record { fit = fit; low = omega (arith, behind_least end piece fit, now, all, low); room = omega (arith, now, all, low) }

  -- the `.toc` sections before a section of a file are among those of its group
  pub tocs_begin : (file i : ℕ) → file < length files → i ≤ e_shnum (file_at files file) →
      Begins (tocs_there file ++ items_in (sort_walk Toc) file (file_at files file) i)
      (tocs_of files (group_with files span file).first (group_with files span file).count)
  tocs_begin file i within few =
      let now = group_with files span file in
      let b = file_at files file in
      let some = group_some files span file in
      let end = group_end files span (suc file) in
      let at : now.first + (now.count - 1) ≡ file = omega (arith, some, end) in
      let last : suc (now.count - 1) ≡ now.count = omega (arith, some) in
      let here = in_all (sort_walk Toc) files file i few in
      record {
        rest = here.rest;
        is = ap (tocs_of files now.first) (sym last)
            ∙ ap (λ (f : ℕ). tocs_there file ++ items_in (sort_walk Toc) f (file_at files f) (e_shnum (file_at files f))) at
            ∙ ap (λ (l : List Extent). tocs_there file ++ l) here.is
            ∙ sym (append_assoc (tocs_there file) (items_in (sort_walk Toc) file b i) here.rest);
      }

  pub tocs_more : (first n m : ℕ) → Begins (tocs_of files first n) (tocs_of files first (n + m))
  tocs_more first n m =
      grown_begins (tocs_of files first)
      (λ k. items_in (sort_walk Toc) (first + k) (file_at files (first + k)) (e_shnum (file_at files (first + k)))) (λ k. refl) n m

  -- and among those of all its files
  pub toc_begins : (file i : ℕ) → file < length files → i ≤ e_shnum (file_at files file) →
      Begins (tocs_there file ++ items_in (sort_walk Toc) file (file_at files file) i)
      (tocs_of files (group_at files span (group_number files span file)).first (group_at files span (group_number files span file)).count)
  toc_begins file i within few =
      let now = group_with files span file in
      let all = group_at files span (group_number files span file) in
      let group_is = whole_of files span file within in
      let tocs : tocs_of files all.first all.count ≡ tocs_of files now.first (now.count + group_is.more) =
      ap (λ (f : ℕ). tocs_of files f all.count) group_is.first ∙ ap (tocs_of files now.first) group_is.count in
      subst (Begins (tocs_there file ++ items_in (sort_walk Toc) file (file_at files file) i)) (sym tocs)
      (begins_all (tocs_there file ++ items_in (sort_walk Toc) file (file_at files file) i) (tocs_of files now.first now.count)
      (tocs_of files now.first (now.count + group_is.more)) (tocs_begin file i within few)
      (tocs_more now.first now.count group_is.more))

  toc_room : (end file i : ℕ) → set_refusal files ≡ None → file < length files → i < e_shnum (file_at files file) →
      sort_of (file_at files file) i ≡ Toc → end ≡ toc_before files span file i → groups_end files span ≤ DATA_END →
      HasRoomAt end (section_extent (file_at files file) i)
  toc_room end file i whole within inside at is low =
      let piece = section_extent (file_at files file) i in
      let fit = fit_section files file i Toc whole within inside refl at in
      let now : behind end piece ≡ toc_before files span file (suc i) =
      next_of Toc Toc (slots_there file) end file i (tocs_there file) is at in
      let g = group_number files span file in
      let all = group_at files span g in
      let group_is = whole_of files span file within in
      let end_there = group_end files span (suc file) in
      let inside_all : all.first + all.count ≤ length files = omega (arith, group_is.first, group_is.count, group_is.last, end_there) in
      let fits = all_weaker IsSmallToc IsFitExtent fit_toc (tocs_of files all.first all.count)
      (tocs_of_files files all.first all.count whole inside_all).0 in
      let most = low_begins (slots_there file) (tocs_there file ++ items_in (sort_walk Toc) file (file_at files file) (suc i))
      (tocs_of files all.first all.count) (toc_begins file (suc i) within (omega (arith, inside))) fits in
      let size = group_low files span g (number_below files span file within) low in
      record { fit = fit; low = omega (arith, behind_least end piece fit, now, most, size); room = omega (arith, now, most, size) }

  -- a section has room where data fits
  pub has_room : (file i : ℕ) (ends : Ends) (here : Sort) → set_refusal files ≡ None → file < length files →
      i < e_shnum (file_at files file) → FitsData files span → AreEndsAt files span file i ends → sort_of (file_at files file) i ≡ here →
      HasRoom (section_extent (file_at files file) i) ends here
  has_room file i ends ReadOnly whole within inside fits are at =
      room_of_sort ReadOnly IMAGE_START ends.read_only file i 0 whole within inside refl at refl are.read_only fits.read_only
  has_room file i ends Toc whole within inside fits are at = toc_room ends.toc file i whole within inside at are.toc fits.groups
  has_room file i ends Writable whole within inside fits are at =
      room_of_sort Writable (groups_end files span) ends.writable file i 0 whole within inside refl at refl are.writable fits.writable
  has_room file i ends Zeroed whole within inside fits are at =
      room_of_sort Zeroed (writable_end files span) ends.zeroed file i 0 whole within inside refl at refl are.zeroed fits.zeroed
  has_room file i ends Text whole within inside fits are at = tt
  has_room file i ends Dropped whole within inside fits are at = tt
