-- The runs of data one behind the other, and when data is too big.
use Rattle.std.proofs.Common.{ℕ, zero, suc, ◌≡◌, ◌<◌, ◌≤◌, ◌+◌, ◌-◌, ◌⊎◌, inl, inr, Bool, true, false, ◌==◌, List, [], ◌∷◌, ◌++◌, length, map}
use Rattle.std.proofs.Common.{Vec, Global, Some, None, slice_get, if◌then◌else◌, ap, sym, subst, ◌∙◌, refl, arith}
use Rattle.std.proofs.lemmas.List.{length-map}
use Rattle.std.specs.List.{range_with_len}
use Rattle.std.proofs.lemmas.Bool.Decides.{nat_tests}
use Rattle.elf64_exec.specs.declared.memory_map.TheConstants.{IMAGE_START, PAGE}
use Rattle.object_set.specs.declared.refusal.Refusal.{Refusal}
use Rattle.object_set.specs.declared.refusal.Refusal.TheVariants.{DataTooBig, Memory}
use Rattle.object_set.specs.declared.sort.Sort.TheVariants.{Zeroed, Writable}
use Rattle.object_set.specs.Refusals.{set_refusal}
use Rattle.object_set.specs.Walks.{all_items}
use Rattle.ppc_bytes.specs.Bytes.{IsAlignedUp}
use Rattle.layout_rounds.specs.Shapes.{aligned}
use Rattle.layout_rounds.proofs.Aligned.{aligned_is}
use Rattle.toc_groups.specs.declared.extents.Extent.{Extent}
use Rattle.toc_groups.specs.declared.extents.TheConstants.{DATA_END}
use Rattle.toc_groups.specs.declared.groups.TocGroup.{TocGroup}
use Rattle.toc_groups.specs.declared.groups.TocGroups.{TocGroups}
use Rattle.toc_groups.specs.declared.pieces.GroupStarts.{GroupStarts}
use Rattle.toc_groups.specs.declared.pieces.Runs.{Runs}
use Rattle.toc_groups.specs.declared.pieces.SectionAddresses.{SectionAddresses}
use Rattle.toc_groups.specs.Runs.{run_end, run_place}
use Rattle.toc_groups.specs.Sections.{sections_of, commons_of}
use Rattle.toc_groups.specs.Groups.{group_extent, group_extents, group_count}
use Rattle.toc_groups.specs.Data.{read_only_end, writable_start, groups_end, writable_end, zeroed_end, commons_end, data_end, data_refusal, group_start, address_walk}
use Rattle.toc_groups.specs.inside.Limits.{past_limit}
use Rattle.toc_groups.specs.inside.Laid.{room_of, AreStarts, AreGroupStarts, AreRuns, AreAddresses, AreLaid}
use Rattle.toc_groups.specs.inside.Open.{AreGroups}
use Rattle.toc_groups.proofs.Commons.{commons_fit}
use Rattle.toc_groups.proofs.Laying.{aligned_least, run_grows, fit_before, passed}
use Rattle.toc_groups.proofs.GroupPlaces.{groups_fit}
use Rattle.toc_groups.proofs.ReadPlaces.{address_count}

-- the next page of what ends before data's end does so too
pub page_low : (n : ℕ) → n ≤ 0x40000000 → aligned n 0x10000 ≤ 0x40000000
page_low n low = omega (arith, low)

rooms_from : (f : ℕ → Extent) (groups : List TocGroup) (first n : ℕ) → length groups ≡ n →
    ((i : ℕ) (g : TocGroup) → slice_get groups i ≡ Some g → room_of g ≡ f (first + i)) →
    map room_of groups ≡ map f (range_with_len first n)
rooms_from f [] first zero long each = refl
rooms_from f [] first (suc n) long each = absurd (omega (arith, long))
rooms_from f (g ∷ groups) first zero long each = absurd (omega (arith, long))
rooms_from f (g ∷ groups) first (suc n) long each =
    let here : room_of g ≡ f first = each 0 g refl ∙ ap f (let e : first + 0 ≡ first = omega arith in e) in
    let rest = rooms_from f groups (first + 1) n (omega (arith, long))
    (λ i x found. each (suc i) x found ∙ ap f (let e : first + suc i ≡ first + 1 + i = omega arith in e)) in
    ap (λ (x : Extent). x ∷ map room_of groups) here ∙ ap (λ (l : List Extent). f first ∷ l) rest

module _ (files : List (List ℕ)) (span : ℕ) where
  -- the rooms of the groups
  pub rooms_are : (laid : TocGroups) → AreGroups files span laid → map room_of laid.groups.items ≡ group_extents files span
  rooms_are laid are =
      rooms_from (group_extent files span) laid.groups.items 0 (group_count files span) are.count
      (λ i g found.
      let this = are.each i g found in
      ap (λ (s : ℕ). record { size = s; align = 0x100 }) this.size
      ∙ ap (group_extent files span) (let e : i ≡ 0 + i = omega arith in e))

  pub starts_are : (laid : TocGroups) (start : ℕ) (starts : GroupStarts) → AreGroups files span laid → start ≡ writable_start files →
      AreStarts start (map room_of laid.groups.items) starts →
      AreGroupStarts files span starts.starts.items × (starts.end ≡ groups_end files span)
  starts_are laid start starts are is laid_out =
      let rooms = rooms_are laid are in
      let all : List Extent = map room_of laid.groups.items in
      let count : length all ≡ group_count files span =
      length-map laid.groups.items room_of ∙ are.count in (
        laid_out.starts ∙ ap (λ (s : ℕ). map (run_place s all) (range_with_len 0 (length all))) is
            ∙ ap (λ (l : List Extent). map (run_place (writable_start files) l) (range_with_len 0 (length all))) rooms
            ∙ ap (λ (n : ℕ). map (group_start files span) (range_with_len 0 n)) count,
        laid_out.end ∙ ap (λ (s : ℕ). run_end s all) is ∙ ap (run_end (writable_start files)) rooms,
      )

  -- ---- runs in order

  pub record AreOrdered : Type 0 where
    pub read_only : read_only_end files ≤ writable_start files
    pub groups : writable_start files ≤ groups_end files span
    pub writable : groups_end files span ≤ writable_end files span
    pub zeroed : writable_end files span ≤ zeroed_end files span
    pub commons : zeroed_end files span ≤ commons_end files span

  pub in_order : set_refusal files ≡ None → AreOrdered
  in_order whole = record {
    read_only = aligned_least (read_only_end files) PAGE (omega arith);
    groups = run_grows (group_extents files span) (writable_start files) (groups_fit files span);
    writable = run_grows (sections_of files Writable) (groups_end files span)
        (fit_before files Writable (length files) whole (omega arith) refl);
    zeroed = run_grows (sections_of files Zeroed) (writable_end files span)
        (fit_before files Zeroed (length files) whole (omega arith) refl);
    commons = run_grows (commons_of files) (zeroed_end files span) (commons_fit files whole);
  }

  end_case : (end read_only start : ℕ) (none : Bool) → (end == start) ≡ none → 0x40000000 < end → start ≡ aligned read_only 0x10000 →
      0x30000000 < (if none then read_only else end) - 0x10000000
  end_case end read_only start true test over is =
      let same : end ≡ start = grind (arith, nat_tests, test) in
      let low : read_only ≤ 0x40000000 → ⊥ = λ less. omega (arith, page_low read_only less, is, same, over) in
      let high : 0x40000000 < read_only = grind (arith, low) in
      omega (arith, high)
  end_case end read_only start false test over is = omega (arith, over)

  too_big : 0x30000000 < data_end files span - 0x10000000 → data_refusal files span ≡ Some DataTooBig
  too_big over = grind (arith, nat_tests, over)

  -- data is too big where a part of it passes its end
  pub refused : (end : ℕ) (r : Refusal) → end ≤ commons_end files span → past_limit end ≡ Some r → data_refusal files span ≡ Some r
  refused end r within past =
      let this = passed end r past in
      let start = writable_start files in
      too_big (end_case (commons_end files span) (read_only_end files) start (commons_end files span == start) refl
      (omega (arith, this.0, within)) refl) ∙ ap Some this.1

  -- the writable segment starts here
  pub start_is : (end start : ℕ) → end ≡ read_only_end files → IsAlignedUp end PAGE start → start ≡ writable_start files
  start_is end start is up = aligned_is end PAGE start (omega arith) up ∙ ap (λ (n : ℕ). aligned n PAGE) is

  -- the groups are laid out behind the read-only sections
  pub starts_behind : (laid : TocGroups) (read_only start : ℕ) (groups : List TocGroup) (starts : GroupStarts) → AreGroups files span laid →
      read_only ≡ read_only_end files → IsAlignedUp read_only PAGE start → groups ≡ laid.groups.items →
      AreStarts start (map room_of groups) starts → AreGroupStarts files span starts.starts.items × (starts.end ≡ groups_end files span)
  starts_behind laid read_only start groups starts are is up these laid_out =
      starts_are laid start starts are (start_is read_only start is up)
      (subst (λ (l : List TocGroup). AreStarts start (map room_of l) starts) these laid_out)

  pub groups_past : (laid : TocGroups) (start : ℕ) (groups : List TocGroup) (r : Refusal) → AreGroups files span laid →
      start ≡ writable_start files → groups ≡ laid.groups.items →
      (r ≡ Memory) ⊎ (past_limit (run_end start (map room_of groups)) ≡ Some r) → set_refusal files ≡ None →
      (r ≡ Memory) ⊎ (data_refusal files span ≡ Some r)
  groups_past laid start groups r are is these (inl memory) whole = inl memory
  groups_past laid start groups r are is these (inr past) whole =
      let order = in_order whole in
      let here : run_end start (map room_of groups) ≡ groups_end files span =
      ap (λ (s : ℕ). run_end s (map room_of groups)) is
      ∙ ap (λ (l : List TocGroup). run_end (writable_start files) (map room_of l)) these
      ∙ ap (run_end (writable_start files)) (rooms_are laid are) in
      inr (refused (groups_end files span) r (omega (arith, order.writable, order.zeroed, order.commons))
      (sym (ap past_limit here) ∙ past))

  -- the runs of sections
  pub runs_are : (starts : Vec ℕ Global) (read_only start groups zeroed_runs zeros_end : ℕ) → set_refusal files ≡ None →
      AreGroupStarts files span starts.items → read_only ≡ read_only_end files → start ≡ writable_start files →
      groups ≡ groups_end files span → zeroed_runs ≡ writable_end files span → zeros_end ≡ zeroed_end files span → zeros_end ≤ DATA_END →
      AreRuns files span (record {
        starts = starts;
        first = record { read_only = IMAGE_START; toc = 0; writable = groups; zeroed = zeroed_runs };
        read_only = read_only;
        writable_start = start;
        zeroed = zeros_end;
      })
  runs_are starts read_only start groups zeroed_runs zeros_end whole starts_are_there read_only_is start_at groups_at zeroed_start_at
      zeroed_at low =
      let order = in_order whole in
      record {
        starts = starts_are_there;
        first = record {
          read_only = refl;
          toc = λ some. absurd (omega (arith, some));
          writable = groups_at;
          zeroed = zeroed_start_at;
        };
        fits = record {
          read_only = omega (arith, order.read_only, order.groups, order.writable, order.zeroed, zeroed_at, low);
          groups = omega (arith, order.writable, order.zeroed, zeroed_at, low);
          writable = omega (arith, order.zeroed, zeroed_at, low);
          zeroed = omega (arith, zeroed_at, low);
        };
        read_only = read_only_is;
        writable_start_is = start_at;
        zeroed = zeroed_at;
      }

  -- all pieces
  pub laid_are : (runs : Runs) (before : SectionAddresses) (after : Vec ℕ Global) (rooms : List Extent) (count end : ℕ) →
      AreRuns files span runs → AreAddresses files span (length files) before → rooms ≡ commons_of files →
      after.items ≡ before.pieces.items ++ map (run_place runs.zeroed rooms) (range_with_len 0 (length rooms)) →
      end ≡ run_end runs.zeroed rooms → count ≡ length before.pieces.items →
      AreLaid files span (record {
        addresses = record { pieces = after; firsts = before.firsts };
        commons = count;
        starts = runs.starts;
        ends = record { read_only = runs.read_only; writable_start = runs.writable_start; writable = runs.first.zeroed; commons = end };
      })
  laid_are runs before after rooms count end are addresses rooms_is after_is end_is count_is =
      let places : List ℕ → ℕ → List Extent → List ℕ =
      λ front start pieces. front ++ map (run_place start pieces) (range_with_len 0 (length pieces)) in
      record {
        pieces = after_is ∙ ap (λ (l : List Extent). places before.pieces.items runs.zeroed l) rooms_is
            ∙ ap (λ (l : List ℕ). places l runs.zeroed (commons_of files)) addresses.pieces
            ∙ ap (λ (s : ℕ). places (all_items (address_walk files span) files) s (commons_of files)) are.zeroed;
        firsts = addresses.firsts;
        commons = count_is ∙ ap (λ (l : List ℕ). length l) addresses.pieces ∙ address_count files span (length files);
        starts = are.starts;
        fits = are.fits;
        read_only = are.read_only;
        writable_start_is = are.writable_start_is;
        writable = are.first.zeroed;
        commons_end_is = end_is ∙ ap (run_end runs.zeroed) rooms_is ∙ ap (λ (s : ℕ). run_end s (commons_of files)) are.zeroed;
      }
