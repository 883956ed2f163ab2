-- Where groups lie in their run, and how long they are.
use Rattle.std.proofs.Common.{ℕ, zero, suc, ◌≡◌, ◌<◌, ◌≤◌, ◌+◌, ◌^◌, Bool, true, false, ◌==◌, List, [], ◌∷◌}
use Rattle.std.proofs.Common.{length, map, take, get_or, if◌then◌else◌, ap, refl, arith}
use Rattle.std.specs.List.{AllByRecursion, range_with_len}
use Rattle.std.proofs.lemmas.Bool.Decides.{nat_tests}
use Rattle.std.proofs.lemmas.List.FromFn.{get_or-map-range_with_len, length-map-range_with_len}
use Rattle.layout_rounds.proofs.Aligned.{aligned_most}
use Rattle.toc_groups.specs.declared.extents.Extent.{Extent}
use Rattle.toc_groups.specs.declared.extents.TheConstants.{DATA_END}
use Rattle.toc_groups.specs.declared.groups.TocGroup.{TocGroup}
use Rattle.toc_groups.specs.Runs.{placed, run_end, no_piece, IsFitExtent}
use Rattle.toc_groups.specs.Groups.{group_size, group_count, group_at, group_extent, group_extents}
use Rattle.toc_groups.specs.Data.{writable_start, groups_end, group_start}
use Rattle.toc_groups.specs.inside.Laid.{room_of}
use Rattle.toc_groups.proofs.Laying.{low_begins, next_end}
use Rattle.toc_groups.proofs.Begins.{take_begins}

module _ (files : List (List ℕ)) (span : ℕ) where
  pub fit_group : (g : ℕ) → IsFitExtent (group_extent files span g)
  fit_group g = record { power = (8, refl); most = omega arith }

  all_fit : (f : ℕ → Extent) (first n : ℕ) → ((g : ℕ) → IsFitExtent (f g)) → AllByRecursion IsFitExtent (map f (range_with_len first n))
  all_fit f first zero fit = tt
  all_fit f first (suc n) fit = (fit first, all_fit f (first + 1) n fit)

  pub groups_fit : AllByRecursion IsFitExtent (group_extents files span)
  groups_fit = all_fit (group_extent files span) 0 (group_count files span) fit_group

  size_case : (end : ℕ) (piece : Extent) (none : Bool) → (piece.size == 0) ≡ none →
      piece.size ≤ (if none then end else placed end piece + piece.size)
  size_case end piece true is = (let zeroth : piece.size ≡ 0 = grind (arith, nat_tests, is) in omega (arith, zeroth))
  size_case end piece false is = omega arith

  -- a group is no longer than data
  pub group_low : (g : ℕ) → g < group_count files span → groups_end files span ≤ DATA_END →
      group_size files (group_at files span g).first (group_at files span g).count ≤ DATA_END
  group_low g within low =
      let pieces = group_extents files span in
      let long = length-map-range_with_len (group_extent files span) 0 (group_count files span) in
      let inside : g < length pieces = omega (arith, within, long) in
      let read = get_or-map-range_with_len (group_extent files span) 0 (group_count files span) g g no_piece within (omega arith) in
      let start = writable_start files in
      let next = next_end start pieces g no_piece inside in
      let size = size_case (run_end start (take g pieces)) (get_or pieces g no_piece) ((get_or pieces g no_piece).size == 0) refl in
      let all = low_begins start (take (g + 1) pieces) pieces (take_begins pieces (g + 1)) groups_fit in
      let this = ap (λ (e : Extent). e.size) read in
      omega (arith, low, next, size, all, this)

  -- where it starts
  pub start_low : (g : ℕ) → g < group_count files span → groups_end files span ≤ DATA_END → group_start files span g < 2 ^ 62
  start_low g within low =
      let pieces = group_extents files span in
      let start = writable_start files in
      let read = get_or-map-range_with_len (group_extent files span) 0 (group_count files span) g g no_piece within (omega arith) in
      let before = low_begins start (take g pieces) pieces (take_begins pieces g) groups_fit in
      let most = aligned_most (run_end start (take g pieces)) (get_or pieces g no_piece).align in
      let align = ap (λ (e : Extent). e.align) read in
      omega (arith, low, before, most, align)

-- groups may be laid out
pub rooms_fit : (groups : List TocGroup) → AllByRecursion IsFitExtent (map room_of groups)
rooms_fit [] = tt
rooms_fit (g ∷ groups) = (record { power = (8, refl); most = omega arith }, rooms_fit groups)
