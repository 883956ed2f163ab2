-- No two parts of data have an address in common.
use Rattle.std.proofs.Common.{ℕ, ◌≡◌, ◌<◌, ◌≤◌, ◌+◌, ◌-◌, ◌*◌, inl, inr, true, List, length, None, ap, sym, ◌∙◌, refl, arith}
use Rattle.std.proofs.lemmas.Bool.{cases_lt}
use Rattle.elf64_records.specs.FileHeader.{e_shnum}
use Rattle.elf64_records.specs.Sections.{sh_size}
use Rattle.elf64_exec.specs.declared.memory_map.TheConstants.{IMAGE_START}
use Rattle.object_set.specs.declared.sort.Sort.{Sort}
use Rattle.object_set.specs.declared.sort.Sort.TheVariants.{Text, Zeroed, Toc, Writable, ReadOnly, Dropped}
use Rattle.object_set.specs.Files.{file_at}
use Rattle.object_set.specs.Refusals.{set_refusal}
use Rattle.object_set.specs.Sections.{sort_of}
use Rattle.toc_groups.specs.Sections.{section_extent, commons_of}
use Rattle.toc_groups.specs.Groups.{group_number}
use Rattle.toc_groups.specs.Data.{groups_end, writable_end, zeroed_end, group_start, address_by_sort, group_slots}
use Rattle.toc_groups.specs.Parts.{Part, is_laid_sort, Takes}
use Rattle.toc_groups.specs.Parts.Part.{of_section, of_slot, of_common}
use Rattle.toc_groups.proofs.Commons.{commons_fit}
use Rattle.toc_groups.proofs.Placing.{slots_there}
use Rattle.toc_groups.proofs.RunOrder.{run_order}
use Rattle.toc_groups.proofs.SectionOrder.{IsBefore, sections_order}
use Rattle.toc_groups.proofs.GroupOrder.{group_order, toc_in, toc_order}
use Rattle.toc_groups.proofs.Regions.{rank_of, one_rank, not_common, rank, slot_in, has_room, ranks_apart}
use Rattle.toc_groups.proofs.GroupFiles.{number_below, number_rises}

-- two numbers of which neither is less are one
neither_less : (x y : ℕ) → (x < y → ⊥) → (y < x → ⊥) → x ≡ y
neither_less x y more less = omega (arith, more, less)

module _ (files : List (List ℕ)) (span : ℕ) where
  -- ---- sections of one sort

  numbers_rise : (file file' : ℕ) → file ≤ file' → group_number files span file ≤ group_number files span file'
  numbers_rise file file' less =
      let e : file + (file' - file) ≡ file' = omega (arith, less) in
      omega (arith, number_rises files span file (file' - file), ap (group_number files span) e)

  file_least : (file i file' j : ℕ) → IsBefore file i file' j → file ≤ file'
  file_least file i file' j (inl less) = omega (arith, less)
  file_least file i file' j (inr same) = omega (arith, same.0)

  sort_order : (sort : Sort) (file i file' j : ℕ) → set_refusal files ≡ None → IsBefore file i file' j → file < length files →
      i < e_shnum (file_at files file) → sort_of (file_at files file) i ≡ sort → file' < length files →
      j < e_shnum (file_at files file') → sort_of (file_at files file') j ≡ sort → is_laid_sort sort ≡ true →
      0 < sh_size (file_at files file) i → 0 < sh_size (file_at files file') j →
      address_by_sort files span file i (section_extent (file_at files file) i) sort + sh_size (file_at files file) i
      ≤ address_by_sort files span file' j (section_extent (file_at files file') j) sort
  sort_order ReadOnly file i file' j whole before within inside is within' inside' is' laid some some' =
      sections_order files ReadOnly IMAGE_START file i file' j whole refl before inside is within' inside' is' some
  sort_order Toc file i file' j whole before within inside is within' inside' is' laid some some' =
      let g = group_number files span file in
      let h = group_number files span file' in
      let rises = numbers_rise file file' (file_least file i file' j before) in
      let here = toc_in files span file i whole within inside is some in
      elim (cases_lt g h) [
        | inl less ↦ (
            let order = group_order files span g h less (number_below files span file' within') (omega (arith, here.1, some)) in
            omega (arith, here.1, order))
        | inr most ↦ (
            let same : h ≡ g = omega (arith, most, rises) in
            let order = toc_order files span file i file' j whole before within inside is within' inside' is' some same in
            omega (arith, order, ap (group_start files span) same))
      ]
  sort_order Writable file i file' j whole before within inside is within' inside' is' laid some some' =
      sections_order files Writable (groups_end files span) file i file' j whole refl before inside is within' inside' is' some
  sort_order Zeroed file i file' j whole before within inside is within' inside' is' laid some some' =
      sections_order files Zeroed (writable_end files span) file i file' j whole refl before inside is within' inside' is' some
  sort_order Text file i file' j whole before within inside is within' inside' is' laid some some' = cc
  sort_order Dropped file i file' j whole before within inside is within' inside' is' laid some some' = cc

  section_order : (file i file' j a : ℕ) → set_refusal files ≡ None → IsBefore file i file' j →
      sort_of (file_at files file) i ≡ sort_of (file_at files file') j →
      Takes files span (of_section file i) a → Takes files span (of_section file' j) a → ⊥
  section_order file i file' j a whole before same first second =
      let b = file_at files file in
      let order = sort_order (sort_of (file_at files file') j) file i file' j whole before first.is.0 first.is.1 same second.is.0
      second.is.1
      refl second.is.2 (has_room files span (of_section file i) a first) (has_room files span (of_section file' j) a second) in
      let here = ap (address_by_sort files span file i (section_extent b i)) same in
      omega (arith, order, here, first.covers.below, second.covers.from)

  sections_one : (file i file' j a : ℕ) → set_refusal files ≡ None → sort_of (file_at files file) i ≡ sort_of (file_at files file') j →
      Takes files span (of_section file i) a → Takes files span (of_section file' j) a → (file ≡ file') × (i ≡ j)
  sections_one file i file' j a whole same first second =
      let before = λ (less : IsBefore file i file' j). section_order file i file' j a whole less same first second in
      let behind = λ (less : IsBefore file' j file i). section_order file' j file i a whole less (sym same) second first in
      let one = neither_less file file' (λ less. before (inl less)) (λ less. behind (inl less)) in
      (one, neither_less i j (λ less. before (inr (one, less))) (λ less. behind (inr (sym one, less))))

  -- ---- slots, and commons

  slot_before : (g k h m a : ℕ) → set_refusal files ≡ None → g < h → Takes files span (of_slot g k) a → Takes files span (of_slot h m) a → ⊥
  slot_before g k h m a whole less first second =
      let inside = slot_in files span g k whole first.is.1 in
      let order = group_order files span g h less second.is.0 (omega (arith, inside)) in
      omega (arith, inside, order, first.covers.below, second.covers.from)

  slots_one : (g k h m a : ℕ) → set_refusal files ≡ None → Takes files span (of_slot g k) a → Takes files span (of_slot h m) a →
      (g ≡ h) × (k ≡ m)
  slots_one g k h m a whole first second =
      let same = neither_less g h (λ less. slot_before g k h m a whole less first second)
      (λ less. slot_before h m g k a whole less second first) in
      let start = ap (group_start files span) same in
      (same, (let e : k ≡ m = omega (arith, start, first.covers.from, first.covers.below, second.covers.from, second.covers.below) in e))

  slot_and_toc : (g k file i a : ℕ) → set_refusal files ≡ None → sort_of (file_at files file) i ≡ Toc → Takes files span (of_slot g k) a →
      Takes files span (of_section file i) a → ⊥
  slot_and_toc g k file i a whole is first second =
      let h = group_number files span file in
      let b = file_at files file in
      let some = has_room files span (of_section file i) a second in
      let inside = slot_in files span g k whole first.is.1 in
      let there = toc_in files span file i whole second.is.0 second.is.1 is some in
      let below = number_below files span file second.is.0 in
      let address = ap (address_by_sort files span file i (section_extent b i)) is in
      elim (cases_lt g h) [
        | inl less ↦ (
            let order = group_order files span g h less below (omega (arith, inside)) in
            omega (arith, inside, order, address, first.covers.below, second.covers.from))
        | inr most ↦ elim (cases_lt h g) [
          | inl less ↦ (
              let order = group_order files span h g less first.is.0 (omega (arith, there.1, some)) in
              omega (arith, there.1, order, address, second.covers.below, first.covers.from))
          | inr more ↦ (
              let same : g ≡ h = omega (arith, most, more) in
              let start = ap (group_start files span) same in
              let slots : slots_there files span file ≡ 8 * length (group_slots files span g) =
              ap (λ (n : ℕ). 8 * length (group_slots files span n)) (sym same) in
              omega (arith, there.0, slots, start, address, first.is.1, first.covers.below, second.covers.from))
        ]
      ]

  common_before : (c d a : ℕ) → set_refusal files ≡ None → c < d → Takes files span (of_common c) a → Takes files span (of_common d) a → ⊥
  common_before c d a whole less first second =
      let order = run_order (zeroed_end files span) c d (commons_of files) (commons_fit files whole) less second.is
      (has_room files span (of_common c) a first) in
      omega (arith, order, first.covers.below, second.covers.from)

  toc_by_rank : (s : Sort) → is_laid_sort s ≡ true → rank_of s ≡ 1 → s ≡ Toc
  toc_by_rank s laid is = one_rank s Toc laid refl is

  same_rank : (p q : Part) (a : ℕ) → set_refusal files ≡ None → Takes files span p a → Takes files span q a →
      rank files span p ≡ rank files span q → p ≡ q
  same_rank (of_section file i) (of_section file' j) a whole first second same =
      let sorts = one_rank (sort_of (file_at files file) i) (sort_of (file_at files file') j) first.is.2 second.is.2 same in
      let both = sections_one file i file' j a whole sorts first second in
      ap (λ (f : ℕ). of_section f i) both.0 ∙ ap (λ (n : ℕ). of_section file' n) both.1
  same_rank (of_section file i) (of_slot g k) a whole first second same =
      absurd (slot_and_toc g k file i a whole (toc_by_rank (sort_of (file_at files file) i) first.is.2 same) second first)
  same_rank (of_section file i) (of_common c) a whole first second same =
      absurd (not_common (sort_of (file_at files file) i) first.is.2 same)
  same_rank (of_slot g k) (of_section file i) a whole first second same =
      absurd (slot_and_toc g k file i a whole (toc_by_rank (sort_of (file_at files file) i) second.is.2 (sym same)) first second)
  same_rank (of_slot g k) (of_slot h m) a whole first second same =
      let both = slots_one g k h m a whole first second in
      ap (λ (n : ℕ). of_slot n k) both.0 ∙ ap (λ (n : ℕ). of_slot h n) both.1
  same_rank (of_slot g k) (of_common c) a whole first second same = absurd (omega (arith, same))
  same_rank (of_common c) (of_section file i) a whole first second same =
      absurd (not_common (sort_of (file_at files file) i) second.is.2 (sym same))
  same_rank (of_common c) (of_slot g k) a whole first second same = absurd (omega (arith, same))
  same_rank (of_common c) (of_common d) a whole first second same =
      ap of_common (neither_less c d (λ less. common_before c d a whole less first second)
      (λ less. common_before d c a whole less second first))

  -- no two parts have an address in common
  pub parts_apart : (p q : Part) (a : ℕ) → set_refusal files ≡ None → Takes files span p a → Takes files span q a → p ≡ q
  parts_apart p q a whole first second =
      same_rank p q a whole first second
      (neither_less (rank files span p) (rank files span q) (ranks_apart files span p q a whole first second)
      (ranks_apart files span q p a whole second first))
