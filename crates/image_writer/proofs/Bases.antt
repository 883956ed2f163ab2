-- The TOC bases of a plan: one for each file, all low.
use Rattle.std.proofs.Common.{ℕ, ◌≡◌, ◌<◌, inl, inr, List, length, slice_index, ap, ◌∙◌, arith}
use Rattle.std.proofs.lemmas.Bool.{cases_lt}
use Rattle.std.proofs.lemmas.List.{get_or_past}
use Rattle.std.proofs.lemmas.List.FromFn.{get_or-map-range_with_len, length-map-range_with_len}
use Rattle.toc_groups.specs.Data.{base_of}
use Rattle.toc_groups.specs.PlacedData.{IsPlacedData}
use Rattle.toc_groups.specs.Plans.{LaidData, IsPlan}

module _ (files : List (List ℕ)) (plan : LaidData) (is : IsPlan files plan.span plan) where
  pub bases_count : length plan.bases ≡ length files
  bases_count = ap (λ (l : List ℕ). length l) is.bases ∙ length-map-range_with_len (base_of files plan.span) 0 (length files)

  base_at : (file : ℕ) → file < length files → slice_index plan.bases file ≡ base_of files plan.span file
  base_at file within =
      ap (λ (l : List ℕ). slice_index l file) is.bases
      ∙ get_or-map-range_with_len (base_of files plan.span) 0 (length files) file file 0 within (omega arith)

  pub bases_low : IsPlacedData files plan.span → (file : ℕ) → slice_index plan.bases file < 0x60000000
  bases_low placed file =
      elim (cases_lt file (length files)) [
        | inl within ↦
            let low = placed.bases file within in
            let here = base_at file within in
            omega (arith, low, here)
        | inr past ↦
            let count = bases_count in
            let none : slice_index plan.bases file ≡ 0 = get_or_past plan.bases file 0 (omega (arith, past, count)) in
            omega (arith, none)
      ]
