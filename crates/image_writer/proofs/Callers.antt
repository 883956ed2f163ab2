-- The TOC bases of the callers in each stub group.
use Rattle.std.proofs.Common.{ℕ, ◌≡◌, ◌<◌, ◌+◌, Bool, List, length, refl, arith, add-one, if◌then◌else◌, ◌==◌, slice_index, set}
use Rattle.std.proofs.lemmas.Bool.Decides.{nat_tests}
use Rattle.std.proofs.lemmas.Grind.{common_steps}
use Rattle.layout_rounds.specs.Shapes.{KeyedText}
use Rattle.layout_rounds.specs.Layout.{PlacedText, group_at}
use Rattle.image_writer.specs.Text.{text_section, caller_base}

module _ (files : List (List ℕ)) (bases : List ℕ) (t : KeyedText) (F : ℕ → Bool) (p : PlacedText) where
  caller_next : (g n : ℕ) →
      caller_base files bases t F p g (n + 1)
      ≡ (if group_at t n == g then slice_index bases (text_section files n).file else caller_base files bases t F p g n)
  caller_next g n = rw (add-one n) refl

  -- one more section
  pub caller_here : (n g base i : ℕ) (callers : List ℕ) →
      i < length callers →
      slice_index callers i ≡ caller_base files bases t F p i n →
      g ≡ group_at t n →
      base ≡ slice_index bases (text_section files n).file →
      slice_index (set callers g base) i ≡ caller_base files bases t F p i (n + 1)
  caller_here n g base i callers within so_far here is = grind (arith, common_steps, nat_tests, caller_next)
