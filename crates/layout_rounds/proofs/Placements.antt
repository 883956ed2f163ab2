-- One more step of each loop of a placement.
use Rattle.std.proofs.Common.{ℕ, ◌≡◌, ◌<◌, ◌+◌, inl, inr, Bool, List, [], ◌∷◌, ◌++◌, length, sym, ◌∙◌, subst, arith, rules}
use Rattle.std.proofs.Common.{refl, add-one, if◌then◌else◌, ◌==◌, slice_index, set}
use Rattle.std.proofs.lemmas.Bool.Decides.{nat_tests}
use Rattle.std.proofs.lemmas.Grind.{common_steps}
use Rattle.layout_rounds.specs.Shapes.{KeyedText}
use Rattle.layout_rounds.specs.Layout.{key_at, stub_size, stub_bytes, group_start}
use Rattle.layout_rounds.specs.inside.Placed.{AreFirst, AreBytes, AreGroupStarts, AreAreaStarts}
use Rattle.layout_rounds.proofs.Cases.{split}
use Rattle.layout_rounds.proofs.Pushed.{pushed_length, pushed_before, pushed_last}

-- the starts of the first groups, and where the next one starts
pub record AreStartsUpto (t : KeyedText) (F : ℕ → Bool) (n : ℕ) (starts areas : List ℕ) (top : ℕ) : Type 0 where
  pub starts_are : AreGroupStarts t F n starts
  pub areas_are : AreAreaStarts t F n areas
  pub top_is : top ≡ group_start t F n

-- a list with one more at its end is right up to n + 1
pub one_more : (f : ℕ → ℕ) (n : ℕ) (xs ys : List ℕ) (x : ℕ) →
    AreFirst f n xs →
    ys ≡ xs ++ x ∷ [] →
    x ≡ f n →
    AreFirst f (n + 1) ys
one_more f n xs ys x so_far more is = subst (AreFirst f (n + 1)) (sym more) (record {
  count = omega (arith, pushed_length xs x, so_far.count);
  each = λ i lt. elim (split i n lt) [
    | inl before ↦ pushed_before xs x 0 i (omega (arith, before, so_far.count)) ∙ so_far.each i before
    | inr same ↦ subst (λ (j : ℕ). slice_index (xs ++ x ∷ []) j ≡ f j) (sym same)
        (pushed_last xs x 0 n (sym so_far.count) ∙ is)
  ];
})

module _ (t : KeyedText) (F : ℕ → Bool) where
  bytes_next : (g n : ℕ) →
      stub_bytes t F g (n + 1) ≡ stub_bytes t F g n + (if (key_at t n).group == g then stub_size t F n else 0)
  bytes_next g n = rw (add-one n) refl

  bytes_here : (n g size i : ℕ) (bytes : List ℕ) →
      i < length bytes →
      slice_index bytes i ≡ stub_bytes t F i n →
      g ≡ (key_at t n).group →
      size ≡ slice_index bytes g + stub_size t F n →
      slice_index (set bytes g size) i ≡ stub_bytes t F i (n + 1)
  bytes_here n g size i bytes within so_far here is = grind (arith, common_steps, nat_tests, bytes_next)

  -- one more stub in its area
  pub bytes_more : (n g size : ℕ) (bytes : List ℕ) →
      AreBytes t F n bytes →
      g ≡ (key_at t n).group →
      size ≡ slice_index bytes g + stub_size t F n →
      AreBytes t F (n + 1) (set bytes g size)
  bytes_more n g size bytes so_far here is = record {
    count = search (rules, so_far.count);
    each = λ i within. bytes_here n g size i bytes (omega (arith, within, so_far.count)) (so_far.each i within) here is;
  }
