-- The sorts of a file's sections, one after the other.
use Rattle.std.proofs.Common.{◌≡◌, ◌<◌, ℕ, ◌+◌, List, [], ◌∷◌, ◌++◌, length, length-append, sym, ap, ◌∙◌, inl, inr, arith}
use Rattle.std.specs.List.{slice_index_or}
use Rattle.std.proofs.lemmas.Bool.{cases_lt}
use Rattle.object_set.specs.declared.sort.Sort.{Sort}
use Rattle.object_set.specs.Sections.{sort_of}
use Rattle.object_set.specs.inside.Sorts.{AreSorts}
use Rattle.object_set.specs.laws.Rows.{index_left, index_last}

-- the sort of one section more
pub sorts_more : (b : List ℕ) (n : ℕ) (old new : List Sort) (x : Sort) → AreSorts b n old → x ≡ sort_of b n → new ≡ old ++ x ∷ [] →
    AreSorts b (n + 1) new
sorts_more b n old new x are this is =
    let size : length new ≡ length (old ++ x ∷ []) = ap length is in
    record {
      count = size ∙ simp length-append (omega (arith, are.count));
      each = λ i d within.
          let read = ap (λ (l : List Sort). slice_index_or l i d) is in
          elim (cases_lt i n) [
            | inl less ↦ (
                let inside : i < length old = omega (arith, are.count) in
                read ∙ index_left old (x ∷ []) i d inside ∙ are.each i d less)
            | inr most ↦ (
                let same : n ≡ i = omega arith in
                let last : length old ≡ i = omega (arith, are.count) in
                read ∙ ap (λ (j : ℕ). slice_index_or (old ++ x ∷ []) j d) (sym last) ∙ index_last old x d ∙ this
                ∙ ap (sort_of b) same)
          ];
    }
