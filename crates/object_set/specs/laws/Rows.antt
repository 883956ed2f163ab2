-- Tables of numbers that grow at their end.
use Rattle.std.proofs.Common.{◌≡◌, ◌<◌, ℕ, ◌+◌, zero, suc, List, [], ◌∷◌, ◌++◌, length, length-append, get_or, sym, ap, ◌∙◌, refl, arith, inl, inr, subst}
use Rattle.std.specs.List.{slice_index_or}
use Rattle.std.proofs.lemmas.Bool.{cases_lt}
use Rattle.object_set.specs.inside.Rows.{IsRow, AreRows}

module _ {X : Type 0} where
  pub index_left : (xs ys : List X) (k : ℕ) (d : X) → k < length xs → slice_index_or (xs ++ ys) k d ≡ slice_index_or xs k d
  index_left [] ys k d within = absurd (omega arith)
  index_left (x ∷ xs) ys zero d within = refl
  index_left (x ∷ xs) ys (suc k) d within = index_left xs ys k d (omega arith)

  pub index_last : (xs : List X) (x d : X) → slice_index_or (xs ++ x ∷ []) (length xs) d ≡ x
  index_last [] x d = refl
  index_last (y ∷ xs) x d = index_last xs x d

  -- what is read at an index, whatever stands for one past the end
  pub index_read : (xs : List X) (k : ℕ) (x d : X) → k < length xs → x ≡ slice_index_or xs k x → slice_index_or xs k d ≡ x
  index_read [] k x d within is = absurd (omega arith)
  index_read (y ∷ xs) zero x d within is = sym is
  index_read (y ∷ xs) (suc k) x d within is = index_read xs k x d (omega arith) is

-- a row with one number more
pub row_more : (P : ℕ → ℕ → Type 0) (n : ℕ) (row : List ℕ) (x : ℕ) → IsRow P n row → P n x → IsRow P (n + 1) (row ++ x ∷ [])
row_more P n row x are this = record {
  count = simp length-append (omega (arith, are.count));
  each = λ i within.
      elim (cases_lt i n) [
        | inl less ↦ (
            let inside : i < length row = omega (arith, are.count) in
            subst (P i) (sym (index_left row (x ∷ []) i 0 inside)) (are.each i less))
        | inr most ↦ (
            let same : n ≡ i = omega arith in
            let last : length row ≡ i = omega (arith, are.count) in
            let read : slice_index_or (row ++ x ∷ []) i 0 ≡ x = ap (λ (j : ℕ). slice_index_or (row ++ x ∷ []) j 0) (sym last)
            ∙ index_last row x 0 in
            subst (P i) (sym read) (subst (λ (j : ℕ). P j x) same this))
      ];
}

-- what follows from a row's relation
pub row_weaker : (P Q : ℕ → ℕ → Type 0) (n : ℕ) (row : List ℕ) → ((i x : ℕ) → i < n → P i x → Q i x) → IsRow P n row → IsRow Q n row
row_weaker P Q n row follows are = record { count = are.count; each = λ i within. follows i (get_or row i 0) within (are.each i within) }

-- rows with one row more
pub rows_more : (P : ℕ → ℕ → ℕ → Type 0) (width : ℕ → ℕ) (n : ℕ) (rows : List (List ℕ)) (row : List ℕ) → AreRows P width n rows →
    IsRow (P n) (width n) row → AreRows P width (n + 1) (rows ++ row ∷ [])
rows_more P width n rows row are this = record {
  count = simp length-append (omega (arith, are.count));
  each = λ f within.
      elim (cases_lt f n) [
        | inl less ↦ (
            let inside : f < length rows = omega (arith, are.count) in
            subst (IsRow (P f) (width f)) (sym (index_left rows (row ∷ []) f [] inside)) (are.each f less))
        | inr most ↦ (
            let same : n ≡ f = omega arith in
            let last : length rows ≡ f = omega (arith, are.count) in
            let read : slice_index_or (rows ++ row ∷ []) f [] ≡ row =
            ap (λ (j : ℕ). slice_index_or (rows ++ row ∷ []) j []) (sym last) ∙ index_last rows row [] in
            subst (IsRow (P f) (width f)) (sym read) (subst (λ (j : ℕ). IsRow (P j) (width j) row) same this))
      ];
}

-- what follows from the relation of rows
pub rows_weaker : (P Q : ℕ → ℕ → ℕ → Type 0) (width : ℕ → ℕ) (n : ℕ) (rows : List (List ℕ)) →
    ((file i x : ℕ) → file < n → i < width file → P file i x → Q file i x) → AreRows P width n rows → AreRows Q width n rows
rows_weaker P Q width n rows follows are = record {
  count = are.count;
  each = λ file within. row_weaker (P file) (Q file) (width file) (slice_index_or rows file [])
      (λ i x inside is. follows file i x within inside is) (are.each file within);
}

-- a row that is read among rows
pub row_read : (P : ℕ → ℕ → ℕ → Type 0) (width : ℕ → ℕ) (n : ℕ) (rows : List (List ℕ)) (file : ℕ) (row : List ℕ) → AreRows P width n rows →
    file < n → row ≡ slice_index_or rows file row → IsRow (P file) (width file) row
row_read P width n rows file row are within is =
    subst (IsRow (P file) (width file)) (index_read rows file row [] (omega (arith, are.count)) is) (are.each file within)
