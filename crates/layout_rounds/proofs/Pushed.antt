-- Lists with one more at their end.
use Rattle.std.proofs.Common.{ℕ, ◌≡◌, ◌<◌, ◌+◌, List, [], ◌∷◌, ◌++◌, length, get_or, arith}
use Rattle.std.proofs.lemmas.Grind.{common_steps}

pub pushed_length : {A : Type 0} → (xs : List A) (x : A) → length (xs ++ x ∷ []) ≡ length xs + 1
pushed_length xs x = grind (arith, common_steps)

pub pushed_before : {A : Type 0} → (xs : List A) (x d : A) (i : ℕ) →
    i < length xs →
    get_or (xs ++ x ∷ []) i d ≡ get_or xs i d
pushed_before xs x d i lt = grind (arith, common_steps)

pub pushed_last : {A : Type 0} → (xs : List A) (x d : A) (n : ℕ) →
    n ≡ length xs →
    get_or (xs ++ x ∷ []) n d ≡ x
pushed_last xs x d n last = grind (arith, common_steps)
