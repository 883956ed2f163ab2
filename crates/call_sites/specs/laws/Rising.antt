-- Lists of which a number of each element is below that of the next.
use Rattle.std.proofs.Common.{◌≡◌, ◌<◌, ◌≤◌, ◌+◌, ℕ, zero, suc, List, [], ◌∷◌, ◌++◌, length, Some, slice_get, ap, subst, arith}

module _ {X : Type 0} (P : X → Type 0) (n : X → ℕ) where
  -- each element is so, and the numbers rise from one bound on and stay below another
  abbrev pub Rises : ℕ → ℕ → List X → Type 0
  Rises low high [] = low ≤ high
  Rises low high (x ∷ xs) = P x × (low ≤ n x) × Rises (suc (n x)) high xs

  pub rises_lower : (least low high : ℕ) (xs : List X) → least ≤ low → Rises low high xs → Rises least high xs
  rises_lower least low high [] less are = omega arith
  rises_lower least low high (x ∷ xs) less are = (are.0, omega (arith, are.1), are.2)

  pub rises_higher : (low high most : ℕ) (xs : List X) → high ≤ most → Rises low high xs → Rises low most xs
  rises_higher low high most [] more are = omega arith
  rises_higher low high most (x ∷ xs) more are = (are.0, are.1, rises_higher (suc (n x)) high most xs more are.2)

  pub rises_append : (low between high : ℕ) (xs ys : List X) → Rises low between xs → Rises between high ys → Rises low high (xs ++ ys)
  rises_append low between high [] ys first second = rises_lower low between high ys first second
  rises_append low between high (x ∷ xs) ys first second =
      (first.0, first.1, rises_append (suc (n x)) between high xs ys first.2 second)

  -- what stands at a place
  pub rises_at : (low high : ℕ) (xs : List X) (k : ℕ) (x : X) → Rises low high xs → slice_get xs k ≡ Some x → P x
  rises_at low high [] k x are found = cc
  rises_at low high (y ∷ xs) zero x are found = let same : y ≡ x = cc in subst P same are.0
  rises_at low high (y ∷ xs) (suc k) x are found = rises_at (suc (n y)) high xs k x are.2 found

  -- and behind it
  pub rises_next : (low high : ℕ) (xs : List X) (k : ℕ) (x y : X) → Rises low high xs → slice_get xs k ≡ Some x →
      slice_get xs (suc k) ≡ Some y → n x < n y
  rises_next low high [] k x y are first second = cc
  rises_next low high (z ∷ []) zero x y are first second = cc
  rises_next low high (z ∷ w ∷ xs) zero x y are first second =
      let here : z ≡ x = cc in
      let behind : w ≡ y = cc in
      let rise = are.2.1 in
      omega (arith, rise, ap n here, ap n behind)
  rises_next low high (z ∷ xs) (suc k) x y are first second = rises_next (suc (n z)) high xs k x y are.2 first second

  -- there are no more elements than numbers between the bounds
  pub rises_few : (low high : ℕ) (xs : List X) → Rises low high xs → low + length xs ≤ high
  rises_few low high [] are = omega arith
  rises_few low high (x ∷ xs) are =
      let rest = rises_few (suc (n x)) high xs are.2 in
      let least = are.1 in
      omega (arith, rest, least)
