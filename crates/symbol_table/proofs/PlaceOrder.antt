-- Lists in order of numbers.
use Rattle.std.proofs.Common.{◌≡◌, ◌<◌, ◌≤◌, ℕ, Bool, true, false, ltb, List, length, sym, subst, arith}
use Rattle.std.specs.List.{slice_index_or}
use Rattle.std.specs.Fn.{Called, ComputesKey}
use Rattle.std.specs.List.Sorted.{IsNonDecreasingBy, IsPartitionedBy, IsPartitionPoint}
use Rattle.std.proofs.lemmas.List.Sorted.{IsPartitionPoint-from_clause, IsPartitionedBy-ltb}
use Rattle.std.proofs.lemmas.Bool.Decides.{nat_tests}
use denote.Param.Members.{Mut}
use denote.Ref.{Bor}

module _ {X : Type 0} (n : X → ℕ) (t : ℕ) where
  -- the elements below a number, and then the others
  abbrev pub IsSplit : List X → ℕ → Type 0
  IsSplit xs i = IsPartitionPoint (λ y. ltb (n y) t ≡ true) (λ y. ltb (n y) t ≡ false) xs i

  -- what `partition_point` says of elements in order
  pub split_point : {F : Type 0} {g : Mut F (Bor X × Unit {0}) Bool} {f : F} (xs : List X) (i : ℕ) → IsNonDecreasingBy n xs →
      ((q : X → Bool) → ComputesKey g q f → IsPartitionedBy q xs → IsPartitionPoint (λ y. q y ≡ true) (λ y. q y ≡ false) xs i) →
      ((a : Bor X × Unit {0}) (r : Bool) (f' : F) → Called g f a r f' → (r ≡ ltb (n a.0.now) t) × (f' ≡ f)) → IsSplit xs i
  split_point xs i sorted clause calls =
      IsPartitionPoint-from_clause (λ y. ltb (n y) t) xs i clause (IsPartitionedBy-ltb n xs t sorted) calls

  -- the same of a list that is shown by an equal one
  pub split_items : {F : Type 0} {g : Mut F (Bor X × Unit {0}) Bool} {f : F} (items shown : List X) (i : ℕ) → shown ≡ items →
      IsNonDecreasingBy n items →
      ((q : X → Bool) → ComputesKey g q f → IsPartitionedBy q shown → IsPartitionPoint (λ y. q y ≡ true) (λ y. q y ≡ false) shown i) →
      ((a : Bor X × Unit {0}) (r : Bool) (f' : F) → Called g f a r f' → (r ≡ ltb (n a.0.now) t) × (f' ≡ f)) → IsSplit items i
  split_items items shown i is sorted clause calls =
      subst (λ (l : List X). IsSplit l i) is (split_point shown i (subst (IsNonDecreasingBy n) (sym is) sorted) clause calls)

  pub before_point : (xs : List X) (i : ℕ) → IsSplit xs i → (k : ℕ) (d : X) → k < i → n (slice_index_or xs k d) < t
  before_point xs i split k d before = let test = split.0 k d (omega arith) before in grind (arith, nat_tests, test)

  pub after_point : (xs : List X) (i : ℕ) → IsSplit xs i → (k : ℕ) (d : X) → i ≤ k → k < length xs → t ≤ n (slice_index_or xs k d)
  after_point xs i split k d after within = let test = split.1 k d after within in grind (arith, nat_tests, test)
