-- Lists that take in what holds.
use Rattle.std.proofs.Common.{◌≡◌, ◌+◌, inl, inr, ℕ, List, [], ◌∷◌, ◌++◌, sym, subst, arith}
use Rattle.std.specs.List.{Contains}
use Rattle.std.proofs.lemmas.Bool.{cases_lt}
use Rattle.std.proofs.lemmas.List.Elements.{Contains-append_left, Contains-push, Contains-push_cases}
use Rattle.pcrel_rewrite.specs.inside.Joins.{Joins, Before, TakesIn}

-- nothing holds
pub joins_nothing : {X : Type 0} (P : X → Type 0) (xs : List X) → ((x : X) → ¬ P x) → Joins P xs xs
joins_nothing P xs none = record { kept = λ x held. held; taken = λ x holds. absurd (none x holds); only = λ x held. inl held }

-- it holds of one
pub joins_one : {X : Type 0} (P : X → Type 0) (xs : List X) (y : X) → P y → ((x : X) → P x → x ≡ y) → Joins P xs (xs ++ y ∷ [])
joins_one P xs y holds one = record {
  kept = λ x held. Contains-append_left xs (y ∷ []) x held;
  taken = λ x this. subst (Contains (xs ++ y ∷ [])) (sym (one x this)) (Contains-push xs y);
  only = λ x held. elim (Contains-push_cases xs y x held) [
    | inl before ↦ inl before
    | inr same ↦ inr (subst P same holds)
  ];
}

-- of the first n facts, and of the next one
pub joins_more : {X : Type 0} (P : ℕ → X → Type 0) (n : ℕ) (old mid new : List X) → Joins (Before P n) old mid → Joins (P n) mid new →
    Joins (Before P (n + 1)) old new
joins_more P n old mid new first next = record {
  kept = λ x held. next.kept x (first.kept x held);
  taken = λ x holds.
      elim (cases_lt holds.0 n) [
        | inl less ↦ next.kept x (first.taken x (holds.0, less, holds.2))
        | inr most ↦ (let same : holds.0 ≡ n = omega (arith, holds.1) in next.taken x (subst (λ (k : ℕ). P k x) same holds.2))
      ];
  only = λ x held.
      elim (next.only x held) [
        | inl before ↦ elim (first.only x before) [
          | inl old_one ↦ inl old_one
          | inr holds ↦ inr (holds.0, omega (arith, holds.1), holds.2)
        ]
        | inr holds ↦ inr (n, omega arith, holds)
      ];
}

-- of none of the first 0 facts
pub joins_none : {X : Type 0} (P : ℕ → X → Type 0) (xs : List X) → Joins (Before P 0) xs xs
joins_none P xs = joins_nothing (Before P 0) xs (λ x holds. let none = holds.1 in omega arith)

-- facts that say the same
pub joins_as : {X : Type 0} (P Q : X → Type 0) (old new : List X) → ((x : X) → P x → Q x) → ((x : X) → Q x → P x) → Joins P old new →
    Joins Q old new
joins_as P Q old new to from joins = record {
  kept = joins.kept;
  taken = λ x holds. joins.taken x (from x holds);
  only = λ x held. elim (joins.only x held) [ inl before ↦ inl before | inr holds ↦ inr (to x holds) ];
}

-- nothing holds, or it is there already
pub takes_nothing : {X : Type 0} (P : X → Type 0) (known : Type 0) (xs : List X) → ((x : X) → ¬ P x) → TakesIn P known xs xs
takes_nothing P known xs none = record { kept = λ x held. held; taken = λ x holds. absurd (none x holds); only = λ x held. inl held }

pub takes_known : {X : Type 0} (P : X → Type 0) (known : Type 0) (xs : List X) → known → TakesIn P known xs xs
takes_known P known xs this = record { kept = λ x held. held; taken = λ x holds. inr this; only = λ x held. inl held }

-- it holds of one
pub takes_one : {X : Type 0} (P : X → Type 0) (known : Type 0) (xs : List X) (y : X) → P y → ((x : X) → P x → x ≡ y) →
    TakesIn P known xs (xs ++ y ∷ [])
takes_one P known xs y holds one =
    let joins = joins_one P xs y holds one in
    record { kept = joins.kept; taken = λ x this. inl (joins.taken x this); only = joins.only }

-- of the first n facts, and of the next one, where that is known to be there if the one before is
pub joins_taken : {X : Type 0} (P : ℕ → X → Type 0) (known : Type 0) (n : ℕ) (old mid new : List X) →
    (known → (x : X) → P n x → Before P n x) → Joins (Before P n) old mid → TakesIn (P n) known mid new → Joins (Before P (n + 1)) old new
joins_taken P known n old mid new again first next =
    joins_more P n old mid new first (record {
      kept = next.kept;
      taken = λ x holds. elim (next.taken x holds) [
        | inl held ↦ held
        | inr this ↦ next.kept x (first.taken x (again this x holds))
      ];
      only = next.only;
    })
