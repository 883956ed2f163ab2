-- A far set exists: from no key on, one key that doesn't reach near is added after the other.
use Rattle.std.proofs.Common.{ℕ, zero, suc, ◌≡◌, ◌≢◌, ◌<◌, ◌≤◌, ◌+◌, ◌⊎◌, inl, inr, Bool, true, false, List, ◌||◌, ◌==◌}
use Rattle.std.proofs.Common.{ap, sym, ◌∙◌, subst, arith, if◌then◌else◌}
use Rattle.std.proofs.lemmas.Bool.{false≢true}
use Rattle.std.proofs.lemmas.Bool.Decides.{nat_tests}
use Rattle.layout_rounds.specs.declared.shape.ShapeSite.{ShapeSite}
use Rattle.layout_rounds.specs.FarSets.{count, ◌⊆◌}
use Rattle.layout_rounds.specs.Shapes.{KeyedText}
use Rattle.layout_rounds.specs.Layout.{key_count}
use Rattle.layout_rounds.specs.Reach.{reaches_near, IsClosed, IsLeastClosed}
use Rattle.layout_rounds.specs.inside.Calls.{AreCalls}
use Rattle.layout_rounds.proofs.KeyNumbers.{known}
use Rattle.layout_rounds.proofs.Counting.{count_most}
use Rattle.layout_rounds.proofs.RoundSteps.{count_same}
use Rattle.layout_rounds.proofs.FarLayouts.{unreached_within}
use Rattle.layout_rounds.proofs.Cases.{below_or_last}

-- a set with one more key
abbrev with_one : (ℕ → Bool) → ℕ → ℕ → Bool
with_one F k j = (j == k) || F j

is_itself : (k : ℕ) → k == k ≡ true
is_itself k = grind (arith, nat_tests)

is_other : (j k : ℕ) → j ≢ k → j == k ≡ false
is_other j k apart = grind (arith, nat_tests, apart)

is_same : (j k : ℕ) → j == k ≡ true → j ≡ k
is_same j k h = grind (arith, nat_tests, h)

kept_by : (F : ℕ → Bool) (k j : ℕ) → j ≢ k → with_one F k j ≡ F j
kept_by F k j apart = ap (λ (b : Bool). b || F j) (is_other j k apart)

here_by : (F : ℕ → Bool) (k : ℕ) → with_one F k k ≡ true
here_by F k = ap (λ (b : Bool). b || F k) (is_itself k)

abbrev one_for : Bool → ℕ
one_for b = if b then 1 else 0

count_one : (F : ℕ → Bool) (k n : ℕ) → k < n → F k ≡ false → count (with_one F k) n ≡ count F n + 1
count_one F k zero lt out = absurd (omega (arith, lt))
count_one F k (suc n) lt out = elim (below_or_last k n lt) [
  | inl before ↦
      let ih = count_one F k n before out in
      let here = ap one_for (kept_by F k n (omega (arith, before))) in
      omega (arith, ih, here)
  | inr last ↦
      let below = count_same (with_one F k) F n (λ j lower. kept_by F k j (omega (arith, lower, last))) in
      let now = ap one_for (ap (with_one F k) (sym last) ∙ here_by F k) in
      let was = ap one_for (ap F (sym last) ∙ out) in
      omega (arith, below, now, was)
]

module _ (t : KeyedText) (sites : List ShapeSite) (span : ℕ) (calls : AreCalls t sites) (some : 4 ≤ span) where
  -- a key outside the set that doesn't reach near
  record IsUnreached (F : ℕ → Bool) : Type 0 where
    pub key : ℕ
    pub in_text : key < key_count t
    pub out : F key ≡ false
    pub far : reaches_near t sites span F key ≡ false

  -- the first n keys reach near, or there is one that doesn't
  reached_upto : (F : ℕ → Bool) (n : ℕ) →
      n ≤ key_count t →
      ((k : ℕ) → k < n → F k ≡ false → reaches_near t sites span F k ≡ true) ⊎ IsUnreached F
  reached_upto F zero le = inl (λ k lt out. absurd (omega (arith, lt)))
  reached_upto F (suc n) le = elim (reached_upto F n (omega (arith, le))) [
    | inr found ↦ inr found
    | inl near ↦ elim (known (F n)) [
      | inl held ↦ inl (λ k lt out. elim (below_or_last k n lt) [
        | inl before ↦ near k before out
        | inr last ↦ absurd (false≢true (sym out ∙ ap F last ∙ held))
      ])
      | inr out_n ↦ elim (known (reaches_near t sites span F n)) [
        | inl reached ↦ inl (λ k lt out. elim (below_or_last k n lt) [
          | inl before ↦ near k before out
          | inr last ↦ ap (reaches_near t sites span F) last ∙ reached
        ])
        | inr far ↦ inr (record { key = n; in_text = omega (arith, le); out = out_n; far = far })
      ]
    ]
  ]

  within_more : (F : ℕ → Bool) (found : IsUnreached F) →
      ((G : ℕ → Bool) → IsClosed t sites span G → F ⊆ G) →
      (G : ℕ → Bool) → IsClosed t sites span G → with_one F found.key ⊆ G
  within_more F found within G closed j now = elim (known (j == found.key)) [
    | inl same ↦ subst (λ (i : ℕ). G i ≡ true) (sym (is_same j found.key same))
        (unreached_within t sites span calls some F found.key found.in_text found.far G closed (within G closed))
    | inr other ↦ within G closed j (sym (ap (λ (b : Bool). b || F j) other) ∙ now)
  ]

  -- with so many keys that may still be added
  exists_from : (left : ℕ) (F : ℕ → Bool) →
      key_count t ≤ count F (key_count t) + left →
      ((G : ℕ → Bool) → IsClosed t sites span G → F ⊆ G) →
      (H : ℕ → Bool) × IsLeastClosed t sites span H
  exists_from zero F enough within = elim (reached_upto F (key_count t) (omega arith)) [
    | inl closed ↦ (F, record { closed = closed; least = within })
    | inr found ↦ absurd
        (let more = count_one F found.key (key_count t) found.in_text found.out in
        let most = count_most (with_one F found.key) (key_count t) in
        omega (arith, enough, more, most))
  ]
  exists_from (suc left) F enough within = elim (reached_upto F (key_count t) (omega arith)) [
    | inl closed ↦ (F, record { closed = closed; least = within })
    | inr found ↦ exists_from left (with_one F found.key)
        (let more = count_one F found.key (key_count t) found.in_text found.out in omega (arith, enough, more))
        (within_more F found within)
  ]

  pub some_set : (H : ℕ → Bool) × IsLeastClosed t sites span H
  some_set = exists_from (key_count t) (λ k. false) (omega arith) (λ G closed k now. absurd (false≢true now))
