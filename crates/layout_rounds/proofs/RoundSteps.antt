-- One more key of a round.
use Rattle.std.proofs.Common.{ℕ, zero, suc, ◌≡◌, ◌≢◌, ◌<◌, ◌≤◌, ◌+◌, inl, inr, Bool, true, false, List, length, set}
use Rattle.std.proofs.Common.{refl, ap, sym, ◌∙◌, subst, arith, rules, add-one, if◌then◌else◌}
use Rattle.std.proofs.lemmas.Grind.{common_steps}
use Rattle.std.proofs.lemmas.Bool.{false≢true}
use Rattle.layout_rounds.specs.declared.rounds.Round.{Round}
use Rattle.layout_rounds.specs.FarSets.{member, count}
use Rattle.layout_rounds.specs.inside.Rounds.{far_after, round_after, IsRound}
use Rattle.layout_rounds.proofs.Cases.{same_or_other, split}

count_next : (F : ℕ → Bool) (n : ℕ) → count F (n + 1) ≡ count F n + (if F n then 1 else 0)
count_next F n = rw (add-one n) refl

pub count_same : (F G : ℕ → Bool) (n : ℕ) → ((k : ℕ) → k < n → F k ≡ G k) → count F n ≡ count G n
count_same F G zero same = refl
count_same F G (suc n) same =
    let ih = count_same F G n (λ k lt. same k (omega (arith, lt))) in
    let here = same n (omega arith) in
    grind (arith, ih, here)

pub count_none : (F : ℕ → Bool) (n : ℕ) → ((k : ℕ) → F k ≡ false) → count F n ≡ 0
count_none F zero out = refl
count_none F (suc n) out = let ih = count_none F n out in let here = out n in grind (arith, ih, here)

abbrev one_for : Bool → ℕ
one_for b = if b then 1 else 0

-- no key was looked at
pub round_start : (near : ℕ → Bool) (far : List Bool) → IsRound near far far 0 (record { looks = 0; added = 0 })
round_start near far = record {
  long = refl;
  untouched = λ j le. refl;
  adds = λ j now was. absurd (false≢true (sym was ∙ now));
  rest = λ j lt out. absurd (omega (arith, lt));
  counted = refl;
  few = omega arith;
  most = omega arith;
  none = λ e. refl;
}

module _ (near : ℕ → Bool) (old new : List Bool) (n : ℕ) (r : Round) (so_far : IsRound near old new n r) where
  count_passed : count (member new) (n + 1) ≡ count (member old) (n + 1) + r.added
  count_passed =
      let here = ap one_for (so_far.untouched n (omega arith)) in
      omega (arith, here, so_far.counted, count_next (member new) n, count_next (member old) n)

  -- the key is in the set or reaches near, and the looks are so many
  passes : (looks : ℕ) →
      r.looks ≤ looks →
      looks ≤ r.looks + 1 →
      (member new n ≡ false → near n ≡ true) →
      IsRound near old new (n + 1) (record { looks = looks; added = r.added })
  passes looks least most_looks here = record {
    long = so_far.long;
    untouched = λ j le. so_far.untouched j (omega (arith, le));
    adds = so_far.adds;
    rest = λ j lt out. elim (split j n lt) [
      | inl before ↦ so_far.rest j before out
      | inr same ↦ subst (λ (i : ℕ). near i ≡ true) (sym same)
          (here (ap (member new) (sym same) ∙ out))
    ];
    counted = count_passed;
    few = omega (arith, so_far.few, least);
    most = omega (arith, so_far.most, most_looks);
    none = so_far.none;
  }

  -- the key isn't looked at
  pub round_rests : (member new n ≡ false → near n ≡ true) → IsRound near old new (n + 1) r
  round_rests here = passes r.looks (omega arith) (omega arith) here

  set_here : n < length new → member (set new n true) n ≡ true
  set_here lt = search (rules, common_steps)

  set_other : (j : ℕ) → j ≢ n → member (set new n true) j ≡ member new j
  set_other j apart = search (rules, common_steps)

  -- the key joins the set
  joins : n < length new →
      member new n ≡ false →
      near n ≡ false →
      IsRound near old (set new n true) (n + 1) (record { looks = r.looks + 1; added = r.added + 1 })
  joins lt out far = record {
    long = let kept : length (set new n true) ≡ length new = search rules in kept ∙ so_far.long;
    untouched = λ j le. set_other j (omega (arith, le)) ∙ so_far.untouched j (omega (arith, le));
    adds = λ j now was. elim (same_or_other j n) [
      | inl same ↦ subst (λ (i : ℕ). near i ≡ false) (sym same) far
      | inr apart ↦ so_far.adds j (sym (set_other j apart) ∙ now) was
    ];
    rest = λ j below still. elim (split j n below) [
      | inl before ↦ so_far.rest j before (sym (set_other j (omega (arith, before))) ∙ still)
      | inr same ↦ absurd (false≢true (sym still ∙ ap (member (set new n true)) same ∙ set_here lt))
    ];
    counted =
        let was = ap one_for (sym (so_far.untouched n (omega arith)) ∙ out) in
        let now = ap one_for (set_here lt) in
        let before = count_same (member (set new n true)) (member new) n
        (λ k below. set_other k (omega (arith, below))) in
        omega (
          arith,
          was,
          now,
          before,
          so_far.counted,
          count_next (member (set new n true)) n,
          count_next (member old) n,
        );
    few = omega (arith, so_far.few);
    most = omega (arith, so_far.most);
    none = λ e. absurd (omega (arith, e));
  }

  looks_by : (held reached : Bool) →
      held ≡ member new n →
      reached ≡ near n →
      n < length new →
      IsRound near old (far_after held reached new n) (n + 1) (round_after held reached r)
  looks_by true reached h e lt = round_rests (λ out. absurd (false≢true (sym out ∙ sym h)))
  looks_by false true h e lt = passes (r.looks + 1) (omega arith) (omega arith) (λ out. sym e)
  looks_by false false h e lt = joins lt (sym h) (sym e)

  -- the key is looked at
  pub round_looks : (reached : Bool) (far : List Bool) (round : Round) →
      reached ≡ near n →
      n < length new →
      far ≡ far_after (member new n) reached new n →
      round ≡ round_after (member new n) reached r →
      IsRound near old far (n + 1) round
  round_looks reached far round e lt far_is round_is =
      subst (λ (xs : List Bool). IsRound near old xs (n + 1) round) (sym far_is)
      (subst (λ (x : Round). IsRound near old (far_after (member new n) reached new n) (n + 1) x) (sym round_is)
      (looks_by (member new n) reached refl e lt))
