-- A stable sort by numbers leaves those of one number as they were.
use Rattle.std.proofs.Common.{◌≡◌, ℕ, Bool, true, false, ltb, eqb, refl, not, ◌&&◌, cond, List, ap, sym, ◌∙◌, arith}
use Rattle.std.specs.Cmp.{IsStrictWeakOrder, nat_cmp_total}
use Rattle.std.specs.Fn.{Called, ComparesAs}
use Rattle.std.specs.List.{filter}
use Rattle.std.specs.List.Sorted.{IsStableBy, ties}
use Rattle.std.specs.Ordering.{is_lt, nat_cmp}
use Rattle.std.specs.declared.cmp.Ordering.{Ordering}
use Rattle.std.specs.declared.cmp.Ordering.TheVariants.{Less, Equal, Greater}
use Rattle.std.proofs.lemmas.Bool.Decides.{nat_tests}
use Rattle.std.proofs.lemmas.Fn.{always_returns_same}
use Rattle.std.proofs.lemmas.List.Elements.{filter_agree}
use Rattle.std.proofs.lemmas.List.Sorted.{ranks_by}
use denote.Param.Members.{Mut}
use denote.Ref.{Bor}

less_is : (less same : Bool) → is_lt (cond less Less (cond same Equal Greater)) ≡ less
less_is true same = refl
less_is false true = refl
less_is false false = refl

same_tied : (m n : ℕ) → (not (ltb m n) && not (ltb n m)) ≡ eqb n m
same_tied m n = grind (arith, nat_tests)

ties_are : (m n : ℕ) (mn nm : Bool) → mn ≡ ltb m n → nm ≡ ltb n m → (not mn && not nm) ≡ eqb n m
ties_are m n mn nm less more = ap (λ (t : Bool). not t && not nm) less ∙ ap (λ (t : Bool). not (ltb m n) && not t) more ∙ same_tied m n

module _ {X : Type 0} (n : X → ℕ) where
  pub stable_from_sort_by : {F : Type 0} {g : Mut F (Bor X × (Bor X × Unit {0})) Ordering} {f : F} (xs ys : List X) →
      ((lt : X → X → Bool) → IsStrictWeakOrder lt → ComparesAs g lt f → IsStableBy lt xs ys) →
      ((a : Bor X × (Bor X × Unit {0})) (r : Ordering) (f' : F) → Called g f a r f' → (r ≡ nat_cmp (n a.0.now) (n a.1.0.now)) × (f' ≡ f)) →
      (x : X) → filter (λ y. eqb (n y) (n x)) ys ≡ filter (λ y. eqb (n y) (n x)) xs
  stable_from_sort_by {g = g} {f = f} xs ys clause calls x =
      let lt : X → X → Bool = λ x y. is_lt (nat_cmp (n x) (n y)) in
      let compares : ComparesAs g lt f =
      always_returns_same g (λ a r. is_lt r ≡ is_lt (nat_cmp (n a.0.now) (n a.1.0.now))) f
      (λ a r f' k. (ap is_lt (calls a r f' k).0, (calls a r f' k).1)) in
      let stable : IsStableBy lt xs ys = clause lt (ranks_by nat_cmp_total n) compares in
      let tied = λ (y : X). ties_are (n x) (n y) (lt x y) (lt y x) (less_is (ltb (n x) (n y)) (eqb (n x) (n y)))
      (less_is (ltb (n y) (n x)) (eqb (n y) (n x))) in
      sym (filter_agree (ties lt x) (λ y. eqb (n y) (n x)) tied ys) ∙ stable x
      ∙ filter_agree (ties lt x) (λ y. eqb (n y) (n x)) tied xs
