-- Lists that begin others: what stands before a place of a walk begins all of it.
use Rattle.std.proofs.Common.{ℕ, zero, suc, ◌≡◌, ◌<◌, ◌≤◌, ◌+◌, ◌-◌, List, [], ◌∷◌, ◌++◌, length, take, drop}
use Rattle.std.proofs.Common.{ap, sym, subst, ◌∙◌, refl, arith, append_assoc}
use Rattle.std.specs.List.{AllByRecursion}
use Rattle.std.proofs.lemmas.List.{append-nil, take-append-drop}
use Rattle.object_set.specs.Files.{file_at}
use Rattle.object_set.specs.Walks.{Walk, items_in, items_before, all_items}
use Rattle.toc_groups.proofs.Every.{all_left}

-- a list and what comes behind it
pub record Begins {X : Type 0} (xs zs : List X) : Type 0 where
  pub rest : List X
  pub is : zs ≡ xs ++ rest

pub begins_more : {X : Type 0} (xs ys zs : List X) → Begins (xs ++ ys) zs → Begins xs zs
begins_more xs ys zs begins = record { rest = ys ++ begins.rest; is = begins.is ∙ append_assoc xs ys begins.rest }

module _ {X : Type 0} where
  pub begins_all : (xs ys zs : List X) → Begins xs ys → Begins ys zs → Begins xs zs
  begins_all xs ys zs first second = record {
    rest = first.rest ++ second.rest;
    is = second.is ∙ ap (λ (l : List X). l ++ second.rest) first.is ∙ append_assoc xs first.rest second.rest;
  }

  pub begins_behind : (front xs ys : List X) → Begins xs ys → Begins (front ++ xs) (front ++ ys)
  begins_behind front xs ys begins = record {
    rest = begins.rest;
    is = ap (λ (l : List X). front ++ l) begins.is ∙ sym (append_assoc front xs begins.rest);
  }

  pub begins_before : (xs ys more : List X) → Begins xs ys → Begins xs (ys ++ more)
  begins_before xs ys more begins = record {
    rest = begins.rest ++ more;
    is = ap (λ (l : List X). l ++ more) begins.is ∙ append_assoc xs begins.rest more;
  }

  pub take_begun : (n m : ℕ) (xs : List X) → n ≤ m → Begins (take n xs) (take m xs)
  take_begun zero m xs few = record { rest = take m xs; is = refl }
  take_begun (suc n) zero xs few = absurd (omega (arith, few))
  take_begun (suc n) (suc m) [] few = record { rest = []; is = refl }
  take_begun (suc n) (suc m) (x ∷ xs) few =
      let rest = take_begun n m xs (omega (arith, few)) in
      record { rest = rest.rest; is = ap (λ (l : List X). x ∷ l) rest.is }

  pub begun : (P : X → Type 0) (xs zs : List X) → Begins xs zs → AllByRecursion P zs → AllByRecursion P xs
  begun P xs zs begins are = all_left P xs begins.rest (subst (AllByRecursion P) begins.is are)

  -- a list that grows at its end begins what it grows to
  pub grown_begins : (all part : ℕ → List X) → ((n : ℕ) → all (suc n) ≡ all n ++ part n) → (n m : ℕ) → Begins (all n) (all (n + m))
  grown_begins all part more n zero =
      let e : n ≡ n + 0 = omega arith in
      record { rest = []; is = ap all (sym e) ∙ sym (append-nil (all n)) }
  grown_begins all part more n (suc m) =
      let before = grown_begins all part more n m in
      let e : suc (n + m) ≡ n + suc m = omega arith in
      record {
        rest = before.rest ++ part (n + m);
        is = ap all (sym e) ∙ more (n + m) ∙ ap (λ (l : List X). l ++ part (n + m)) before.is
            ∙ append_assoc (all n) before.rest (part (n + m));
      }

  pub take_begins : (xs : List X) (k : ℕ) → Begins (take k xs) xs
  take_begins xs k = record { rest = drop k xs; is = sym (take-append-drop k xs) }

-- ---- walks over sections

module _ {X : Type 0} (w : Walk X) (files : List (List ℕ)) where
  pub in_begins : (file n m : ℕ) → Begins (items_in w file (file_at files file) n) (items_in w file (file_at files file) (n + m))
  in_begins file n m = grown_begins (items_in w file (file_at files file)) (w.items file (file_at files file)) (λ k. refl) n m

  pub before_begins : (n m : ℕ) → Begins (items_before w files n) (items_before w files (n + m))
  before_begins n m =
      grown_begins (items_before w files) (λ k. items_in w k (file_at files k) (w.count (file_at files k))) (λ k. refl) n m

  pub in_all : (file n : ℕ) → n ≤ w.count (file_at files file) →
      Begins (items_in w file (file_at files file) n) (items_in w file (file_at files file) (w.count (file_at files file)))
  in_all file n few =
      let count = w.count (file_at files file) in
      let e : n + (count - n) ≡ count = omega (arith, few) in
      subst (λ (k : ℕ). Begins (items_in w file (file_at files file) n) (items_in w file (file_at files file) k)) e
      (in_begins file n (count - n))

  pub before_all : (n : ℕ) → n ≤ length files → Begins (items_before w files n) (all_items w files)
  before_all n few =
      let e : n + (length files - n) ≡ length files = omega (arith, few) in
      subst (λ (k : ℕ). Begins (items_before w files n) (items_before w files k)) e (before_begins n (length files - n))

  -- what comes before a number of a file
  pub number_begins : (file n : ℕ) → file < length files → n ≤ w.count (file_at files file) →
      Begins (items_before w files file ++ items_in w file (file_at files file) n) (all_items w files)
  number_begins file n within few =
      let b = file_at files file in
      let here = in_all file n few in
      let after = before_all (suc file) (omega (arith, within)) in
      record {
        rest = here.rest ++ after.rest;
        is = after.is ∙ ap (λ (l : List X). (items_before w files file ++ l) ++ after.rest) here.is
            ∙ ap (λ (l : List X). l ++ after.rest)
            (sym (append_assoc (items_before w files file) (items_in w file b n) here.rest))
            ∙ append_assoc (items_before w files file ++ items_in w file b n) here.rest after.rest;
      }
