-- The recognised pairs of files tell the same in whatever order they are listed.
use Rattle.std.proofs.Common.{ℕ, ◌≡◌, ◌<◌, Bool, true, ◌&&◌, ◌==◌, inl, inr, List, length, Contains, Option, None, Some, ap, sym, ◌∙◌, subst, refl, arith}
use Rattle.std.specs.List.{slice_index_or}
use Rattle.std.proofs.lemmas.Bool.{cases_lt}
use Rattle.std.proofs.lemmas.Bool.Decides.{nat_tests}
use Rattle.std.proofs.lemmas.List.{get_or_default}
use Rattle.std.proofs.lemmas.List.Folds.{list_any_at}
use Rattle.object_set.specs.declared.places.SectionId.{SectionId}
use Rattle.symbol_table.specs.Records.{records_refusal}
use Rattle.pcrel_rewrite.specs.declared.text_pairs.TextPair.{TextPair}
use Rattle.pcrel_rewrite.specs.Pairs.{IsPair, IsRecognised, ArePairs}
use Rattle.pcrel_rewrite.specs.TextPairs.{text_pair, tail_at, head_at}
use Rattle.pcrel_rewrite.specs.laws.Pairs.{one_pair_at, pairs_apart}
use Rattle.image_writer.proofs.Finding.{some_first, found_is}
use Rattle.image_writer.proofs.Loads.{some_tail, tail_found}

section_is : (s t : SectionId) → Some s ≡ Some t → s ≡ t
section_is s t same = cc

-- an access has one load: two pairs have no byte in common
module _ (files : List (List ℕ)) (none : records_refusal files ≡ None) where
  not_before : (section tail head other : ℕ) → IsRecognised files (text_pair section head tail) →
      IsRecognised files (text_pair section other tail) → head < other → ⊥
  not_before section tail head other p q less =
      let same : q.place ≡ p.place = section_is q.place p.place (sym q.place_is ∙ p.place_is) in
      let pair = subst (λ (s : SectionId). IsPair files s other tail) same q.is in
      let apart = pairs_apart files p.place head tail other tail none p.is pair less in
      let near = pair.words.near in
      omega (arith, apart, near.least)

  one_head : (section tail head other : ℕ) → IsRecognised files (text_pair section head tail) →
      IsRecognised files (text_pair section other tail) → head ≡ other
  one_head section tail head other p q =
      elim (cases_lt head other) [
        | inl less ↦ absurd (not_before section tail head other p q less)
        | inr most ↦ elim (cases_lt other head) [
          | inl less ↦ absurd (not_before section tail other head q p less)
          | inr least ↦ omega arith
        ]
      ]

-- the load of an access, as that of the one pair that ends there
module _ (pairs : List TextPair) (section offset : ℕ) where
  abbrev ends : TextPair → Bool
  ends p = p.section == section && p.tail == offset

  end_case : (p : TextPair) → ends p ≡ true → text_pair section p.head offset ≡ p
  end_case p is =
      let one : p.section ≡ section = grind (arith, nat_tests, is) in
      let other : p.tail ≡ offset = grind (arith, nat_tests, is) in
      ap (λ (n : ℕ). record { section = n; head = p.head; tail = offset }) (sym one)
      ∙ ap (λ (n : ℕ). record { section = p.section; head = p.head; tail = n }) (sym other)

  itself : (k : ℕ) (d : TextPair) → k < length pairs → Contains pairs (slice_index_or pairs k d)
  itself k d within = (k, within, get_or_default pairs k (slice_index_or pairs k d) d within)

  some_head : (head : ℕ) → Contains pairs (text_pair section head offset) →
      ((head other : ℕ) → Contains pairs (text_pair section head offset) → Contains pairs (text_pair section other offset) → head ≡ other) →
      head_at pairs section offset ≡ Some head
  some_head head there one =
      let passes : ends (text_pair section head offset) ≡ true = grind (arith, nat_tests) in
      some_first ends (λ p. p.head) (Contains pairs) head
      (λ p within is. one p.head head (subst (Contains pairs) (sym (end_case p is)) within) there) pairs (λ k d within. itself k d within)
      (list_any_at ends pairs there.0 (text_pair section head offset) there.1 (ap ends there.2 ∙ passes))

  head_found : (head : ℕ) → head_at pairs section offset ≡ Some head → Contains pairs (text_pair section head offset)
  head_found head found =
      let one = found_is ends (λ p. p.head) (Contains pairs) pairs head (λ k d within. itself k d within) found in
      subst (λ (n : ℕ). Contains pairs (text_pair section n offset)) one.answer_is
      (subst (Contains pairs) (sym (end_case one.one one.passes)) one.is)

module _ (files : List (List ℕ)) (none : records_refusal files ≡ None) (one other : List TextPair) (are : ArePairs files one)
    (too : ArePairs files other) where
  -- what is in one list is in the other
  over : (p : TextPair) → Contains one p → Contains other p
  over p there = too.all p (are.each p there)

  back : (p : TextPair) → Contains other p → Contains one p
  back p there = are.all p (too.each p there)

  tail_case : (section offset : ℕ) (o p : Option ℕ) → tail_at one section offset ≡ o → tail_at other section offset ≡ p → o ≡ p
  tail_case section offset None None here there = refl
  tail_case section offset (Some tail) p here there =
      sym (some_tail other section offset tail (over (text_pair section offset tail) (tail_found one section offset tail here))
      (λ t u a b. one_pair_at files section offset t u (too.each (text_pair section offset t) a) (too.each (text_pair section offset u) b)))
      ∙ there
  tail_case section offset None (Some tail) here there =
      sym here ∙ some_tail one section offset tail (back (text_pair section offset tail) (tail_found other section offset tail there))
      (λ t u a b. one_pair_at files section offset t u (are.each (text_pair section offset t) a) (are.each (text_pair section offset u) b))

  pub same_tail : (section offset : ℕ) → tail_at one section offset ≡ tail_at other section offset
  same_tail section offset = tail_case section offset (tail_at one section offset) (tail_at other section offset) refl refl

  head_case : (section offset : ℕ) (o p : Option ℕ) → head_at one section offset ≡ o → head_at other section offset ≡ p → o ≡ p
  head_case section offset None None here there = refl
  head_case section offset (Some head) p here there =
      sym (some_head other section offset head (over (text_pair section head offset) (head_found one section offset head here))
      (λ h g a b. one_head files none section offset h g (too.each (text_pair section h offset) a) (too.each (text_pair section g offset) b)))
      ∙ there
  head_case section offset None (Some head) here there =
      sym here ∙ some_head one section offset head (back (text_pair section head offset) (head_found other section offset head there))
      (λ h g a b. one_head files none section offset h g (are.each (text_pair section h offset) a) (are.each (text_pair section g offset) b))

  pub same_head : (section offset : ℕ) → head_at one section offset ≡ head_at other section offset
  same_head section offset = head_case section offset (head_at one section offset) (head_at other section offset) refl refl
