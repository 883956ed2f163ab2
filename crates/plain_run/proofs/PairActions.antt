-- Prefixed instructions at places, and the slots and pairs that they load from.
use Rattle.std.proofs.Common.{◌≡◌, ℕ, zero, suc, Bool, true, false, not, ◌&&◌, eqb, List, [], ◌∷◌, length, Option, None, Some, slice_get, sym, ap, ◌∙◌, subst, refl, arith, if◌then◌else◌}
use Rattle.std.specs.Prelude.{◌==◌, IfSome, IfNone}
use Rattle.std.specs.List.{Contains}
use Rattle.std.proofs.lemmas.Bool.{and_parts}
use Rattle.std.proofs.lemmas.Bool.Decides.{nat_tests}
use Rattle.std.proofs.lemmas.Option.{slice_get-get_or}
use Rattle.elf64_records.specs.First.{◌orelse◌, when}
use Rattle.object_set.specs.declared.places.RecordId.{RecordId}
use Rattle.pcrel_rewrite.specs.declared.text_pairs.TextPair.{TextPair}
use Rattle.pcrel_rewrite.specs.TextPairs.{tail_at, text_pair}
use Rattle.power_machine.specs.declared.code.Code.TheVariants as code
use Rattle.power_machine.specs.declared.reason.Reason.TheVariants as why
use Rattle.power_machine.specs.Codes.{IsTwoWords}
use Rattle.prefixed_insns.specs.declared.instruction.PInsn.{PInsn}
use Rattle.toc_groups.specs.Plans.{LaidData}
use Rattle.toc_rewrite.specs.Words.{target_register}
use Rattle.plain_machine.specs.declared.action.Action.{Action}
use Rattle.plain_machine.specs.declared.action.Effect.TheVariants as effect
use Rattle.plain_machine.specs.declared.place.TextPlace.{TextPlace}
use Rattle.plain_machine.specs.declared.value.PlainValue.{PlainValue}
use Rattle.plain_machine.specs.declared.value.PlainValue.TheVariants.{Pair}
use Rattle.plain_machine.specs.Plain.{place_ahead}
use Rattle.plain_run.specs.Effects.{does, leaves}
use Rattle.plain_run.specs.Places.{may_cross, has_second, IsPairCode, record_goal, slot_value, slot_action}
use Rattle.plain_run.specs.Standing.{word_at, is_word, fields_at}
use Rattle.plain_run.proofs.PairMarks.{get_held}

module _ (files : List (List ℕ)) (plan : LaidData) (p : TextPlace) where
  -- the second word is there, and no boundary lies between
  pub whole_pair : (next : TextPlace) (free cross : Bool) → next ≡ place_ahead p 4 →
      free ≡ (is_word files next && length (fields_at files next) == 0) → free ≡ true → cross ≡ may_cross files plan p → cross ≡ false →
      (has_second files plan p && not (may_cross files plan p)) ≡ true
  whole_pair next free cross ahead is some over none =
      let second : has_second files plan p ≡ true =
      ap (λ (q : TextPlace). is_word files q && length (fields_at files q) == 0) (sym ahead) ∙ sym is ∙ some in
      ap (λ (b : Bool). b && not (may_cross files plan p)) second ∙ ap not (sym over ∙ none)

  pub not_crossed : (cross : Bool) → cross ≡ may_cross files plan p → cross ≡ false → not (may_cross files plan p) ≡ true
  not_crossed cross over none = ap not (sym over ∙ none)

  -- where a boundary may lie between, no prefixed instruction stands
  pub crossed : (cross : Bool) → cross ≡ may_cross files plan p → cross ≡ true →
      IsPairCode files plan (not (may_cross files plan p)) p code.Unknown
  crossed cross over some = λ insn whole two.
      let none : not (may_cross files plan p) ≡ false = ap not (sym over ∙ some) in
      cc

  pub two_words : (next : TextPlace) (prefix suffix : ℕ) (insn : PInsn) → next ≡ place_ahead p 4 → prefix ≡ word_at files p →
      suffix ≡ word_at files next → IsTwoWords prefix suffix insn → IsTwoWords (word_at files p) (word_at files (place_ahead p 4)) insn
  two_words next prefix suffix insn ahead first second is =
      (is.0, is.1 ∙ first, is.2 ∙ second ∙ ap (word_at files) ahead)

  pub no_words : (whole : Bool) (next : TextPlace) (prefix suffix : ℕ) → next ≡ place_ahead p 4 → prefix ≡ word_at files p →
      suffix ≡ word_at files next → ((insn : PInsn) → IsTwoWords prefix suffix insn → ⊥) → IsPairCode files plan whole p code.Unknown
  no_words whole next prefix suffix ahead first second none = λ insn is two.
      none insn (two.0, two.1 ∙ sym first, two.2 ∙ sym (second ∙ ap (word_at files) ahead))

-- ---- the pair whose load stands at an offset of a section

module _ (section offset : ℕ) where
  abbrev heads : TextPair → Bool
  heads q = eqb q.section section && eqb q.head offset

  head_case : (q : TextPair) → heads q ≡ true → text_pair section offset q.tail ≡ q
  head_case q is =
      let both = and_parts (eqb q.section section) (eqb q.head offset) is in
      let first = both.0 in
      let second = both.1 in
      let one : section ≡ q.section = grind (arith, nat_tests, first) in
      let other : offset ≡ q.head = grind (arith, nat_tests, second) in
      ap (λ (n : ℕ). record { section = n; head = offset; tail = q.tail }) one
      ∙ ap (λ (n : ℕ). record { section = q.section; head = n; tail = q.tail }) other

  no_tail_case : (q : TextPair) (qs : List TextPair) (t : Bool) → heads q ≡ t → ((tail : ℕ) → text_pair section offset tail ≡ q → ⊥) →
      tail_at qs section offset ≡ None → (when t q.tail orelse tail_at qs section offset) ≡ None
  no_tail_case q qs true is never rest = absurd (never q.tail (head_case q is))
  no_tail_case q qs false is never rest = rest

  none_at : (pairs : List TextPair) → ((k tail : ℕ) → slice_get pairs k ≡ Some (text_pair section offset tail) → ⊥) →
      tail_at pairs section offset ≡ None
  none_at [] never = refl
  none_at (q ∷ qs) never =
      no_tail_case q qs (heads q) refl (λ tail same. never 0 tail (ap (λ (r : TextPair). Some r) (sym same)))
      (none_at qs (λ k tail found. never (suc k) tail found))

  tail_case : (q : TextPair) (qs : List TextPair) (t : Bool) → heads q ≡ t →
      (heads q ≡ false → (n : ℕ) × (tail_at qs section offset ≡ Some n)) →
      (n : ℕ) × ((when t q.tail orelse tail_at qs section offset) ≡ Some n)
  tail_case q qs true is rest = (q.tail, refl)
  tail_case q qs false is rest = rest is

  some_at : (pairs : List TextPair) (k tail : ℕ) → slice_get pairs k ≡ Some (text_pair section offset tail) →
      (n : ℕ) × (tail_at pairs section offset ≡ Some n)
  some_at [] k tail found = cc
  some_at (q ∷ qs) zero tail found =
      let same : q ≡ text_pair section offset tail = cc in
      let passes : heads (text_pair section offset tail) ≡ true = grind (arith, nat_tests) in
      tail_case q qs (heads q) refl (λ other. let here = ap heads same ∙ passes in cc)
  some_at (q ∷ qs) (suc k) tail found = tail_case q qs (heads q) refl (λ other. some_at qs k tail found)

-- ---- what a prefixed load from a slot gives

held_get : (pairs : List TextPair) (pair : TextPair) → Contains pairs pair → (k : ℕ) × (slice_get pairs k ≡ Some pair)
held_get pairs pair held =
    (held.0, slice_get-get_or pairs held.0 pair held.1 ∙ ap (λ (q : TextPair). Some q) held.2)

module _ (files : List (List ℕ)) (plan : LaidData) (pairs : List TextPair) (p : TextPlace) (r : RecordId) where
  pub pair_value : (o : Option ℕ) (tail : ℕ) → o ≡ Some tail → IfSome o (λ n. Contains pairs (text_pair p.section p.offset n)) →
      Pair p ≡ slot_value files plan p r (tail_at pairs p.section p.offset)
  pair_value o tail is some =
      let held = held_get pairs (text_pair p.section p.offset tail)
      (subst (λ (q : Option ℕ). IfSome q (λ n. Contains pairs (text_pair p.section p.offset n))) is some) in
      let found = some_at p.section p.offset pairs held.0 tail held.1 in
      sym (ap (slot_value files plan p r) found.1)

  pub own_value : (o : Option ℕ) → o ≡ None → IfNone o ((n : ℕ) → ¬ Contains pairs (text_pair p.section p.offset n)) →
      record_goal files plan r ≡ slot_value files plan p r (tail_at pairs p.section p.offset)
  own_value o is none =
      let never : (n : ℕ) → ¬ Contains pairs (text_pair p.section p.offset n) =
      subst (λ (q : Option ℕ). IfNone q ((n : ℕ) → ¬ Contains pairs (text_pair p.section p.offset n))) is none in
      sym (ap (slot_value files plan p r)
      (none_at p.section p.offset pairs (λ k tail found. never tail (get_held pairs k (text_pair p.section p.offset tail) found))))

  pub slot_made : (next : TextPlace) (cross : Bool) (word to : ℕ) (v : PlainValue) (a : Action) → next ≡ place_ahead p 4 →
      cross ≡ may_cross files plan p → cross ≡ false → word ≡ word_at files next → to ≡ target_register word →
      v ≡ slot_value files plan p r (tail_at pairs p.section p.offset) → a ≡ does (effect.Give 8 to v) →
      a ≡ slot_action files plan pairs p r
  slot_made next cross word to v a ahead over none read register value is =
      let target = target_register (word_at files (place_ahead p 4)) in
      is
      ∙ ap (λ (n : ℕ). does (effect.Give 8 n v)) (register ∙ ap target_register (read ∙ ap (word_at files) ahead))
      ∙ ap (λ (x : PlainValue). does (effect.Give 8 target x)) value
      ∙ sym (ap (λ (t : Bool). if t then leaves why.Word
      else does (effect.Give 8 target (slot_value files plan p r (tail_at pairs p.section p.offset)))) (sym over ∙ none))
