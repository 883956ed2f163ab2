-- Keys by what sorts them, and the number of a key as keys come.
use Rattle.std.proofs.Common.{ℕ, ◌≡◌, ◌<◌, ◌≤◌, ◌+◌, ◌⊎◌, inl, inr, Bool, true, false, cond, not, ◌&&◌, ◌||◌, ◌==◌, nat_lt, List, [], ◌∷◌}
use Rattle.std.proofs.Common.{◌++◌, length, Option, Some, None, is_some, position, ap, sym, ◌∙◌, refl, arith, rules, if◌then◌else◌}
use Rattle.std.specs.List.{list_any, position_or_len}
use Rattle.std.specs.Ordering.{nat_cmp, ordering_then, is_eq}
use Rattle.std.specs.declared.cmp.Ordering.{Ordering}
use Rattle.std.specs.declared.cmp.Ordering.TheVariants.{Equal}
use Rattle.std.specs.BTreeMap.{BTreeMap, get, is_at}
use Rattle.std.specs.Cmp.{tied_itself}
use Rattle.std.proofs.lemmas.Cmp.{nat_cmp_total}
use Rattle.std.proofs.lemmas.Map.Lookups.{CmpEqualImpliesEq, exact_pairs, exact_unsigned}
use Rattle.std.proofs.lemmas.Bool.{false≢true}
use Rattle.std.proofs.lemmas.Bool.Decides.{nat_tests}
use Rattle.std.proofs.lemmas.Grind.{common_steps}
use Rattle.std.proofs.lemmas.List.Sums.{prefix_len-le-length}
use Rattle.stub_kinds.specs.declared.class.Class.{Class}
use Rattle.stub_kinds.specs.declared.class.Class.TheVariants.{Same, Switch, Save, NearN, EntrySave, EntryBare, EntryN}
use Rattle.stub_kinds.specs.declared.class.Key.{Key}
use Rattle.layout_rounds.specs.Shapes.{same_class, same_key, with_key}
use Rattle.layout_rounds.specs.inside.Seen.{rank_of, sorted_of, pair_cmp, sorted_cmp, AreNumbered}
use Rattle.layout_rounds.proofs.Pushed.{pushed_length}

pub known : (b : Bool) → (b ≡ true) ⊎ (b ≡ false)
known true = inl refl
known false = inr refl

-- two classes of one rank are the same
pub class_by_rank : (a b : Class) → same_class a b ≡ (rank_of a == rank_of b)
class_by_rank Same Same = refl
class_by_rank Same Switch = refl
class_by_rank Same Save = refl
class_by_rank Same NearN = refl
class_by_rank Same EntrySave = refl
class_by_rank Same EntryBare = refl
class_by_rank Same EntryN = refl
class_by_rank Switch Same = refl
class_by_rank Switch Switch = refl
class_by_rank Switch Save = refl
class_by_rank Switch NearN = refl
class_by_rank Switch EntrySave = refl
class_by_rank Switch EntryBare = refl
class_by_rank Switch EntryN = refl
class_by_rank Save Same = refl
class_by_rank Save Switch = refl
class_by_rank Save Save = refl
class_by_rank Save NearN = refl
class_by_rank Save EntrySave = refl
class_by_rank Save EntryBare = refl
class_by_rank Save EntryN = refl
class_by_rank NearN Same = refl
class_by_rank NearN Switch = refl
class_by_rank NearN Save = refl
class_by_rank NearN NearN = refl
class_by_rank NearN EntrySave = refl
class_by_rank NearN EntryBare = refl
class_by_rank NearN EntryN = refl
class_by_rank EntrySave Same = refl
class_by_rank EntrySave Switch = refl
class_by_rank EntrySave Save = refl
class_by_rank EntrySave NearN = refl
class_by_rank EntrySave EntrySave = refl
class_by_rank EntrySave EntryBare = refl
class_by_rank EntrySave EntryN = refl
class_by_rank EntryBare Same = refl
class_by_rank EntryBare Switch = refl
class_by_rank EntryBare Save = refl
class_by_rank EntryBare NearN = refl
class_by_rank EntryBare EntrySave = refl
class_by_rank EntryBare EntryBare = refl
class_by_rank EntryBare EntryN = refl
class_by_rank EntryN Same = refl
class_by_rank EntryN Switch = refl
class_by_rank EntryN Save = refl
class_by_rank EntryN NearN = refl
class_by_rank EntryN EntrySave = refl
class_by_rank EntryN EntryBare = refl
class_by_rank EntryN EntryN = refl

-- ---- what sorts two keys is one where they are the same

abbrev sorted : ℕ → ℕ → ℕ → ℕ → (ℕ × ℕ) × (ℕ × ℕ)
sorted a b c d = ((a, b), (c, d))

pairs_are : (a b c d e f g h : ℕ) → a ≡ e → b ≡ f → c ≡ g → d ≡ h → sorted a b c d ≡ sorted e f g h
pairs_are a b c d e f g h p q r s = cc

all_of : (a b c d : Bool) → a && b && c && d ≡ true → (a ≡ true) × (b ≡ true) × (c ≡ true) × (d ≡ true)
all_of true true true true h = (refl, refl, refl, refl)
all_of true true true false h = absurd (false≢true h)
all_of true true false d h = absurd (false≢true h)
all_of true false c d h = absurd (false≢true h)
all_of false b c d h = absurd (false≢true h)

all_from : (a b c d : Bool) → a ≡ true → b ≡ true → c ≡ true → d ≡ true → a && b && c && d ≡ true
all_from a b c d p q r s = cc

equal : (a b : ℕ) → a == b ≡ true → a ≡ b
equal a b h = grind (arith, nat_tests)

equal_from : (a b : ℕ) → a ≡ b → a == b ≡ true
equal_from a b h = grind (arith, nat_tests)

pub sorted_from_same : (a b : Key) → same_key a b ≡ true → sorted_of a ≡ sorted_of b
sorted_from_same a b h =
    let parts = all_of (a.group == b.group) (same_class a.class b.class) (a.section == b.section)
    (a.offset == b.offset) h in
    pairs_are a.group (rank_of a.class) a.section a.offset b.group (rank_of b.class) b.section b.offset
    (equal a.group b.group parts.0)
    (equal (rank_of a.class) (rank_of b.class) (sym (class_by_rank a.class b.class) ∙ parts.1))
    (equal a.section b.section parts.2)
    (equal a.offset b.offset parts.3)

pub same_from_sorted : (a b : Key) → sorted_of a ≡ sorted_of b → same_key a b ≡ true
same_from_sorted a b h =
    all_from (a.group == b.group) (same_class a.class b.class) (a.section == b.section) (a.offset == b.offset)
    (equal_from a.group b.group (ap (λ (x : (ℕ × ℕ) × (ℕ × ℕ)). x.0.0) h))
    (class_by_rank a.class b.class ∙
    equal_from (rank_of a.class) (rank_of b.class) (ap (λ (x : (ℕ × ℕ) × (ℕ × ℕ)). x.0.1) h))
    (equal_from a.section b.section (ap (λ (x : (ℕ × ℕ) × (ℕ × ℕ)). x.1.0) h))
    (equal_from a.offset b.offset (ap (λ (x : (ℕ × ℕ) × (ℕ × ℕ)). x.1.1) h))

pub same_itself : (a : Key) → same_key a a ≡ true
same_itself a = same_from_sorted a a refl

exact_sorted : CmpEqualImpliesEq sorted_cmp
exact_sorted = exact_pairs pair_cmp pair_cmp (exact_pairs nat_cmp nat_cmp exact_unsigned exact_unsigned)
    (exact_pairs nat_cmp nat_cmp exact_unsigned exact_unsigned)

pair_itself : (p : ℕ × ℕ) → pair_cmp p p ≡ Equal
pair_itself p = ap (λ (o : Ordering). ordering_then o (nat_cmp p.1 p.1)) (tied_itself nat_cmp_total p.0) ∙
    tied_itself nat_cmp_total p.1

sorted_itself : (x : (ℕ × ℕ) × (ℕ × ℕ)) → sorted_cmp x x ≡ Equal
sorted_itself x = ap (λ (o : Ordering). ordering_then o (pair_cmp x.1 x.1)) (pair_itself x.0) ∙ pair_itself x.1

equal_only : (o : Ordering) → is_eq o ≡ true → o ≡ Equal
equal_only o h = search (rules, common_steps)

pub finds_same : (a b : Key) → same_key b a ≡ true → is_at (sorted_cmp (sorted_of a)) (sorted_of b) ≡ true
finds_same a b h = ap (λ (x : (ℕ × ℕ) × (ℕ × ℕ)). is_eq (sorted_cmp (sorted_of a) x)) (sorted_from_same b a h) ∙
    ap is_eq (sorted_itself (sorted_of a))

pub finds_no_other : (a b : Key) → same_key b a ≡ false → is_at (sorted_cmp (sorted_of a)) (sorted_of b) ≡ false
finds_no_other a b h = elim (known (is_at (sorted_cmp (sorted_of a)) (sorted_of b))) [
  | inl found ↦ absurd (false≢true
      (sym h ∙ same_from_sorted b a
      (sym (exact_sorted (sorted_of a) (sorted_of b) (equal_only (sorted_cmp (sorted_of a) (sorted_of b)) found)))))
  | inr out ↦ out
]

-- ---- the first key that passes, as keys come

below : (a b : ℕ) → (a < b) ⊎ (b ≤ a)
below a b = grind arith

module _ (p : Key → Bool) where
  first_more : (b : Bool) (x : Key) (xs : List Key) →
      p x ≡ b →
      position_or_len p (x ∷ xs) ≡ cond (not b) (1 + position_or_len p xs) 0
  first_more b x xs h = ap (λ (c : Bool). cond (not c) (1 + position_or_len p xs) 0) h

  pub first_most : (xs : List Key) → position_or_len p xs ≤ length xs
  first_most xs = prefix_len-le-length (λ x. not (p x)) xs

  -- one that was found stays where it is
  pub first_kept : (xs : List Key) (y : Key) →
      position_or_len p xs < length xs →
      position_or_len p (xs ++ y ∷ []) ≡ position_or_len p xs
  first_kept [] y lt = absurd (omega (arith, lt))
  first_kept (x ∷ xs) y lt = elim (known (p x)) [
    | inl here ↦ first_more true x (xs ++ y ∷ []) here ∙ sym (first_more true x xs here)
    | inr out ↦
        let now = first_more false x (xs ++ y ∷ []) out in
        let was = first_more false x xs out in
        let rest = first_kept xs y (omega (arith, was, lt)) in
        omega (arith, now, was, rest)
  ]

  -- and where none was found, the first of those behind is
  first_behind : (xs ys : List Key) →
      position_or_len p xs ≡ length xs →
      position_or_len p (xs ++ ys) ≡ length xs + position_or_len p ys
  first_behind [] ys none = omega arith
  first_behind (x ∷ xs) ys none = elim (known (p x)) [
    | inl found ↦ absurd (let was = first_more true x xs found in omega (arith, was, none))
    | inr out ↦
        let now = first_more false x (xs ++ ys) out in
        let was = first_more false x xs out in
        let rest = first_behind xs ys (omega (arith, was, none)) in
        omega (arith, now, rest)
  ]

  -- so a new one is last, if it passes
  pub first_new : (xs : List Key) (y : Key) →
      position_or_len p xs ≡ length xs →
      p y ≡ true →
      position_or_len p (xs ++ y ∷ []) ≡ length xs
  first_new xs y none here = omega (arith, first_behind xs (y ∷ []) none, first_more true y [] here)

  first_none : (xs : List Key) (y : Key) →
      position_or_len p xs ≡ length xs →
      p y ≡ false →
      position_or_len p (xs ++ y ∷ []) ≡ length xs + 1
  first_none xs y none here = omega (arith, first_behind xs (y ∷ []) none, first_more false y [] here)

  any_none : (xs : List Key) → position_or_len p xs ≡ length xs → list_any p xs ≡ false
  any_none [] none = refl
  any_none (x ∷ xs) none = elim (known (p x)) [
    | inl found ↦ absurd (let was = first_more true x xs found in omega (arith, was, none))
    | inr out ↦
        let was = first_more false x xs out in
        ap (λ (b : Bool). b || list_any p xs) out ∙ any_none xs (omega (arith, was, none))
  ]

  any_some : (xs : List Key) → position_or_len p xs < length xs → list_any p xs ≡ true
  any_some [] lt = absurd (omega (arith, lt))
  any_some (x ∷ xs) lt = elim (known (p x)) [
    | inl found ↦ ap (λ (b : Bool). b || list_any p xs) found
    | inr out ↦
        let was = first_more false x xs out in
        ap (λ (b : Bool). b || list_any p xs) out ∙ any_some xs (omega (arith, was, lt))
  ]

  found_is : (xs : List Key) → position_or_len p xs < length xs → position p xs ≡ Some (position_or_len p xs)
  found_is xs lt =
      let test : nat_lt (position_or_len p xs) (length xs) ≡ true = grind (arith, nat_tests, lt) in
      ap (λ (b : Bool). cond b (Some (position_or_len p xs)) None) test

  none_is : (xs : List Key) → length xs ≤ position_or_len p xs → position p xs ≡ None
  none_is xs le =
      let test : nat_lt (position_or_len p xs) (length xs) ≡ false = grind (arith, nat_tests, le) in
      ap (λ (b : Bool). cond b (Some (position_or_len p xs)) None) test

  pub none_first : (xs : List Key) → position p xs ≡ None → position_or_len p xs ≡ length xs
  none_first xs none = elim (below (position_or_len p xs) (length xs)) [
    | inl lt ↦ absurd (false≢true (ap is_some (sym none ∙ found_is xs lt)))
    | inr le ↦ omega (arith, le, first_most xs)
  ]

  pub some_first : (xs : List Key) (i : ℕ) →
      position p xs ≡ Some i →
      (i ≡ position_or_len p xs) × (position_or_len p xs < length xs)
  some_first xs i some = elim (below (position_or_len p xs) (length xs)) [
    | inl lt ↦ (search (rules, common_steps, sym some ∙ found_is xs lt), lt)
    | inr le ↦ absurd (false≢true (ap is_some (sym (none_is xs le) ∙ some)))
  ]

  pushed_here : (xs : List Key) (y : Key) →
      position p xs ≡ None →
      p y ≡ true →
      position p (xs ++ y ∷ []) ≡ Some (length xs)
  pushed_here xs y none here =
      let at = first_new xs y (none_first xs none) here in
      found_is (xs ++ y ∷ []) (omega (arith, at, pushed_length xs y)) ∙ ap Some at

  pushed_other : (xs : List Key) (y : Key) → p y ≡ false → position p (xs ++ y ∷ []) ≡ position p xs
  pushed_other xs y other = elim (below (position_or_len p xs) (length xs)) [
    | inl lt ↦
        let at = first_kept xs y lt in
        found_is (xs ++ y ∷ []) (omega (arith, at, lt, pushed_length xs y)) ∙ ap Some at ∙ sym (found_is xs lt)
    | inr le ↦
        let at = first_none xs y (omega (arith, le, first_most xs)) other in
        none_is (xs ++ y ∷ []) (omega (arith, at, pushed_length xs y)) ∙ sym (none_is xs le)
  ]

-- ---- a map's answers

-- a key that the map has is among the keys
pub with_old : (keys : List Key) (key : Key) →
    position_or_len (same_key key) keys < length keys →
    with_key keys key ≡ keys
with_old keys key lt = ap (λ (b : Bool). if b then keys else keys ++ key ∷ []) (any_some (same_key key) keys lt)

pub with_new : (keys : List Key) (key : Key) →
    position_or_len (same_key key) keys ≡ length keys →
    with_key keys key ≡ keys ++ key ∷ []
with_new keys key none = ap (λ (b : Bool). if b then keys else keys ++ key ∷ []) (any_none (same_key key) keys none)

sorted_is : (key : Key) (r : ℕ) → r ≡ rank_of key.class → sorted key.group r key.section key.offset ≡ sorted_of key
sorted_is key r h = ap (λ (x : ℕ). sorted key.group x key.section key.offset) h

-- what the map has for a key is where it stands
pub looked_up : (keys : List Key) (numbers : BTreeMap ((ℕ × ℕ) × (ℕ × ℕ)) ℕ) (key : Key) (r : ℕ) (found : Option ℕ) →
    AreNumbered keys numbers →
    r ≡ rank_of key.class →
    found ≡ get sorted_cmp numbers ((key.group, r), (key.section, key.offset)) →
    position (same_key key) keys ≡ found
looked_up keys numbers key r found are ranked h =
    sym (are key) ∙ ap (λ (x : (ℕ × ℕ) × (ℕ × ℕ)). get sorted_cmp numbers x) (sym (sorted_is key r ranked)) ∙ sym h

-- a new key is numbered
pub numbered_more : (keys : List Key) (old new : BTreeMap ((ℕ × ℕ) × (ℕ × ℕ)) ℕ) (key : Key) (r n : ℕ) →
    AreNumbered keys old →
    r ≡ rank_of key.class →
    ((q : (ℕ × ℕ) × (ℕ × ℕ)) →
    get sorted_cmp new q ≡ cond (is_at (sorted_cmp ((key.group, r), (key.section, key.offset))) q) (Some n)
    (get sorted_cmp old q)) →
    position (same_key key) keys ≡ None →
    n ≡ length keys →
    AreNumbered (keys ++ key ∷ []) new
numbered_more keys old new key r n are ranked updates none long q =
    let at = sorted_is key r ranked in
    let now : get sorted_cmp new (sorted_of q) ≡ cond (is_at (sorted_cmp (sorted_of key)) (sorted_of q)) (Some n)
    (get sorted_cmp old (sorted_of q)) =
    updates (sorted_of q) ∙ ap
    (λ (x : (ℕ × ℕ) × (ℕ × ℕ)). cond (is_at (sorted_cmp x) (sorted_of q)) (Some n)
    (get sorted_cmp old (sorted_of q))) at in
    elim (known (same_key q key)) [
      | inl same ↦
          let gone : position (same_key q) keys ≡ None =
          sym (are q) ∙ ap (λ (x : (ℕ × ℕ) × (ℕ × ℕ)). get sorted_cmp old x) (sorted_from_same q key same) ∙
          are key ∙ none in
          now
          ∙ ap (λ (b : Bool). cond b (Some n) (get sorted_cmp old (sorted_of q))) (finds_same key q same)
          ∙ ap Some long
          ∙ sym (pushed_here (same_key q) keys key gone same)
      | inr other ↦
          now
          ∙ ap (λ (b : Bool). cond b (Some n) (get sorted_cmp old (sorted_of q))) (finds_no_other key q other)
          ∙ are q
          ∙ sym (pushed_other (same_key q) keys key other)
    ]
