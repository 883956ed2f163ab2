-- Names, each of which stands once.
use Rattle.std.proofs.Common.{◌≡◌, ◌≢◌, ℕ, ◌<◌, zero, suc, length-append, if◌then◌else◌, Bool, true, false, List, [], ◌∷◌, ◌++◌, ◌||◌}
use Rattle.std.proofs.Common.{length, Some, slice_get, slice_set, map, sym, ap, ◌∙◌, refl, arith}
use Rattle.std.specs.List.{list_any, position_or_len}
use Rattle.std.proofs.Common.{cond, not, ◌+◌}
use Rattle.std.specs.Str.{bytes_eq}
use Rattle.std.proofs.lemmas.Slice.Eq.{bytes_eq-Decides}
use Rattle.std.proofs.lemmas.Option.{slice_get_within}
use Rattle.symbol_table.specs.Externals.{with_name}

-- each name stands once
pub data IsOnce : List (List ℕ) → Type 0 where
  Empty : IsOnce []
  More : (name : List ℕ) (names : List (List ℕ)) → list_any (bytes_eq name) names ≡ false → IsOnce names → IsOnce (name ∷ names)

pub same_bytes : (a b : List ℕ) → bytes_eq a b ≡ true → a ≡ b
same_bytes a b same = (bytes_eq-Decides a b).0 same

pub bytes_same : (a : List ℕ) → bytes_eq a a ≡ true
bytes_same a = (bytes_eq-Decides a a).1 refl

-- a name that stands among others is one of them
pub here : (name : List ℕ) (names : List (List ℕ)) (k : ℕ) → slice_get names k ≡ Some name → list_any (bytes_eq name) names ≡ true
here name [] k found = cc
here name (x ∷ names) zero found =
    let same : x ≡ name = cc in
    let yes_it_is : bytes_eq name x ≡ true = ap (λ n. bytes_eq name n) same ∙ bytes_same name in
    ap (λ b. b || list_any (bytes_eq name) names) yes_it_is
here name (x ∷ names) (suc k) found =
    let later = here name names k found in
    elim (bytes_eq name x) as (λ b. (b || list_any (bytes_eq name) names) ≡ true) [ true ↦ refl | false ↦ later ]

pub get_left : {X : Type 0} (xs ys : List X) (k : ℕ) → k < length xs → slice_get (xs ++ ys) k ≡ slice_get xs k
get_left [] ys k within = absurd (omega arith)
get_left (x ∷ xs) ys zero within = refl
get_left (x ∷ xs) ys (suc k) within = get_left xs ys k (omega arith)

-- a name that is found elsewhere than behind the names is one of them
found_old : (name : List ℕ) (names : List (List ℕ)) (k : ℕ) → k ≢ length names → (b : Bool) → list_any (bytes_eq name) names ≡ b →
    slice_get (if b then names else names ++ name ∷ []) k ≡ Some name → list_any (bytes_eq name) names ≡ true
found_old name names k other true any found = any
found_old name names k other false any found =
    let within : k < length (names ++ name ∷ []) = slice_get_within (names ++ name ∷ []) k name found in
    let left : k < length names = omega (arith, simp length-append at within) in
    here name names k (sym (get_left names (name ∷ []) k left) ∙ found)

pub old_name : (name : List ℕ) (names : List (List ℕ)) (k : ℕ) → k ≢ length names → slice_get (with_name names name) k ≡ Some name →
    list_any (bytes_eq name) names ≡ true
old_name name names k other found = found_old name names k other (list_any (bytes_eq name) names) refl found

pub or_false : (p q : Bool) → (p || q) ≡ false → (p ≡ false) × (q ≡ false)
or_false true q none = cc
or_false false q none = (refl, none)

flip_case : (a b : List ℕ) (t : Bool) → bytes_eq b a ≡ t → bytes_eq a b ≡ false → bytes_eq b a ≡ false
flip_case a b false is none = is
flip_case a b true is none =
    let same : b ≡ a = same_bytes b a is in
    let other : bytes_eq a b ≡ true = ap (bytes_eq a) same ∙ bytes_same a in
    cc

flip : (a b : List ℕ) → bytes_eq a b ≡ false → bytes_eq b a ≡ false
flip a b none = flip_case a b (bytes_eq b a) refl none

any_append : (p : List ℕ → Bool) (xs ys : List (List ℕ)) → list_any p xs ≡ false → list_any p ys ≡ false → list_any p (xs ++ ys) ≡ false
any_append p [] ys left right = right
any_append p (x ∷ xs) ys left right =
    let both = or_false (p x) (list_any p xs) left in
    let rest = any_append p xs ys both.1 right in
    ap (λ b. b || list_any p (xs ++ ys)) both.0 ∙ rest

-- one name more, each still once
once_more : (name : List ℕ) (names : List (List ℕ)) → list_any (bytes_eq name) names ≡ false → IsOnce names → IsOnce (names ++ name ∷ [])
once_more name [] new once = More name [] refl Empty
once_more name (x ∷ names) new (More _ _ lone once) =
    let both = or_false (bytes_eq name x) (list_any (bytes_eq name) names) new in
    let last : list_any (bytes_eq x) (name ∷ []) ≡ false = ap (λ b. b || false) (flip name x both.0) in
    More x (names ++ name ∷ []) (any_append (bytes_eq x) names (name ∷ []) lone last) (once_more name names both.1 once)

once_case : (names : List (List ℕ)) (name : List ℕ) (b : Bool) → list_any (bytes_eq name) names ≡ b → IsOnce names →
    IsOnce (if b then names else names ++ name ∷ [])
once_case names name true is once = once
once_case names name false is once = once_more name names is once

pub once_with_name : (names : List (List ℕ)) (name : List ℕ) → IsOnce names → IsOnce (with_name names name)
once_with_name names name once = once_case names name (list_any (bytes_eq name) names) refl once

absent_case : (x name : List ℕ) (names : List (List ℕ)) (k : ℕ) (t : Bool) → bytes_eq x name ≡ t → list_any (bytes_eq x) names ≡ false →
    slice_get names k ≡ Some name → bytes_eq x name ≡ false
absent_case x name names k false is none found = is
absent_case x name names k true is none found =
    let same : x ≡ name = same_bytes x name is in
    let there : slice_get names k ≡ Some x = found ∙ ap Some (sym same) in
    let some = here x names k there in
    cc

-- a name that doesn't stand among others is none of them
pub absent : (x name : List ℕ) (names : List (List ℕ)) (k : ℕ) → list_any (bytes_eq x) names ≡ false → slice_get names k ≡ Some name →
    bytes_eq x name ≡ false
absent x name names k none found = absent_case x name names k (bytes_eq x name) refl none found

module _ {X : Type 0} (f g : List ℕ → X) (name : List ℕ) (same : (other : List ℕ) → bytes_eq other name ≡ false → g other ≡ f other) where
  same_map : (names : List (List ℕ)) → list_any (bytes_eq name) names ≡ false → map g names ≡ map f names
  same_map [] none = refl
  same_map (x ∷ names) none =
      let both = or_false (bytes_eq name x) (list_any (bytes_eq name) names) none in
      let first = same x (flip name x both.0) in
      let rest = same_map names both.1 in
      cc

  -- where one name's value changes
  pub changed : (names : List (List ℕ)) (k : ℕ) → IsOnce names → slice_get names k ≡ Some name →
      map g names ≡ slice_set (map f names) k (g name)
  changed [] k once found = cc
  changed (x ∷ names) zero (More _ _ lone once) found =
      let this : x ≡ name = cc in
      let none : list_any (bytes_eq name) names ≡ false = ap (λ (n : List ℕ). list_any (bytes_eq n) names) (sym this) ∙ lone in
      let rest = same_map names none in
      let first : g x ≡ g name = ap g this in
      cc
  changed (x ∷ names) (suc k) (More _ _ lone once) found =
      let first = same x (absent x name names k lone found) in
      let rest = changed names k once found in
      cc

position_case : (name x : List ℕ) (names : List (List ℕ)) (k : ℕ) (b : Bool) → bytes_eq name x ≡ b → b ≡ false →
    position_or_len (bytes_eq name) names ≡ k →
    position_or_len (bytes_eq name) (x ∷ names) ≡ suc k
position_case name x names k b is none rest =
    let differs : bytes_eq name x ≡ false = is ∙ none in
    let step : position_or_len (bytes_eq name) (x ∷ names) ≡ 1 + position_or_len (bytes_eq name) names =
    ap (λ (t : Bool). cond (not t) (1 + position_or_len (bytes_eq name) names) 0) differs in
    omega (arith, step, rest)

-- where each name stands once, a name's first place is its place
pub position_once : (names : List (List ℕ)) (k : ℕ) (name : List ℕ) → IsOnce names → slice_get names k ≡ Some name →
    position_or_len (bytes_eq name) names ≡ k
position_once [] k name once found = cc
position_once (x ∷ names) zero name once found =
    let this : x ≡ name = cc in
    let same : bytes_eq name x ≡ true = ap (λ n. bytes_eq name n) this ∙ bytes_same name in
    ap (λ (t : Bool). cond (not t) (1 + position_or_len (bytes_eq name) names) 0) same
position_once (x ∷ names) (suc k) name (More _ _ lone once) found =
    position_case name x names k (bytes_eq name x) refl (flip x name (absent x name names k lone found))
    (position_once names k name once found)
