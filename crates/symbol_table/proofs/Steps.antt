-- What a symbol more changes.
use Rattle.std.proofs.Common.{◌≡◌, ℕ, suc, ◌&&◌, Bool, true, false, List, [], ◌∷◌, ◌++◌, Option, Some, slice_get, max, sym, ap, ◌∙◌, refl}
use Rattle.std.proofs.Common.{arith, if◌then◌else◌}
use Rattle.std.specs.List.{list_any}
use Rattle.std.specs.Str.{bytes_eq}
use Rattle.std.specs.Option.{option_map}
use Rattle.std.proofs.lemmas.List.Elements.{filter-append}
use Rattle.std.proofs.lemmas.List.Sums.{fold-append}
use Rattle.std.proofs.Common.{◌||◌, fold}
use Rattle.symbol_table.proofs.Distinct.{same_bytes}
use Rattle.symbol_table.proofs.Distinct.{IsOnce, Empty, once_with_name, absent, or_false}
use Rattle.symbol_table.specs.declared.role.Role.{Role}
use Rattle.symbol_table.specs.declared.role.Role.TheVariants as role
use Rattle.symbol_table.specs.declared.candidates.Candidates.{Candidates}
use Rattle.symbol_table.specs.declared.candidates.CommonSize.{CommonSize}
use Rattle.symbol_table.specs.Externals.{External, names_of, with_name}
use Rattle.symbol_table.specs.Candidates.{is_global_role, is_common_role, is_weak_role, bearing, id_of, largest, common_of, candidates_of}
use Rattle.symbol_table.specs.Candidates.{no_candidates}
use Rattle.symbol_table.specs.inside.Names.{with_candidate, larger_common}

-- what lists of global definitions, commons and weak definitions say
abbrev pub summary : List External → List External → List External → Candidates
summary g c w = record {
  global = option_map id_of (slice_get g 0);
  second = option_map (λ s. s.file) (slice_get g 1);
  common = common_of c;
  weak = option_map id_of (slice_get w 0);
}

abbrev sized : ℕ → ℕ → CommonSize
sized size align = record { size = size; align = align }

size_is : (a b c d : ℕ) → a ≡ b → c ≡ d → sized a c ≡ sized b d
size_is a b c d p q = cc

pub largest-more : (xs : List External) (s : External) →
    largest (xs ++ s ∷ []) ≡ sized (max (largest xs).size s.size) (max (largest xs).align s.value)
largest-more [] s =
    let a : max s.size 0 ≡ max 0 s.size = grind arith in
    let b : max s.value 0 ≡ max 0 s.value = grind arith in
    size_is (max s.size 0) (max 0 s.size) (max s.value 0) (max 0 s.value) a b
largest-more (x ∷ xs) s =
    let more = largest-more xs s in
    let size : max x.size (largest (xs ++ s ∷ [])).size ≡ max (max x.size (largest xs).size) s.size =
    ap (λ (p : CommonSize). max x.size p.size) more ∙ grind arith in
    let align : max x.value (largest (xs ++ s ∷ [])).align ≡ max (max x.value (largest xs).align) s.value =
    ap (λ (p : CommonSize). max x.value p.align) more ∙ grind arith in
    size_is _ _ _ _ size align

pub with_global : (g c w : List External) (s : External) → summary (g ++ s ∷ []) c w ≡ with_candidate (summary g c w) role.Global s
with_global [] c w s = refl
with_global (x ∷ []) c w s = refl
with_global (x ∷ y ∷ g) c w s = refl

pub with_weak : (g c w : List External) (s : External) → summary g c (w ++ s ∷ []) ≡ with_candidate (summary g c w) role.Weak s
with_weak g c [] s = refl
with_weak g c (x ∷ w) s = refl

common_more : (c : List External) (s : External) → common_of (c ++ s ∷ []) ≡ Some (larger_common (common_of c) s.size s.value)
common_more [] s =
    let a : max s.size 0 ≡ s.size = grind arith in
    let b : max s.value 0 ≡ s.value = grind arith in
    ap Some (size_is (max s.size 0) s.size (max s.value 0) s.value a b)
common_more (x ∷ c) s = ap Some (largest-more (x ∷ c) s)

pub with_common : (g c w : List External) (s : External) → summary g (c ++ s ∷ []) w ≡ with_candidate (summary g c w) role.Common s
with_common g c w s = ap (λ (o : Option CommonSize). let t : Candidates = record (summary g c w) { common = o } in t) (common_more c s)

pub nil_right : {X : Type 0} (xs : List X) → xs ++ [] ≡ xs
nil_right [] = refl
nil_right (x ∷ xs) = ap (λ l. x ∷ l) (nil_right xs)

three : {g g' c c' w w' : List External} → g ≡ g' → c ≡ c' → w ≡ w' → summary g c w ≡ summary g' c' w'
three p q r = cc

module _ (name : List ℕ) (xs : List External) (s : External) where
  -- one symbol more, which bears the name and does this, or doesn't
  bearing_more : (does : Role → Bool) (same : Bool) (r : Role) → bytes_eq name s.name ≡ same → s.role ≡ r →
      bearing does name (xs ++ s ∷ []) ≡ bearing does name xs ++ (if same && does r then s ∷ [] else [])
  bearing_more does same r bears plays =
      let split = filter-append (λ (t : External). bytes_eq name t.name && does t.role) xs (s ∷ []) in
      let test : (bytes_eq name s.name && does s.role) ≡ (same && does r) = cc in
      split ∙ ap (λ (b : Bool). bearing does name xs ++ (if b then s ∷ [] else [])) test

  alone : (does : Role → Bool) (same : Bool) (r : Role) → bytes_eq name s.name ≡ same → s.role ≡ r → (same && does r) ≡ false →
      bearing does name (xs ++ s ∷ []) ≡ bearing does name xs
  alone does same r bears plays passes =
      bearing_more does same r bears plays ∙ ap (λ (b : Bool). bearing does name xs ++ (if b then s ∷ [] else [])) passes
      ∙ nil_right (bearing does name xs)

  more : (does : Role → Bool) (r : Role) → bytes_eq name s.name ≡ true → s.role ≡ r → does r ≡ true →
      bearing does name (xs ++ s ∷ []) ≡ bearing does name xs ++ s ∷ []
  more does r bears plays it_does =
      bearing_more does true r bears plays ∙ ap (λ (b : Bool). bearing does name xs ++ (if b then s ∷ [] else [])) it_does

  -- of another name nothing more is said
  pub other_name : bytes_eq name s.name ≡ false → candidates_of (xs ++ s ∷ []) name ≡ candidates_of xs name
  other_name other =
      three (alone is_global_role false s.role other refl refl) (alone is_common_role false s.role other refl refl)
      (alone is_weak_role false s.role other refl refl)

  role_case : (r : Role) → bytes_eq name s.name ≡ true → s.role ≡ r →
      candidates_of (xs ++ s ∷ []) name ≡ with_candidate (candidates_of xs name) r s
  role_case role.Global bears plays =
      three (more is_global_role role.Global bears plays refl) (alone is_common_role true role.Global bears plays refl)
      (alone is_weak_role true role.Global bears plays refl)
      ∙ with_global (bearing is_global_role name xs) (bearing is_common_role name xs) (bearing is_weak_role name xs) s
  role_case role.Common bears plays =
      three (alone is_global_role true role.Common bears plays refl) (more is_common_role role.Common bears plays refl)
      (alone is_weak_role true role.Common bears plays refl)
      ∙ with_common (bearing is_global_role name xs) (bearing is_common_role name xs) (bearing is_weak_role name xs) s
  role_case role.Weak bears plays =
      three (alone is_global_role true role.Weak bears plays refl) (alone is_common_role true role.Weak bears plays refl)
      (more is_weak_role role.Weak bears plays refl)
      ∙ with_weak (bearing is_global_role name xs) (bearing is_common_role name xs) (bearing is_weak_role name xs) s
  role_case role.Reference bears plays =
      three (alone is_global_role true role.Reference bears plays refl) (alone is_common_role true role.Reference bears plays refl)
      (alone is_weak_role true role.Reference bears plays refl)

  -- of its own name what it says
  pub same_name_more : bytes_eq name s.name ≡ true → candidates_of (xs ++ s ∷ []) name ≡ with_candidate (candidates_of xs name) s.role s
  same_name_more bears = role_case s.role bears refl

-- the names of one symbol more
pub names_more : (xs : List External) (s : External) → names_of (xs ++ s ∷ []) ≡ with_name (names_of xs) s.name
names_more xs s = fold-append (λ (names : List (List ℕ)) (t : External). with_name names t.name) [] xs (s ∷ [])

-- each name stands once
once_from : (acc : List (List ℕ)) (xs : List External) → IsOnce acc → IsOnce (fold (λ names (t : External). with_name names t.name) acc xs)
once_from acc [] once = once
once_from acc (x ∷ xs) once = once_from (with_name acc x.name) xs (once_with_name acc x.name once)

pub once_names : (xs : List External) → IsOnce (names_of xs)
once_names xs = once_from [] xs Empty

found_case : (x y : List ℕ) (names : List (List ℕ)) (b : Bool) →
    (list_any (bytes_eq x) names ≡ true → (k : ℕ) × (slice_get names k ≡ Some x)) →
    bytes_eq x y ≡ b → (b || list_any (bytes_eq x) names) ≡ true → (k : ℕ) × (slice_get (y ∷ names) k ≡ Some x)
found_case x y names true rest is some = (0, ap Some (sym (same_bytes x y is)))
found_case x y names false rest is some = let later = rest some in (suc later.0, later.1)

found_in : (x : List ℕ) (names : List (List ℕ)) → list_any (bytes_eq x) names ≡ true → (k : ℕ) × (slice_get names k ≡ Some x)
found_in x [] some = cc
found_in x (y ∷ names) some = found_case x y names (bytes_eq x y) (found_in x names) refl some

absent_any : (name other : List ℕ) (names : List (List ℕ)) → list_any (bytes_eq name) names ≡ false →
    list_any (bytes_eq other) names ≡ true → bytes_eq name other ≡ false
absent_any name other names none some = let found = found_in other names some in absent name other names found.0 none found.1

ends : (acc : List (List ℕ)) (name other : List ℕ) → list_any (bytes_eq name) (acc ++ other ∷ []) ≡ false →
    (list_any (bytes_eq name) acc ≡ false) × (bytes_eq name other ≡ false)
ends [] name other none = (refl, (or_false (bytes_eq name other) false none).0)
ends (x ∷ acc) name other none =
    let both = or_false (bytes_eq name x) (list_any (bytes_eq name) (acc ++ other ∷ [])) none in
    let rest = ends acc name other both.1 in
    (ap (λ b. b || list_any (bytes_eq name) acc) both.0 ∙ rest.0, rest.1)

-- nothing is said of a name that no symbol bears
stays_case : (acc : List (List ℕ)) (name other : List ℕ) (b : Bool) → list_any (bytes_eq other) acc ≡ b →
    list_any (bytes_eq name) (if b then acc else acc ++ other ∷ []) ≡ false →
    (list_any (bytes_eq name) acc ≡ false) × (bytes_eq name other ≡ false)
stays_case acc name other true is none = (none, absent_any name other acc none is)
stays_case acc name other false is none = ends acc name other none

unseen_from : (name : List ℕ) (acc : List (List ℕ)) (xs : List External) →
    list_any (bytes_eq name) (fold (λ names (t : External). with_name names t.name) acc xs) ≡ false →
    (list_any (bytes_eq name) acc ≡ false) × ((does : Role → Bool) → bearing does name xs ≡ [])
unseen_from name acc [] none = (none, λ does. refl)
unseen_from name acc (x ∷ xs) none =
    let later = unseen_from name (with_name acc x.name) xs none in
    let now = stays_case acc name x.name (list_any (bytes_eq x.name) acc) refl later.0 in (
      now.0,
      λ does.
          let test : (bytes_eq name x.name && does x.role) ≡ false = ap (λ b. b && does x.role) now.1 in
          ap (λ (b : Bool). if b then x ∷ bearing does name xs else bearing does name xs) test ∙ later.1 does,
    )

pub unseen : (name : List ℕ) (xs : List External) → list_any (bytes_eq name) (names_of xs) ≡ false → candidates_of xs name ≡ no_candidates
unseen name xs none = let all = (unseen_from name [] xs none).1 in three (all is_global_role) (all is_common_role) (all is_weak_role)
