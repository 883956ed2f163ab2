-- Tables of names.
use Rattle.std.proofs.Common.{◌≡◌, ◌≢◌, ℕ, Bool, true, false, List, [], ◌∷◌, ◌++◌, length, Some, slice_get, slice_set, map, sym, ap, ◌∙◌}
use Rattle.std.proofs.Common.{refl, arith, if◌then◌else◌}
use Rattle.std.specs.List.{list_any}
use Rattle.std.specs.Str.{bytes_eq}
use Rattle.std.specs.Option.{option_map}
use Rattle.std.proofs.lemmas.Option.{slice_get-map}
use Rattle.std.proofs.lemmas.List.{map-append}
use Rattle.symbol_table.specs.declared.candidates.Candidates.{Candidates}
use Rattle.symbol_table.specs.Externals.{External, names_of, with_name}
use Rattle.symbol_table.specs.Candidates.{NamesSeen, names_seen, candidates_of, no_candidates}
use Rattle.symbol_table.specs.inside.Names.{with_candidate, candidates_of_new}
use Rattle.symbol_table.proofs.Distinct.{IsOnce, once_with_name, old_name, changed, bytes_same}
use Rattle.symbol_table.proofs.Steps.{other_name, same_name_more, names_more, once_names, unseen, nil_right}

-- a name that was seen before adds nothing
pub no_more : (now : NamesSeen) (names names' : List (List ℕ)) (candidates : List Candidates) (name : List ℕ) (k : ℕ) →
    names ≡ now.names → candidates ≡ now.candidates → length now.candidates ≡ length now.names → k ≢ length candidates →
    names' ≡ with_name names name → slice_get names' k ≡ Some name →
    (candidates ≡ now.candidates ++ candidates_of_new now.names name) × (length candidates ≡ length names')
no_more now names names' candidates name k same_names same_candidates lengths other more found =
    let lens = ap length same_candidates in
    let lens2 = ap length same_names in
    let far : k ≢ length names = omega (arith, other, lens, lens2, lengths) in
    let known : list_any (bytes_eq name) names ≡ true = old_name name names k far (ap (λ (l : List (List ℕ)). slice_get l k) (sym more)
    ∙ found) in
    let known_now : list_any (bytes_eq name) now.names ≡ true = ap (λ (l : List (List ℕ)). list_any (bytes_eq name) l) (sym same_names)
    ∙ known in
    let none : candidates_of_new now.names name ≡ [] = ap (λ (b : Bool). if b then [] else no_candidates ∷ []) known_now in
    let kept : names' ≡ names = more ∙ ap (λ (b : Bool). if b then names else names ++ name ∷ []) known in
    let lens3 = ap length kept in (
      same_candidates ∙ sym (nil_right now.candidates) ∙ ap (λ (l : List Candidates). now.candidates ++ l) (sym none),
      lens ∙ lengths
          ∙ sym lens2 ∙ sym lens3,
    )

-- what is said of names and of a new one
candidates_case : (symbols : List External) (name : List ℕ) (b : Bool) → list_any (bytes_eq name) (names_of symbols) ≡ b →
    map (candidates_of symbols) (names_of symbols) ++ (if b then [] else no_candidates ∷ []) ≡ map (candidates_of symbols)
    (if b then names_of symbols else names_of symbols ++ name ∷ [])
candidates_case symbols name true is = nil_right (map (candidates_of symbols) (names_of symbols))
candidates_case symbols name false is =
    let none = unseen name symbols is in
    ap (λ (c : Candidates). map (candidates_of symbols) (names_of symbols) ++ c ∷ []) (sym none)
    ∙ sym (map-append (candidates_of symbols) (names_of symbols) (name ∷ []))

pub candidates_before : (symbols : List External) (name : List ℕ) →
    map (candidates_of symbols) (names_of symbols) ++ candidates_of_new (names_of symbols) name ≡ map (candidates_of symbols)
    (with_name (names_of symbols) name)
candidates_before symbols name = candidates_case symbols name (list_any (bytes_eq name) (names_of symbols)) refl

some_same : {X : Type 0} (x y : X) → Some x ≡ Some y → x ≡ y
some_same x y same = cc

abbrev pub seen : List (List ℕ) → List Candidates → NamesSeen
seen names candidates = record { names = names; candidates = candidates }

-- one symbol more
pub table_step : (symbols : List External) (s : External) (old : NamesSeen) (names : List (List ℕ)) (middle candidates : List Candidates)
    (k : ℕ) (x : Candidates) →
    old ≡ names_seen symbols → names ≡ with_name old.names s.name → middle ≡ old.candidates ++ candidates_of_new old.names s.name →
    slice_get names k ≡ Some s.name →
    slice_get middle k ≡ Some x → candidates ≡ slice_set middle k (with_candidate x s.role s) →
    seen names candidates ≡ names_seen (symbols ++ s ∷ [])
table_step symbols s old names middle candidates k x is more middle_is found read written =
    let f = candidates_of symbols in
    let g = candidates_of (symbols ++ s ∷ []) in
    let now : names ≡ with_name (names_of symbols) s.name = more ∙ ap (λ (t : NamesSeen). with_name t.names s.name) is in
    let all : middle ≡ map f (with_name (names_of symbols) s.name) =
    middle_is ∙ ap (λ (t : NamesSeen). t.candidates ++ candidates_of_new t.names s.name) is ∙ candidates_before symbols s.name in
    let place : slice_get (with_name (names_of symbols) s.name) k ≡ Some s.name = ap (λ (l : List (List ℕ)). slice_get l k) (sym now)
    ∙ found in
    let there : slice_get middle k ≡ Some (f s.name) =
    ap (λ (l : List Candidates). slice_get l k) all ∙ slice_get-map f (with_name (names_of symbols) s.name) k ∙ ap (option_map f) place in
    let read_is : x ≡ f s.name = some_same x (f s.name) (sym read ∙ there) in
    let own : g s.name ≡ with_candidate (f s.name) s.role s = same_name_more s.name symbols s (bytes_same s.name) in
    let once : IsOnce (with_name (names_of symbols) s.name) = once_with_name (names_of symbols) s.name (once_names symbols) in
    let change : map g (with_name (names_of symbols) s.name) ≡ slice_set (map f (with_name (names_of symbols) s.name)) k (g s.name) =
    changed f g s.name (λ other differs. other_name other symbols s differs) (with_name (names_of symbols) s.name) k once place in
    let value : with_candidate x s.role s ≡ g s.name = ap (λ (c : Candidates). with_candidate c s.role s) read_is ∙ sym own in
    let wrote : candidates ≡ map g (with_name (names_of symbols) s.name) =
    written ∙ ap (λ (l : List Candidates). slice_set l k (with_candidate x s.role s)) all
    ∙ ap (λ (c : Candidates). slice_set (map f (with_name (names_of symbols) s.name)) k c) value ∙ sym change in
    let named = names_more symbols s in
    ap (λ (l : List (List ℕ)). seen l candidates) (now ∙ sym named)
    ∙ ap (λ (l : List Candidates). seen (names_of (symbols ++ s ∷ [])) l) (wrote ∙ ap (map g) (sym named))
