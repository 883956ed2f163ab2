-- The number of a name's common is one of the commons'.
use Rattle.std.proofs.Common.{ℕ, zero, suc, ◌≡◌, ◌<◌, ◌≤◌, ◌+◌, inl, inr, Bool, true, false, List, [], ◌∷◌, ◌++◌, length, length-append, map, get_or, take, Option, Some, ap, sym, ◌∙◌, refl, arith}
use Rattle.std.specs.Prelude.{filter_map}
use Rattle.std.specs.List.{position_or_len}
use Rattle.std.specs.Str.{bytes_eq}
use Rattle.std.proofs.lemmas.Bool.{cases_lt}
use Rattle.std.proofs.lemmas.List.{length-map}
use Rattle.std.proofs.lemmas.List.Elements.{filter_map-append}
use Rattle.symbol_table.specs.declared.candidates.CommonSize.{CommonSize}
use Rattle.symbol_table.specs.declared.candidates.Candidates.{Candidates}
use Rattle.symbol_table.specs.declared.candidates.Resolution.TheVariants as resolution
use Rattle.symbol_table.specs.Externals.{External, names_of, external_symbols}
use Rattle.symbol_table.specs.Candidates.{candidates_of, resolution_of, no_candidates, stands_for, common_in, commons_before, all_candidates, all_commons, common_number}
use Rattle.symbol_table.specs.inside.Commons.{common_list}
use Rattle.symbol_table.proofs.Distinct.{same_bytes}
use Rattle.symbol_table.proofs.NumberedCommons.{commons_more}
use Rattle.symbol_table.proofs.Steps.{unseen}
use Rattle.toc_groups.proofs.Positions.{any-from_none, at_none, found_passes}
use Rattle.toc_groups.proofs.Begins.{take_begun, Begins}

no_common : (symbols : List External) (name : List ℕ) (c : CommonSize) → candidates_of symbols name ≡ no_candidates →
    resolution_of (candidates_of symbols name) ≡ resolution.Common c → ⊥
no_common symbols name c none is =
    let this : resolution.Undefined ≡ resolution.Common c = sym (ap resolution_of none) ∙ is in
    cc

any_case : (t : Bool) → (t ≡ false → ⊥) → t ≡ true
any_case true other = refl
any_case false other = absurd (other refl)

-- a name that stands for a common is one of the names
name_there : (symbols : List External) (name : List ℕ) (c : CommonSize) → resolution_of (candidates_of symbols name) ≡ resolution.Common c →
    position_or_len (bytes_eq name) (names_of symbols) < length (names_of symbols)
name_there symbols name c is =
    let names = names_of symbols in
    elim (cases_lt (position_or_len (bytes_eq name) names) (length names)) [
      | inl within ↦ within
      | inr over ↦ (
          let none = any-from_none (bytes_eq name) names (at_none (bytes_eq name) names over) in
          absurd (no_common symbols name c (unseen name symbols none) is))
    ]

get_or_mapped : (f : List ℕ → Candidates) (names : List (List ℕ)) (k : ℕ) (d : Candidates) (e : List ℕ) → k < length names →
    get_or (map f names) k d ≡ f (get_or names k e)
get_or_mapped f [] k d e within = absurd (omega (arith, within))
get_or_mapped f (x ∷ xs) zero d e within = refl
get_or_mapped f (x ∷ xs) (suc k) d e within = get_or_mapped f xs k d e (omega (arith, within))

fewer : (xs zs : List Candidates) → Begins xs zs →
    length (filter_map (λ c. common_in (resolution_of c)) xs) ≤ length (filter_map (λ c. common_in (resolution_of c)) zs)
fewer xs zs begins =
    let f : Candidates → Option CommonSize = λ c. common_in (resolution_of c) in
    let all = ap (λ (l : List Candidates). length (filter_map f l)) begins.is in
    let parts = ap (λ (l : List CommonSize). length l) (filter_map-append f xs begins.rest) in
    let sizes = length-append (filter_map f xs) (filter_map f begins.rest) in
    omega (arith, all, parts, sizes)

pub common_below : (files : List (List ℕ)) (name : List ℕ) (c : CommonSize) → stands_for files name ≡ resolution.Common c →
    common_number files name < length (all_commons files)
common_below files name c is =
    let symbols = external_symbols files in
    let names = names_of symbols in
    let all = all_candidates files in
    let k = position_or_len (bytes_eq name) names in
    let within = name_there symbols name c is in
    let long : length all ≡ length names = length-map names (candidates_of symbols) in
    let inside : k < length all = omega (arith, within, long) in
    let same : name ≡ get_or names k [] = same_bytes name (get_or names k []) (found_passes (bytes_eq name) names [] within) in
    let read : get_or all k no_candidates ≡ candidates_of symbols name =
    get_or_mapped (candidates_of symbols) names k no_candidates [] within ∙ ap (candidates_of symbols) (sym same) in
    let this : common_in (resolution_of (get_or all k no_candidates)) ≡ Some c =
    ap (λ (x : Candidates). common_in (resolution_of x)) read ∙ ap common_in is in
    let more : commons_before all k ++ common_list (common_in (resolution_of (get_or all k no_candidates))) ≡ commons_before all (k + 1) =
    commons_more all k no_candidates (commons_before all k)
    (commons_before all k ++ common_list (common_in (resolution_of (get_or all k no_candidates)))) inside refl refl in
    let one = ap (λ (o : Option CommonSize). length (commons_before all k ++ common_list o)) this in
    let sizes = length-append (commons_before all k) (c ∷ []) in
    let most = fewer (take (k + 1) all) (take (length all) all) (take_begun (k + 1) (length all) all (omega (arith, inside))) in
    omega (arith, ap (λ (l : List CommonSize). length l) more, one, sizes, most)
