-- Commons, numbered.
use Rattle.std.proofs.Common.{◌≡◌, ◌<◌, ℕ, ◌+◌, List, [], ◌∷◌, ◌++◌, length, get_or, take, Option, Some, None, refl, sym, ap, ◌∙◌, arith}
use Rattle.std.specs.Prelude.{filter_map}
use Rattle.std.proofs.lemmas.List.{take_more}
use Rattle.std.proofs.lemmas.List.Elements.{filter_map-append}
use Rattle.symbol_table.specs.declared.candidates.CommonSize.{CommonSize}
use Rattle.symbol_table.specs.declared.candidates.Candidates.{Candidates}
use Rattle.symbol_table.specs.Candidates.{resolution_of, common_in, commons_before}
use Rattle.symbol_table.specs.inside.Commons.{common_list}

single : (f : Candidates → Option CommonSize) (c : Candidates) (o : Option CommonSize) → f c ≡ o → filter_map f (c ∷ []) ≡ common_list o
single f c None is = grind (arith, is)
single f c (Some x) is = grind (arith, is)

-- one name more
pub commons_more : (candidates : List Candidates) (i : ℕ) (d : Candidates) (old new : List CommonSize) → i < length candidates →
    old ≡ commons_before candidates i →
    new ≡ old ++ common_list (common_in (resolution_of (get_or candidates i d))) → new ≡ commons_before candidates (i + 1)
commons_more candidates i d old new within before is =
    let f : Candidates → Option CommonSize = λ c. common_in (resolution_of c) in
    let c = get_or candidates i d in
    let more : take (i + 1) candidates ≡ take i candidates ++ c ∷ [] = take_more candidates i d within in
    let step : commons_before candidates (i + 1) ≡ commons_before candidates i ++ common_list (f c) =
    ap (filter_map f) more ∙ filter_map-append f (take i candidates) (c ∷ [])
    ∙ ap (λ (l : List CommonSize). commons_before candidates i ++ l) (single f c (f c) refl) in
    is ∙ ap (λ (l : List CommonSize). l ++ common_list (f c)) before ∙ sym step
