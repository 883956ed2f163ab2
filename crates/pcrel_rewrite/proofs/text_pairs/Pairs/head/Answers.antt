-- heads_before-requires: pairs are in order. returns: where all pairs begin before the place, or the first that doesn't begins elsewhere,
-- none begins there.
use Rattle.std.proofs.Common.{◌≡◌, ℕ, List, true, sym, subst, refl, ◌∙◌}
use Rattle.std.specs.List.{Contains}
use Rattle.std.specs.List.Sorted.{IsNonDecreasingBy}
use Rattle.symbol_table.specs.declared.target.CodePlace.{CodePlace}
use Rattle.pcrel_rewrite.specs.declared.text_pairs.TextPair.{TextPair}
use Rattle.pcrel_rewrite.specs.TextPairs.{text_pair}
use Rattle.pcrel_rewrite.specs.inside.Order.{rank, head_of, head_rank}
use Rattle.pcrel_rewrite.proofs.Sought.{none_sought, rank_sought, same_place}
use Rattle.pcrel_rewrite.proofs.text_pairs.Pairs.head.Goals as goal

abbrev place : ℕ → ℕ → CodePlace
place section offset = record { section = section; offset = offset }

pub heads_before-next-requires : goal.heads_before-next-requires
heads_before-next-requires c = subst (IsNonDecreasingBy head_rank) (sym c.as_slice-heads.ensures.value) c.self.invariant.by_head

pub returns-in-None-clause-none : goal.returns-in-None-clause-none
returns-in-None-clause-none c = λ tail held.
    let heads = c.as_slice-heads.result.now in
    let sorted = subst (IsNonDecreasingBy head_rank) (sym c.as_slice-heads.ensures.value) c.self.invariant.by_head in
    let x = text_pair c.args.section c.args.offset tail in
    let inside = subst (λ (l : List TextPair). Contains l x) (sym (c.as_slice-heads.ensures.value ∙ c.self.view_is)) held in
    none_sought head_rank (rank (place c.args.section c.args.offset)) heads c.heads_before-next.result sorted
    c.heads_before-next.ensures.before c.heads_before-next.ensures.after c.in-None.ensures.lookup.3 x refl inside

pub returns-else-has_head-clause-none : goal.returns-else-has_head-clause-none
returns-else-has_head-clause-none c = λ tail held.
    let heads = c.as_slice-heads.result.now in
    let at = place c.args.section c.args.offset in
    let sorted = subst (IsNonDecreasingBy head_rank) (sym c.as_slice-heads.ensures.value) c.self.invariant.by_head in
    let p = c.in-Some.pair.now in
    let x = text_pair c.args.section c.args.offset tail in
    let inside = subst (λ (l : List TextPair). Contains l x) (sym (c.as_slice-heads.ensures.value ∙ c.self.view_is)) held in
    let same : head_rank p ≡ rank at = rank_sought head_rank (rank at) heads c.heads_before-next.result sorted
    c.heads_before-next.ensures.before c.heads_before-next.ensures.after p c.in-Some.ensures.lookup.3.1 x refl inside in
    let it : head_of p ≡ at = same_place (head_of p) at c.has_head.ensures.fits c.has_head.ensures.place_fits same in
    let yes : c.has_head.result ≡ true = c.has_head.ensures.is.1 it in
    let no = c.if-has_head.false in
    cc
