-- tails_before-requires: accesses are in order. returns: where all accesses stand before the place, none stands there; and else the first
-- that doesn't stands there, if any does.
use Rattle.std.proofs.Common.{◌≡◌, ℕ, List, sym, ap, ◌∙◌, subst, refl}
use Rattle.std.specs.List.{Contains}
use Rattle.std.specs.List.Sorted.{IsNonDecreasingBy}
use Rattle.std.proofs.lemmas.List.Sorted.{Contains-permutation, IsPermutation-sym}
use Rattle.symbol_table.specs.declared.target.CodePlace.{CodePlace}
use Rattle.pcrel_rewrite.specs.declared.text_pairs.TextPair.{TextPair}
use Rattle.pcrel_rewrite.specs.TextPairs.{text_pair}
use Rattle.pcrel_rewrite.specs.inside.Order.{rank, tail_of, tail_rank, AreSortedPairs}
use Rattle.pcrel_rewrite.proofs.Sought.{none_sought, rank_sought, same_place}
use Rattle.pcrel_rewrite.proofs.text_pairs.Pairs.tail.Goals as goal

abbrev place : ℕ → ℕ → CodePlace
place section offset = record { section = section; offset = offset }

pub tails_before-next-requires : goal.tails_before-next-requires
tails_before-next-requires c = subst (IsNonDecreasingBy tail_rank) (sym c.as_slice-tails.ensures.value) c.self.invariant.by_tail

-- pairs as they are seen, in order of their loads and of their accesses
among : (pairs heads items tails : List TextPair) (x : TextPair) → heads ≡ pairs → AreSortedPairs heads items → tails ≡ items →
    Contains pairs x → Contains tails x
among pairs heads items tails x view sorted same held =
    subst (λ (l : List TextPair). Contains l x) (sym same)
    (Contains-permutation heads items x sorted.same (subst (λ (l : List TextPair). Contains l x) (sym view) held))

back : (pairs heads items tails : List TextPair) (x : TextPair) → heads ≡ pairs → AreSortedPairs heads items → tails ≡ items →
    Contains tails x → Contains pairs x
back pairs heads items tails x view sorted same held =
    subst (λ (l : List TextPair). Contains l x) view
    (Contains-permutation items heads x (IsPermutation-sym heads items sorted.same)
    (subst (λ (l : List TextPair). Contains l x) same held))

pub returns-in-None : goal.returns-in-None
returns-in-None c =
    let tails = c.as_slice-tails.result.now in
    let sorted = subst (IsNonDecreasingBy tail_rank) (sym c.as_slice-tails.ensures.value) c.self.invariant.by_tail in (
      λ t. cc,
      λ held.
          let x = text_pair c.args.section held.0 c.args.offset in
          let inside = among c.args.self.now c.self.inside.heads.items c.self.inside.tails.items tails x c.self.view_is c.self.invariant
          c.as_slice-tails.ensures.value held.1 in
          absurd (none_sought tail_rank (rank (place c.args.section c.args.offset)) tails c.tails_before-next.result sorted
          c.tails_before-next.ensures.before c.tails_before-next.ensures.after c.in-None.ensures.lookup.3 x refl inside),
    )

pub returns-in-Some : goal.returns-in-Some
returns-in-Some c =
    let tails = c.as_slice-tails.result.now in
    let at = place c.args.section c.args.offset in
    let sorted = subst (IsNonDecreasingBy tail_rank) (sym c.as_slice-tails.ensures.value) c.self.invariant.by_tail in
    let p = c.in-Some.pair.now in
    let found = c.in-Some.ensures.lookup.3 in (
      λ t.
          let it : tail_of p ≡ at = c.has_tail.ensures.is.0 t in
          let section : p.section ≡ c.args.section = ap (λ (q : CodePlace). q.section) it in
          let offset : p.tail ≡ c.args.offset = ap (λ (q : CodePlace). q.offset) it in
          let this_pair : p ≡ text_pair c.args.section p.head c.args.offset =
          ap (λ (s : ℕ). text_pair s p.head p.tail) section ∙ ap (λ (o : ℕ). text_pair c.args.section p.head o) offset in
          let held : Contains tails p = (c.tails_before-next.result, found.0, sym (found.1 p)) in (
            p.head,
            subst (λ (q : TextPair). Contains c.args.self.now q) this_pair
                (back c.args.self.now c.self.inside.heads.items c.self.inside.tails.items tails p c.self.view_is c.self.invariant
                c.as_slice-tails.ensures.value held),
          ),
      λ held.
          let x = text_pair c.args.section held.0 c.args.offset in
          let inside = among c.args.self.now c.self.inside.heads.items c.self.inside.tails.items tails x c.self.view_is c.self.invariant
          c.as_slice-tails.ensures.value held.1 in
          let same : tail_rank p ≡ rank at = rank_sought tail_rank (rank at) tails c.tails_before-next.result sorted
          c.tails_before-next.ensures.before c.tails_before-next.ensures.after p found.1 x refl inside in
          c.has_tail.ensures.is.1 (same_place (tail_of p) at c.has_tail.ensures.fits c.has_tail.ensures.place_fits same),
    )
