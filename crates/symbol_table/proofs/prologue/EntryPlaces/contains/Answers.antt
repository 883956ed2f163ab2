use Rattle.std.proofs.Common.{◌≡◌, ◌<◌, ◌≤◌, ℕ, List, length, sym, ap, ◌∙◌, subst, rules, arith}
use Rattle.std.specs.List.{list_any, slice_index_or}
use Rattle.symbol_table.specs.declared.places.FilePlace.{FilePlace}
use Rattle.symbol_table.specs.inside.Places.{rank, is_place}
use Rattle.symbol_table.proofs.PlaceOrder.{IsSplit, split_items, before_point, after_point}
use Rattle.symbol_table.proofs.EntryPlaces.{none_left, first_left}
use Rattle.symbol_table.proofs.prologue.EntryPlaces.contains.Goals as goal

abbrev place : ℕ → ℕ → FilePlace
place section at = record { section = section; offset = at }

-- all places come before this one
pub returns-in-None : goal.returns-in-None
returns-in-None c =
    let items = c.self.inside.items.items in
    let this = rank (place c.args.section c.args.at) in
    let next = c.partition_point-next.result in
    let here : IsSplit rank this items next =
    split_items rank this items c.deref.result.now next c.deref.ensures.value c.self.invariant
    c.partition_point-next.ensures.partitioned (λ a r f k. search rules) in
    let past = subst (λ (l : List FilePlace). length l ≤ next) c.deref-2.ensures.value c.in-None.ensures.lookup.3 in
    sym (none_left items c.args.section c.args.at next (before_point rank this items next here) past)
    ∙ ap (list_any (is_place c.args.section c.args.at)) c.self.view_is

-- the first place that doesn't is this one, if any is
pub returns-in-Some : goal.returns-in-Some
returns-in-Some c =
    let items = c.self.inside.items.items in
    let this = rank (place c.args.section c.args.at) in
    let next = c.partition_point-next.result in
    let here : IsSplit rank this items next =
    split_items rank this items c.deref.result.now next c.deref.ensures.value c.self.invariant
    c.partition_point-next.ensures.partitioned (λ a r f k. search rules) in
    let p = c.in-Some.p.now in
    let found = c.in-Some.ensures.lookup.3 in
    let within = subst (λ (l : List FilePlace). next < length l) c.deref-2.ensures.value found.0 in
    let is = subst (λ (l : List FilePlace). (d : FilePlace) → p ≡ slice_index_or l next d) c.deref-2.ensures.value found.1 in
    let after : this ≤ rank p =
    subst (λ (q : FilePlace). this ≤ rank q) (sym (is p)) (after_point rank this items next here next p (omega arith) within) in
    c.is_at.ensures.is
    ∙ first_left items c.args.section c.args.at next (before_point rank this items next here) p c.self.invariant within is
    c.is_at.ensures.fits c.ranges.at.fits after
    ∙ ap (list_any (is_place c.args.section c.args.at)) c.self.view_is
