use Rattle.std.proofs.Common.{sym, subst, refl, rules}
use Rattle.std.specs.List.{Contains}
use Rattle.symbol_table.proofs.PlaceOrder.{split_point, before_point, after_point}
use Rattle.pcrel_rewrite.specs.inside.Order.{rank}
use Rattle.pcrel_rewrite.proofs.Sought.{none_sought, rank_sought, same_place}
use Rattle.pcrel_rewrite.proofs.recognised.contains.Goals as goal

-- all places come before this one
pub returns-in-None : goal.returns-in-None
returns-in-None c =
    let places = c.args.places.now in
    let place = c.args.place in
    let this = rank place in
    let next = c.partition_point-next.result in
    let split = split_point rank this places next c.requires c.partition_point-next.ensures.partitioned (λ a r f k. search rules) in (
      λ t. cc,
      λ held. absurd (none_sought rank this places next c.requires (before_point rank this places next split)
          (after_point rank this places next split) c.in-None.ensures.lookup.3 place refl held),
    )

-- the first that doesn't is this one, if any is
pub returns-in-Some : goal.returns-in-Some
returns-in-Some c =
    let places = c.args.places.now in
    let place = c.args.place in
    let this = rank place in
    let next = c.partition_point-next.result in
    let split = split_point rank this places next c.requires c.partition_point-next.ensures.partitioned (λ a r f k. search rules) in
    let p = c.in-Some.found.now in
    let found = c.in-Some.ensures.lookup.3 in
    let held : Contains places p = (next, found.0, sym (found.1 p)) in (
      λ t. subst (Contains places) (c.is_same.ensures.is.0 t) held,
      λ inside.
          c.is_same.ensures.is.1
          (same_place p place c.is_same.ensures.fits c.is_same.ensures.other_fits
          (rank_sought rank this places next c.requires (before_point rank this places next split)
          (after_point rank this places next split) p found.1 place refl inside)),
    )
