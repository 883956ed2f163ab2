-- overflow_add-result: the number of the last section's group is small. returns-in-Some-clause-count: one more is the number of
-- groups. returns-in-Some-clause-low: a stub area ends below 2^61 in every layout.
use Rattle.std.proofs.Common.{◌≡◌, ◌+◌, ◌-◌, Some, List, length, slice_get, sym, subst, arith}
use Rattle.layout_rounds.specs.declared.grouping.Spot.{Spot}
use Rattle.layout_rounds.specs.Layout.{group_count}
use Rattle.layout_rounds.proofs.Bounds.{few_groups, area_low}
use Rattle.layout_rounds.proofs.Read.{last_group}
use Rattle.layout_rounds.proofs.keys.Keyed.group_count.Goals as goal
use Rattle.layout_rounds.proofs.keys.Keyed.group_count.Goals.{In-Some}

all_counted : (c : In-Some) → c.in-Some.spot.now.group + 1 ≡ group_count c.args.self.now
all_counted c =
    let value = c.in-Some.ensures in
    rw (← c.self.view_is) (last_group _ c.self.invariant.keyed c.in-Some.spot.now
    (subst (λ (xs : List Spot). slice_get xs (length xs - 1) ≡ Some c.in-Some.spot.now) c.deref.ensures.value
    (sym value.value)))

pub overflow_add-result : goal.overflow_add-result
overflow_add-result c =
    let all = rw (← c.self.view_is) at (all_counted c) in
    omega (arith, all, few_groups _ c.self.invariant.keyed)

pub returns-in-Some-clause-count : goal.returns-in-Some-clause-count
returns-in-Some-clause-count c = all_counted c

pub returns-in-Some-clause-low : goal.returns-in-Some-clause-low
returns-in-Some-clause-low c =
    let all = rw (← c.self.view_is) at (all_counted c) in
    rw (← c.self.view_is) (λ F g lt. area_low _ c.self.invariant.keyed F g (omega (arith, lt, all)))
