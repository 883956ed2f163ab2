-- Only the last region that begins at or below an address can hold a byte there: where none begins so, none does ..
use Rattle.std.proofs.Common.{◌-◌, ◌∙◌, sym, ap, subst, cond, Some, None, arith}
use Rattle.power_machine.specs.Memory.{holds, range_of}
use Rattle.power_machine.specs.inside.Regions.{BeginBy}
use Rattle.power_machine.proofs.Places.{no_place, place_tested, some_region}
use Rattle.power_machine.proofs.memory.place.Goals as goal

pub returns-then-begun-eq0-clause-value : goal.returns-then-begun-eq0-clause-value
returns-then-begun-eq0-clause-value c =
    no_place c.args.purpose c.args.at c.args.count c.args.regions.now some_region c.requires.order c.requires.some
    (subst (λ n. BeginBy c.args.regions.now c.args.at n) c.if-begun-eq0.true c.begun_by-begun.ensures)

-- .. where the last one does, it is the place ..
pub returns-then-holds-clause-value : goal.returns-then-holds-clause-value
returns-then-holds-clause-value c =
    let last = c.begun_by-begun.result - 1 in
    ap (λ b. cond b (Some last) None) (sym c.if-holds.true)
    ∙ place_tested c.args.purpose c.args.at c.args.count c.args.regions.now c.begun_by-begun.result last
    c.index-regions-last.result c.holds.result c.requires.order c.requires.some c.begun_by-begun.ensures
    (omega arith) (c.holds.ensures ∙ ap (λ r. holds c.args.purpose c.args.at c.args.count (range_of r)) c.index-regions-last.is)

-- .. and where it doesn't, there is none.
pub returns-else-holds-clause-value : goal.returns-else-holds-clause-value
returns-else-holds-clause-value c =
    let last = c.begun_by-begun.result - 1 in
    ap (λ b. cond b (Some last) None) (sym c.if-holds.false)
    ∙ place_tested c.args.purpose c.args.at c.args.count c.args.regions.now c.begun_by-begun.result last
    c.index-regions-last.result c.holds.result c.requires.order c.requires.some c.begun_by-begun.ensures
    (omega arith) (c.holds.ensures ∙ ap (λ r. holds c.args.purpose c.args.at c.args.count (range_of r)) c.index-regions-last.is)
