-- What a slot holds stands behind the rest.
use Rattle.std.proofs.Common.{[], ap, sym, ◌∙◌}
use Rattle.plain_run.specs.Data.{place_in}
use Rattle.plain_run.proofs.DataPointers.{slot_more}
use Rattle.plain_run.proofs.data.push_slot.Goals as goal

pub returns : goal.returns
returns c =
    slot_more c.args.res.now.files c.args.plan.now.span c.args.group c.args.k c.slot_symbol-symbol.result c.in-Some.place
    c.slot_place.result c.args.pointers.now.items c.push.new.self.items c.slot_symbol-symbol.ensures.slot.symbol
    (ap place_in c.target.ensures ∙ sym c.place_in.ensures ∙ c.in-Some.is) c.slot_place.ensures.place c.in_ok-push.ensures.items
