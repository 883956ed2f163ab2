-- returns: the ends of the sections behind the slots of the last turn tell the end behind all.
use Rattle.std.proofs.Common.{◌%◌, arith, refl, sym, subst}
use Rattle.object_set.specs.laws.Rows.{index_read}
use Rattle.toc_groups.specs.inside.Ends.{AreEnds}
use Rattle.toc_groups.proofs.Turns.{ends_later}
use Rattle.toc_groups.proofs.toc_ends.TocEnds.behind_slots.Goals as goal

pub returns : goal.returns
returns c = λ sections fit ends.
    let here : AreEnds sections c.self.inside.ends.items = subst (AreEnds sections) (sym c.self.view_is) ends in
    ends_later sections c.self.inside.ends.items c.args.slots (c.args.slots % 32) c.index.result.now fit here refl
    (index_read c.self.inside.ends.items (c.args.slots % 32) c.index.result.now 0 (omega (arith, here.count)) c.index.ensures)
