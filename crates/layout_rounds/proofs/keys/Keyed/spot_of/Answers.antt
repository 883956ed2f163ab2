-- index-requires: each section has a spot. returns: it is the one that is read.
use Rattle.std.proofs.Common.{arith}
use Rattle.layout_rounds.proofs.Bounds.{spots_count}
use Rattle.layout_rounds.proofs.Read.{spot_read}
use Rattle.layout_rounds.proofs.keys.Keyed.spot_of.Goals as goal

pub index-requires : goal.index-requires
index-requires c =
    let lt = rw (← c.self.view_is) at c.requires in
    omega (arith, lt, c.self.inside.spots.ok.0, spots_count _ c.self.invariant.keyed)

pub returns : goal.returns
returns c =
    let lt = rw (← c.self.view_is) at c.requires in
    let is = spot_read _ c.self.invariant.keyed c.args.section c.index.result.now lt c.index.ensures in
    rw (← c.self.view_is) (record { group = is.group; offset = is.offset; within = is.within; room = is.room })
