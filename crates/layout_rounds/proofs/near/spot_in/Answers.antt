-- overflow_add-result: an offset in a group is small.
use Rattle.std.proofs.Common.{arith}
use Rattle.layout_rounds.proofs.Bounds.{offset_small}
use Rattle.layout_rounds.proofs.near.spot_in.Goals as goal

pub overflow_add-result : goal.overflow_add-result
overflow_add-result c =
    let t = c.args.keyed.now in
    let place = c.requires.place in
    omega (
      arith,
      c.spot_of-spot.ensures.offset,
      offset_small t c.requires.text c.args.section place.section_in,
      place.within,
      place.section_in,
      c.requires.text.sections.few,
    )
