-- place-requires: the set has room for every key. widen-requires: ways have their starts, and there are fewer than 2^32. returns: a round
-- by the starts is one by near reach in the layout.
use Rattle.std.proofs.Common.{◌∙◌, sym, arith}
use Rattle.layout_rounds.proofs.FarLayouts.{all_placed, looked_by, count_at, few_keys}
use Rattle.layout_rounds.proofs.settling.look_at_all.Goals as goal

pub place-requires : goal.place-requires
place-requires g c = c.requires.room ∙ sym (count_at c.args.shape.now c.args.span c.args.keyed.now c.requires.ways.keyed_is)

pub widen-round-requires-clause-placed : goal.widen-round-requires-clause-placed
widen-round-requires-clause-placed g c =
    all_placed c.args.shape.now c.args.span c.requires.sound c.args.keyed.now c.args.ways.now c.requires.ways c.args.far.now
    c.in_ok-places.places c.in_ok-places.ensures.layout c.starts.result.now c.starts.ensures

pub widen-round-requires-clause-few : goal.widen-round-requires-clause-few
widen-round-requires-clause-few g c =
    let few = few_keys c.args.shape.now c.args.span c.requires.sound in
    omega (arith, few, c.requires.ways.ways_are.count)

pub returns-clause-looked : goal.returns-clause-looked
returns-clause-looked g c =
    looked_by c.args.shape.now c.args.span c.requires.sound c.args.keyed.now c.args.ways.now c.requires.ways c.args.far.now
    c.in_ok-places.places c.in_ok-places.ensures.layout c.starts.result.now c.starts.ensures c.widen-round.new.far
    c.widen-round.result c.requires.room c.widen-round.ensures
