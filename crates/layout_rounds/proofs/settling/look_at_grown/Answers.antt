-- place-requires: the set has room for every key. widen_grown-requires: there are fewer than 2^32 ways, which have their starts in both
-- layouts, and each key outside the set reached near in the one before. returns: a round by the starts is one by near reach in the layout.
use Rattle.std.proofs.Common.{◌<◌, ◌∙◌, sym, arith}
use Rattle.layout_rounds.specs.FarSets.{member}
use Rattle.layout_rounds.specs.Layout.{key_count}
use Rattle.layout_rounds.specs.Shapes.{keyed_text}
use Rattle.layout_rounds.proofs.FarLayouts.{given_placed, given_near, all_placed, looked_by, count_at, few_keys}
use Rattle.layout_rounds.proofs.settling.look_at_grown.Goals as goal

pub place-requires : goal.place-requires
place-requires g c = c.requires.room ∙ sym (count_at c.args.shape.now c.args.span c.args.keyed.now c.requires.ways.keyed_is)

pub widen_grown-round-requires-clause-was_placed : goal.widen_grown-round-requires-clause-was_placed
widen_grown-round-requires-clause-was_placed g c =
    given_placed c.args.shape.now c.args.span c.requires.sound c.args.ways.now c.requires.ways.ways_are (member c.requires.near.old)
    c.args.before.now c.requires.near.places_are c.starts.result.now c.starts.ensures

pub widen_grown-round-requires-clause-placed : goal.widen_grown-round-requires-clause-placed
widen_grown-round-requires-clause-placed g c =
    all_placed c.args.shape.now c.args.span c.requires.sound c.args.keyed.now c.args.ways.now c.requires.ways c.args.far.now
    c.in_ok-places.places c.in_ok-places.ensures.layout c.starts-2.result.now c.starts-2.ensures

pub widen_grown-round-requires-clause-was_near : goal.widen_grown-round-requires-clause-was_near
widen_grown-round-requires-clause-was_near g c = λ k lt out.
    let within : k < key_count (keyed_text c.args.shape.now c.args.span) = omega (arith, lt, c.requires.ways.ways_are.count) in
    given_near c.args.shape.now c.args.span c.requires.sound c.args.ways.now c.requires.ways.ways_are (member c.requires.near.old)
    c.args.before.now c.requires.near.places_are c.starts.result.now c.starts.ensures k within
    ∙ c.requires.near.rest k within out

pub widen_grown-round-requires-clause-few : goal.widen_grown-round-requires-clause-few
widen_grown-round-requires-clause-few g c =
    let few = few_keys c.args.shape.now c.args.span c.requires.sound in
    omega (arith, few, c.requires.ways.ways_are.count)

pub returns-clause-looked : goal.returns-clause-looked
returns-clause-looked g c =
    looked_by c.args.shape.now c.args.span c.requires.sound c.args.keyed.now c.args.ways.now c.requires.ways c.args.far.now
    c.in_ok-places.places c.in_ok-places.ensures.layout c.starts-2.result.now c.starts-2.ensures
    c.widen_grown-round.new.far c.widen_grown-round.result c.requires.room c.widen_grown-round.ensures
