-- look_at_all-requires and look_at_grown-requires: the set has room for every key, and the ways are those of the text. loop-round-init and
-- loop-round-preserved: one more round. The clauses of ticks: each placement but the last was followed by a new far key.
-- overflow_add-looks: there are fewer than 2^32 keys, and no more rounds. loop-round-smaller: the set has grown, or nothing was added.
-- accepted_layout-requires-clause-layout: where none was added, the places are those of the far set.
use Rattle.std.proofs.Common.{◌+◌, ◌∙◌, arith}
use Rattle.layout_rounds.specs.FarSets.{member}
use Rattle.layout_rounds.specs.Layout.{key_count}
use Rattle.layout_rounds.specs.Shapes.{keyed_text}
use Rattle.layout_rounds.proofs.Counting.{count_most}
use Rattle.layout_rounds.proofs.FarLayouts.{growing_start, settling_more, settling_done, few_far, few_keys, has_ways, count_at}
use Rattle.layout_rounds.proofs.settling.settle.Goals as goal

pub look_at_all-requires-clause-ways : goal.look_at_all-requires-clause-ways
look_at_all-requires-clause-ways g c =
    has_ways c.args.shape.now c.args.span c.in_ok-keyed.keyed c.in_ok-ways.ways.items c.deref.result.now c.in_ok-keyed.ensures
    c.in_ok-ways.ensures c.deref.ensures.value

pub look_at_all-requires-clause-room : goal.look_at_all-requires-clause-room
look_at_all-requires-clause-room g c =
    c.in_ok-far.ensures.room ∙ count_at c.args.shape.now c.args.span c.in_ok-keyed.keyed c.in_ok-keyed.ensures

pub loop-round-init : goal.loop-round-init
loop-round-init g c =
    let shape = c.args.shape.now in
    let span = c.args.span in
    let room = c.in_ok-far.ensures.room ∙ count_at shape span c.in_ok-keyed.keyed c.in_ok-keyed.ensures in
    let start = growing_start shape span c.requires.sound c.requires.span c.in_ok-far.far c.args.steps.now room c.in_ok-far.ensures.empty in
    let first = c.in_ok-first.first in
    let looked = c.in_ok-first.ensures.looked in
    settling_more shape span c.requires.sound c.requires.span c.in_ok-far.far c.look_at_all.new.far first looked start.long start.within
    c.args.steps.now c.look_at_all.new.steps first.round.looks (omega (arith, c.in_ok-first.ensures.tick))
    (omega (arith, looked.round_is.most, few_keys shape span c.requires.sound))

pub look_at_grown-requires-clause-ways : goal.look_at_grown-requires-clause-ways
look_at_grown-requires-clause-ways g c =
    has_ways c.args.shape.now c.args.span c.in_ok-keyed.keyed c.in_ok-ways.ways.items c.deref-in-loop-round.result.now
    c.in_ok-keyed.ensures c.in_ok-ways.ensures c.deref-in-loop-round.ensures.value

pub returns-in_err-next-clause-ticks : goal.returns-in_err-next-clause-ticks
returns-in_err-next-clause-ticks g c =
    let so_far = c.loop-round.invariant in
    let few = few_far c.args.shape.now c.args.span c.loop-round.far in
    omega (arith, so_far.ticks, so_far.counted, c.loop-round-test.true, c.in_err-next.ensures.tick, few)

pub overflow_add-looks : goal.overflow_add-looks
overflow_add-looks g c =
    let so_far = c.loop-round.invariant in
    let few = few_keys c.args.shape.now c.args.span c.requires.sound in
    let far = count_most (member c.loop-round.far) (key_count (keyed_text c.args.shape.now c.args.span)) in
    omega (arith, so_far.few, so_far.counted, c.loop-round-test.true, far, few, c.in_ok-next.ensures.looked.round_is.most)

pub loop-round-smaller : goal.loop-round-smaller
loop-round-smaller g c =
    let far = count_most (member c.look_at_grown.new.far) (key_count (keyed_text c.args.shape.now c.args.span)) in
    omega (arith, c.in_ok-next.ensures.looked.round_is.counted, far, c.loop-round-test.true)

pub loop-round-preserved : goal.loop-round-preserved
loop-round-preserved g c =
    let shape = c.args.shape.now in
    let span = c.args.span in
    let so_far = c.loop-round.invariant in
    let next = c.in_ok-next.next in
    let looked = c.in_ok-next.ensures.looked in
    let few = few_keys shape span c.requires.sound in
    settling_more shape span c.requires.sound c.requires.span c.loop-round.far c.look_at_grown.new.far next looked so_far.long
    so_far.within c.args.steps.now c.look_at_grown.new.steps (c.loop-round.looks + next.round.looks)
    (omega (arith, so_far.ticks, so_far.counted, c.loop-round-test.true, c.in_ok-next.ensures.tick))
    (omega (arith, so_far.few, so_far.counted, c.loop-round-test.true, looked.round_is.most, few))

pub accepted_layout-requires-clause-layout : goal.accepted_layout-requires-clause-layout
accepted_layout-requires-clause-layout g c =
    settling_done c.args.shape.now c.args.span c.requires.sound c.requires.span c.in_ok-keyed.keyed c.loop-round.far c.loop-round.places
    c.loop-round.round c.args.steps.now c.loop-round.steps c.loop-round.looks c.in_ok-keyed.ensures c.loop-round.invariant
    (omega (arith, c.loop-round-test.false))

pub returns-clause-ticks : goal.returns-clause-ticks
returns-clause-ticks g c =
    let so_far = c.loop-round.invariant in
    omega (arith, so_far.ticks, few_far c.args.shape.now c.args.span so_far.near.old)
