-- loop-ways-init: no key is far at first. look_at_all-requires: the set has room for every key, and the ways are those of the text.
-- overflow_add-looks: there are fewer than 2^32 keys, and no more rounds. The clauses of ticks: each placement but the last was followed
-- by a new far key. accepted_layout-requires-clause-layout: where none was added, the set is closed. loop-ways-smaller and
-- loop-ways-preserved: else it has grown, within every closed set.
use Rattle.std.proofs.Common.{◌+◌, ◌∙◌, refl, arith}
use Rattle.layout_rounds.specs.FarSets.{member}
use Rattle.layout_rounds.specs.Layout.{key_count}
use Rattle.layout_rounds.specs.Shapes.{keyed_text}
use Rattle.layout_rounds.proofs.Counting.{count_most}
use Rattle.layout_rounds.proofs.FarLayouts.{growing_start, growing_more, round_done, few_far, few_keys, has_ways, count_at}
use Rattle.layout_rounds.proofs.settling.settle_rounds.Goals as goal

pub loop-ways-init : goal.loop-ways-init
loop-ways-init g c =
    let shape = c.args.shape.now in
    let span = c.args.span in
    let room = c.in_ok-far.ensures.room ∙ count_at shape span c.in_ok-keyed.keyed c.in_ok-keyed.ensures in
    record {
      keyed_is = c.in_ok-keyed.ensures;
      grows = growing_start shape span c.requires.sound c.requires.span c.in_ok-far.far c.args.steps.now room c.in_ok-far.ensures.empty;
    }

pub look_at_all-requires-clause-ways : goal.look_at_all-requires-clause-ways
look_at_all-requires-clause-ways g c =
    let ways = has_ways c.args.shape.now c.args.span c.in_ok-keyed.keyed c.in_ok-ways.ways.items c.deref.result.now c.in_ok-keyed.ensures
    c.in_ok-ways.ensures c.deref.ensures.value in
    record { keyed_is = c.loop-ways.invariant.keyed_is; ways_are = ways.ways_are }

pub look_at_all-requires-clause-room : goal.look_at_all-requires-clause-room
look_at_all-requires-clause-room g c = c.loop-ways.invariant.grows.long

pub returns-in_err-looked-clause-ticks : goal.returns-in_err-looked-clause-ticks
returns-in_err-looked-clause-ticks g c =
    let few = few_far c.args.shape.now c.args.span c.loop-ways.far in
    omega (arith, c.loop-ways.invariant.grows.ticks, c.in_err-looked.ensures.tick, few)

pub overflow_add-looks : goal.overflow_add-looks
overflow_add-looks g c =
    let few = few_keys c.args.shape.now c.args.span c.requires.sound in
    let far = count_most (member c.loop-ways.far) (key_count (keyed_text c.args.shape.now c.args.span)) in
    omega (arith, c.loop-ways.invariant.grows.few, far, few, c.in_ok-looked.ensures.looked.round_is.most)

pub accepted_layout-requires-clause-layout : goal.accepted_layout-requires-clause-layout
accepted_layout-requires-clause-layout g c =
    let so_far = c.loop-ways.invariant in
    round_done c.args.shape.now c.args.span c.requires.sound c.requires.span c.loop-ways.far c.look_at_all.new.far c.in_ok-looked.looked
    c.in_ok-looked.ensures.looked so_far.grows.long so_far.grows.within c.loop-ways.keyed so_far.keyed_is c.if-looked-eq0.true

pub returns-then-looked-eq0-clause-ticks : goal.returns-then-looked-eq0-clause-ticks
returns-then-looked-eq0-clause-ticks g c =
    let few = few_far c.args.shape.now c.args.span c.loop-ways.far in
    omega (arith, c.loop-ways.invariant.grows.ticks, c.in_ok-looked.ensures.tick, few)

pub loop-ways-smaller : goal.loop-ways-smaller
loop-ways-smaller g c =
    let far = count_most (member c.look_at_all.new.far) (key_count (keyed_text c.args.shape.now c.args.span)) in
    omega (arith, c.in_ok-looked.ensures.looked.round_is.counted, far, c.if-looked-eq0.false)

pub loop-ways-preserved : goal.loop-ways-preserved
loop-ways-preserved g c =
    let so_far = c.loop-ways.invariant in
    let looked = c.in_ok-looked.looked in
    record {
      keyed_is = so_far.keyed_is;
      grows = growing_more c.args.shape.now c.args.span c.requires.sound c.requires.span c.loop-ways.far c.look_at_all.new.far looked
          c.in_ok-looked.ensures.looked so_far.grows.long so_far.grows.within c.args.steps.now c.loop-ways.steps c.loop-ways.looks
          c.look_at_all.new.steps (c.loop-ways.looks + looked.round.looks) so_far.grows c.in_ok-looked.ensures.tick refl
          c.if-looked-eq0.false;
    }
