-- ends_of-requires: keys are numbered as they come. index-requires: each key has ends. way_of-requires: a key's group and place are
-- there, and so are its first and its last call. loop-k-preserved: one more way. returns: all of them.
use Rattle.std.proofs.Common.{◌≡◌, ◌<◌, ◌∙◌, ap, sym, subst, arith, List, length}
use Rattle.std.proofs.lemmas.List.{get_or_read}
use Rattle.stub_kinds.specs.declared.class.Key.{Key}
use Rattle.layout_rounds.specs.declared.near.Ends.{Ends}
use Rattle.layout_rounds.specs.declared.near.Way.{Way}
use Rattle.layout_rounds.specs.declared.shape.ShapeSite.{ShapeSite}
use Rattle.layout_rounds.specs.Shapes.{IsInText}
use Rattle.layout_rounds.specs.Layout.{key_count, group_count}
use Rattle.layout_rounds.specs.inside.Ways.{no_ends, ends_at, spot_in, way_by, AreEndsIn, IsWay}
use Rattle.layout_rounds.proofs.Bounds.{key_counted}
use Rattle.layout_rounds.proofs.Called.{calls_at}
use Rattle.layout_rounds.proofs.CallEnds.{numbers_in_order, key_ends, ends_in}
use Rattle.layout_rounds.proofs.WaysStand.{ways_more, way_is}
use Rattle.layout_rounds.proofs.near.ways_of.Goals as goal

pub ends_of-requires : goal.ends_of-requires
ends_of-requires c =
    numbers_in_order c.args.shape.now c.args.span c.args.keyed.now c.numbers.result.now c.requires.keyed c.numbers.ensures

pub loop-k-init : goal.loop-k-init
loop-k-init c = record {
  count = ap (λ (xs : List Way). length xs) c.new-ways.ensures.items;
  each = λ k lt. absurd (omega (arith, lt));
}

pub index-requires : goal.index-requires
index-requires c =
    let ends = key_ends c.args.shape.now c.args.span c.args.keyed.now c.numbers.result.now c.in_ok-ends.ends.items
    c.requires.keyed c.numbers.ensures c.in_ok-ends.ensures in
    omega (arith, ends.count, c.loop-k-test.true, c.key_count-k-end.ensures.count, c.in_ok-ends.ends.ok.0)

pub way_of-requires-clause-text : goal.way_of-requires-clause-text
way_of-requires-clause-text c =
    (calls_at c.args.shape.now c.args.span c.args.keyed.now c.requires.sound c.requires.keyed).keyed

pub way_of-requires-clause-group : goal.way_of-requires-clause-group
way_of-requires-clause-group c =
    let t = c.args.keyed.now in
    let calls = calls_at c.args.shape.now c.args.span t c.requires.sound c.requires.keyed in
    let lt : c.loop-k.k < key_count t = omega (arith, c.loop-k-test.true, c.key_count-k-end.ensures.count) in
    subst (λ (x : Key). x.group < group_count t) (sym c.key-key.ensures.key) (key_counted t calls.keyed c.loop-k.k lt)

pub way_of-requires-clause-place : goal.way_of-requires-clause-place
way_of-requires-clause-place c =
    let t = c.args.keyed.now in
    let calls = calls_at c.args.shape.now c.args.span t c.requires.sound c.requires.keyed in
    let lt : c.loop-k.k < key_count t = omega (arith, c.loop-k-test.true, c.key_count-k-end.ensures.count) in
    subst (λ (x : Key). IsInText t.sections x.section x.offset) (sym c.key-key.ensures.key)
    (calls.keyed.keys c.loop-k.k lt).place

pub way_of-requires-clause-calls : goal.way_of-requires-clause-calls
way_of-requires-clause-calls c =
    let t = c.args.keyed.now in
    let sites = c.args.shape.now.sites.items in
    let k = c.loop-k.k in
    let calls = calls_at c.args.shape.now c.args.span t c.requires.sound c.requires.keyed in
    let lt : k < key_count t = omega (arith, c.loop-k-test.true, c.key_count-k-end.ensures.count) in
    let ends = key_ends c.args.shape.now c.args.span t c.numbers.result.now c.in_ok-ends.ends.items
    c.requires.keyed c.numbers.ensures c.in_ok-ends.ensures in
    let read : c.index.result.now ≡ ends_at c.in_ok-ends.ends.items k =
    get_or_read c.in_ok-ends.ends.items k c.index.result.now (omega (arith, lt, ends.count)) c.index.ensures no_ends in
    subst (λ (e : Ends). AreEndsIn t c.deref.result.now e) (sym read)
    (subst (λ (xs : List ShapeSite). AreEndsIn t xs (ends_at c.in_ok-ends.ends.items k)) (sym c.deref.ensures.value)
    (ends_in t sites k (ends_at c.in_ok-ends.ends.items k) calls (ends.each k lt)))

pub loop-k-preserved : goal.loop-k-preserved
loop-k-preserved c =
    let t = c.args.keyed.now in
    let sites = c.args.shape.now.sites.items in
    let span = c.args.span in
    let k = c.loop-k.k in
    let key = c.key-key.result in
    let calls = calls_at c.args.shape.now span t c.requires.sound c.requires.keyed in
    let lt : k < key_count t = omega (arith, c.loop-k-test.true, c.key_count-k-end.ensures.count) in
    let ends = key_ends c.args.shape.now span t c.numbers.result.now c.in_ok-ends.ends.items
    c.requires.keyed c.numbers.ensures c.in_ok-ends.ensures in
    let here = ends_at c.in_ok-ends.ends.items k in
    let read : c.index.result.now ≡ here =
    get_or_read c.in_ok-ends.ends.items k c.index.result.now (omega (arith, lt, ends.count)) c.index.ensures no_ends in
    let way =
    c.way_of.ensures
    ∙ ap (λ (xs : List ShapeSite). way_by t xs key.class key.group c.index.result.now
    (spot_in t key.section key.offset)) c.deref.ensures.value
    ∙ ap (λ (e : Ends). way_by t sites key.class key.group e (spot_in t key.section key.offset)) read
    ∙ ap (λ (x : Key). way_by t sites x.class x.group here (spot_in t x.section x.offset)) c.key-key.ensures.key in
    ways_more t sites span k c.loop-k.ways.items c.push.new.self.items c.way_of.result c.loop-k.invariant
    (subst (λ (w : Way). IsWay t sites span k w) (sym way)
    (way_is t sites calls c.requires.sound.ordered k here lt (ends.each k lt) span
    (omega (arith, c.requires.span.least))))
    c.in_ok-push.ensures.items

pub returns : goal.returns
returns c =
    let end : c.loop-k.k ≡ key_count c.args.keyed.now =
    omega (arith, c.loop-k-test.false, c.loop-k.auto.k-end, c.key_count-k-end.ensures.count) in
    record {
      count = omega (arith, c.loop-k.invariant.count, end);
      each = λ k lt. c.loop-k.invariant.each k (omega (arith, lt, end));
    }
