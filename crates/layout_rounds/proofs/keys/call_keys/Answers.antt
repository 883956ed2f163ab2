-- loop-site-preserved: one more call. returns-clause-numbers: the numbers are those of all calls.
use Rattle.std.proofs.Common.{◌≡◌, arith, length}
use Rattle.layout_rounds.proofs.KeysUpto.{keyed_more, numbers_all}
use Rattle.layout_rounds.proofs.keys.call_keys.Goals as goal

pub loop-site-preserved : goal.loop-site-preserved
loop-site-preserved c =
    keyed_more c.args.spots.now c.args.sites.now c.loop-site.site-index c.loop-site.seen c.number.new.self
    c.loop-site.numbers.items c.push.new.self.items c.key_of.result c.in_ok-number.number c.loop-site.invariant
    c.key_of.ensures c.in_ok-number.ensures.keys c.in_ok-number.ensures.number c.in_ok-push.ensures.items

pub returns-clause-numbers : goal.returns-clause-numbers
returns-clause-numbers c =
    let end : c.loop-site.site-index ≡ length c.args.sites.now = omega arith in
    rw c.seen-2.view_is (numbers_all c.args.spots.now c.args.sites.now c.loop-site.seen c.loop-site.numbers.items
    (rw end at c.loop-site.invariant.numbers_are))
