-- loop-i-init: no call has no ends. note-requires: a call's key is one that was seen, or the next. loop-i-preserved: one more call.
-- returns: all calls.
use Rattle.std.proofs.Common.{ℕ, ◌≡◌, ap, arith, subst, List, length}
use Rattle.layout_rounds.specs.declared.near.Ends.{Ends}
use Rattle.layout_rounds.specs.inside.Ways.{AreEnds}
use Rattle.layout_rounds.proofs.CallEnds.{ends_more}
use Rattle.layout_rounds.proofs.near.ends_of.Goals as goal

pub loop-i-init : goal.loop-i-init
loop-i-init c = record {
  count = ap (λ (xs : List Ends). length xs) c.new-ends.ensures.items;
  each = λ k lt. absurd (omega (arith, lt));
}

pub note-requires : goal.note-requires
note-requires c = omega (arith, c.requires c.loop-i.i c.loop-i-test.true, c.loop-i.invariant.count)

pub loop-i-preserved : goal.loop-i-preserved
loop-i-preserved c =
    ends_more c.args.numbers.now c.loop-i.i c.loop-i.ends.items c.note.new.ends.items c.loop-i.invariant
    (c.requires c.loop-i.i c.loop-i-test.true) c.in_ok-note.ensures

pub returns : goal.returns
returns c =
    let end : c.loop-i.i ≡ length c.args.numbers.now = omega (arith, c.loop-i-test.false, c.loop-i.auto.i-end) in
    subst (λ (n : ℕ). AreEnds c.args.numbers.now n c.loop-i.ends.items) end c.loop-i.invariant
