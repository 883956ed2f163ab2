-- is_out-requires: the call is there. returns-then-is_out: it is the first that is out. loop-i-preserved: one more call isn't. returns:
-- none is.
use Rattle.std.proofs.Common.{ℕ, ◌≡◌, ◌<◌, ◌∙◌, inl, inr, ap, sym, arith, length}
use Rattle.layout_rounds.specs.FarSets.{member}
use Rattle.layout_rounds.specs.Shapes.{KeyedText, keyed_text}
use Rattle.layout_rounds.specs.Settled.{is_out}
use Rattle.layout_rounds.proofs.Cases.{split}
use Rattle.layout_rounds.proofs.StubsOut.{find_none, find_first}
use Rattle.layout_rounds.proofs.settling.stub_reach.Goals as goal

pub loop-i-init : goal.loop-i-init
loop-i-init c = λ j lt. absurd (omega (arith, lt))

pub returns-then-is_out : goal.returns-then-is_out
returns-then-is_out c =
    let shape = c.args.shape.now in
    let s = c.args.settled.now in
    let sites = shape.sites.items in
    let F = member s.far in
    let t = keyed_text shape c.args.span in
    let i = c.loop-i.i in
    let lt : i < length sites = omega (arith, c.loop-i-test.true, c.len-i-end.ensures, shape.sites.ok.0) in
    let same : (j : ℕ) → is_out t sites F c.args.span j ≡ is_out s.keyed sites F c.args.span j =
    λ j. ap (λ (x : KeyedText). is_out x sites F c.args.span j) (sym c.requires.layout.keyed_is) in
    sym (find_first (is_out t sites F c.args.span) (length sites) 0 i (omega arith) (omega (arith, lt))
    (same i ∙ sym c.is_out.ensures ∙ c.if-is_out.true)
    (λ j le below. same j ∙ c.loop-i.invariant j below))

pub loop-i-preserved : goal.loop-i-preserved
loop-i-preserved c =
    let s = c.args.settled.now in
    let sites = c.args.shape.now.sites.items in
    λ j lt. elim (split j c.loop-i.i lt) [
      | inl before ↦ c.loop-i.invariant j before
      | inr here ↦ ap (is_out s.keyed sites (member s.far) c.args.span) here ∙ sym c.is_out.ensures ∙ c.if-is_out.false
    ]

pub returns : goal.returns
returns c =
    let shape = c.args.shape.now in
    let s = c.args.settled.now in
    let sites = shape.sites.items in
    let F = member s.far in
    let t = keyed_text shape c.args.span in
    let end : c.loop-i.i ≡ length sites =
    omega (arith, c.loop-i-test.false, c.loop-i.auto.i-end, c.len-i-end.ensures, shape.sites.ok.0) in
    sym (find_none (is_out t sites F c.args.span) (length sites) 0 (λ j le lt.
    ap (λ (x : KeyedText). is_out x sites F c.args.span j) (sym c.requires.layout.keyed_is)
    ∙ c.loop-i.invariant j (omega (arith, lt, end))))
