-- loop-s-preserved: one more section is sound. returns: so is the shape.
use Rattle.std.proofs.Common.{ℕ, ◌≡◌, ◌<◌, ◌%◌, inl, inr, ap, sym, subst, arith, rules, length}
use Rattle.std.proofs.lemmas.List.{get_or_read}
use Rattle.layout_rounds.specs.Shapes.{section_of, no_section, IsSoundSection}
use Rattle.layout_rounds.proofs.Cases.{split}
use Rattle.layout_rounds.proofs.tests.sound.Goals as goal

pub loop-s-preserved : goal.loop-s-preserved
loop-s-preserved c =
    let sections = c.args.shape.sections.items in
    let n = c.loop-s.s in
    let within : n < length sections =
    omega (arith, c.loop-s-test.true, c.len-s-end.ensures, c.args.shape.sections.ok.0) in
    let read : c.index.result.now ≡ section_of sections n =
    get_or_read sections n c.index.result.now within c.index.ensures no_section in
    let this : IsSoundSection c.index.result.now = search rules in
    let here : IsSoundSection (section_of sections n) = subst IsSoundSection read this in
    λ s lt. elim (split s n lt) [
      | inl below ↦ c.loop-s.invariant s below
      | inr same ↦ subst (λ (j : ℕ). IsSoundSection (section_of sections j)) (sym same) here
    ]

pub returns : goal.returns
returns c =
    let start : c.args.shape.start ≡ 0x10000000 = omega (arith, c.if-shape-ne268435456.false) in
    let sections_end : c.loop-s.s ≡ length c.args.shape.sections.items =
    omega (arith, c.loop-s-test.false, c.loop-s.auto.s-end, c.len-s-end.ensures, c.args.shape.sections.ok.0) in
    let sites_end : c.loop-i.i ≡ length c.args.shape.sites.items =
    omega (arith, c.loop-i-test.false, c.loop-i.auto.i-end, c.len-i-end.ensures, c.args.shape.sites.ok.0) in
    record {
      start_whole = ap (λ (n : ℕ). n % 0x10000) start;
      start_low = omega (arith, start);
      sections = record {
        few = omega (arith, c.len.ensures, c.if-len-gt1000.false, c.args.shape.sections.ok.0);
        each = λ s lt. c.loop-s.invariant s (omega (arith, lt, sections_end));
      };
      few_sites = omega (arith, c.len-else-len-gt1000.ensures, c.if-len-gt1000-2.false, c.args.shape.sites.ok.0);
      from = λ i lt. (c.loop-i.invariant i (omega (arith, lt, sites_end))).from;
      to = λ i lt. (c.loop-i.invariant i (omega (arith, lt, sites_end))).to;
      ordered = λ i lt. (c.loop-i.invariant i (omega (arith, lt, sites_end))).ordered lt;
    }
