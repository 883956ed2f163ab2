-- A header with no member is passed; what is left is the first member and the rest.
use Rattle.std.proofs.Common.{◌≡◌, ◌≤◌, List, ◌+◌, ◌-◌, ◌++◌, [], length, Option, ap, sym, ◌∙◌, arith}
use Rattle.ppc_archive.specs.declared.library_member.Member.{Member}
use Rattle.ppc_archive.specs.Archive.{Spot, spot, MemberFacts}
use Rattle.ppc_archive.specs.inside.Spots.{facts_if, members_left, spot_of}
use Rattle.ppc_archive.proofs.Headers.{later_spot, moves_on, left_step, no_members_left, whole_header}
use Rattle.ppc_archive.proofs.member_list.MembersLeft.advance.Goals as goal

pub returns-in_err-header : goal.returns-in_err-header
returns-in_err-header c =
    let m = c.loop-self.self-inside in
    let place = c.loop-self.invariant.place in
    let is = whole_header m.bytes.now m.number (spot_of m.spot) place.whole place.spot_is.is c.loop-self-test.true place.spot_is.below in
    let not_one = c.in_err-header.ensures.header in
    absurd (let both = not_one ∙ is in cc)

pub invariant_of-self-in-Some : goal.invariant_of-self-in-Some
invariant_of-self-in-Some c =
    let m = c.loop-self.self-inside in
    let place = c.loop-self.invariant.place in
    let next = c.in_ok-header.ensures.next in
    let more = moves_on m.bytes.now (spot_of m.spot) (spot_of c.in_ok-header.header.next) next in
    let below = place.spot_is.below in
    record {
      whole = place.whole;
      short = place.short;
      spot_is = record {
        is = later_spot m.bytes.now m.number (spot_of m.spot) (spot_of c.in_ok-header.header.next) place.spot_is.is next;
        below = omega (arith, below, more);
      };
    }

pub loop-self-smaller : goal.loop-self-smaller
loop-self-smaller c =
    let m = c.loop-self.self-inside in
    let more = moves_on m.bytes.now (spot_of m.spot) (spot_of c.in_ok-header.header.next) c.in_ok-header.ensures.next in
    omega (arith, more)

pub loop-self-preserved : goal.loop-self-preserved
loop-self-preserved c =
    let m = c.loop-self.self-inside in
    let place = c.loop-self.invariant.place in
    let next = c.in_ok-header.ensures.next in
    let more = moves_on m.bytes.now (spot_of m.spot) (spot_of c.in_ok-header.header.next) next in
    let below = place.spot_is.below in
    let within = c.loop-self-test.true in
    let step = left_step m.bytes.now m.number (spot_of m.spot) (facts_if c.in_ok-header.header.member) place.spot_is.is
    c.in_ok-header.ensures.member (omega (arith, below, within)) in
    let none : facts_if c.in_ok-header.header.member ≡ [] = ap facts_if c.in_default.is in
    record {
      left = sym (step ∙ ap (λ (l : List MemberFacts). l ++ members_left m.bytes.now (m.number + 1)
          (length m.bytes.now - (m.number + 1))) none)
          ∙ c.loop-self.invariant.left;
      place = record {
        whole = place.whole;
        short = place.short;
        spot_is = record {
          is = later_spot m.bytes.now m.number (spot_of m.spot) (spot_of c.in_ok-header.header.next) place.spot_is.is next;
          below = omega (arith, below, more);
        };
      };
    }

pub returns : goal.returns
returns c =
    let m = c.loop-self.self-inside in
    let place = ap (λ (t : Spot). t.at) c.loop-self.invariant.place.spot_is.is in
    let over = c.loop-self-test.false in
    let past : length m.bytes.now ≤ (spot m.bytes.now m.number).at = omega (arith, over, place) in
    let none = no_members_left m.bytes.now m.number (length m.bytes.now - m.number) past in
    (sym c.loop-self.invariant.left ∙ none, none)

pub returns-in-Some : goal.returns-in-Some
returns-in-Some c =
    let m = c.loop-self.self-inside in
    let place = c.loop-self.invariant.place in
    let below = place.spot_is.below in
    let within = c.loop-self-test.true in
    let step = left_step m.bytes.now m.number (spot_of m.spot) (facts_if c.in_ok-header.header.member) place.spot_is.is
    c.in_ok-header.ensures.member (omega (arith, below, within)) in
    sym c.loop-self.invariant.left ∙ step
    ∙ ap (λ (o : Option Member). facts_if o ++ members_left m.bytes.now (m.number + 1) (length m.bytes.now - (m.number + 1))) c.in-Some.is
