-- A header that is one leaves the rest, one that isn't is the first fault, and past the end nothing is left.
use Rattle.std.proofs.Common.{◌-◌, ◌≤◌, length, sym, ap, ◌∙◌, refl, arith}
use Rattle.elf64_records.specs.First.{first_from}
use Rattle.elf64_records.specs.laws.First.{walk_passes, walk_stops}
use Rattle.ppc_archive.specs.Archive.{Spot, spot, header_fault, archive_fault}
use Rattle.ppc_archive.specs.inside.Spots.{spot_of}
use Rattle.ppc_archive.proofs.Headers.{first_spot, later_spot, header_passes, header_fails, moves_on, count_more, none_left, members_whole}
use Rattle.ppc_archive.proofs.archive.members.Goals as goal

pub loop-spot-init : goal.loop-spot-init
loop-spot-init c = record {
  spot = record { is = first_spot c.args.bytes.now; below = omega arith };
  left = ap (first_from (header_fault c.args.bytes.now) 0) (omega arith);
  count = refl;
  few = omega arith;
}

pub returns-in_default-clause-fault : goal.returns-in_default-clause-fault
returns-in_default-clause-fault c =
    let b = c.args.bytes.now in
    let k = c.loop-spot.number in
    let at = c.loop-spot.invariant.spot in
    let below = at.below in
    let fails = header_fails b k (spot_of c.loop-spot.spot) at.is c.loop-spot-test.true (sym c.in_default.ensures.header) in
    walk_stops (header_fault b) k (length b) (archive_fault b) c.loop-spot.spot.at (omega (arith, below)) c.loop-spot.invariant.left fails

pub loop-spot-smaller : goal.loop-spot-smaller
loop-spot-smaller c =
    let more = moves_on c.args.bytes.now (spot_of c.loop-spot.spot) (spot_of c.in-Some.header.next) c.in-Some.ensures.next in
    omega (arith, more)

pub loop-spot-preserved : goal.loop-spot-preserved
loop-spot-preserved c =
    let b = c.args.bytes.now in
    let k = c.loop-spot.number in
    let s = spot_of c.loop-spot.spot in
    let inv = c.loop-spot.invariant in
    let below = inv.spot.below in
    let more = moves_on b s (spot_of c.in-Some.header.next) c.in-Some.ensures.next in
    let passes = header_passes b k s inv.spot.is (sym c.in-Some.ensures.header) in
    let few = inv.few in
    let one = c.member_count-count.ensures.few in
    record {
      spot = record {
        is = later_spot b k s (spot_of c.in-Some.header.next) inv.spot.is c.in-Some.ensures.next;
        below =
            omega (arith, below, more);
      };
      left = walk_passes (header_fault b) k (length b) (archive_fault b) (omega (arith, below)) inv.left passes;
      count = count_more b k s c.loop-spot.count inv.spot.is inv.count c.member_count-count.result
          (c.member_count-count.ensures.count ∙ ap length c.in-Some.ensures.member);
      few = omega (arith, few, one);
    }

pub of-requires : goal.of-requires
of-requires c =
    let b = c.args.bytes.now in
    let k = c.loop-spot.number in
    let inv = c.loop-spot.invariant in
    let place = ap (λ (t : Spot). t.at) inv.spot.is in
    let past : length b ≤ (spot b k).at = (let over = c.loop-spot-test.false in omega (arith, over, place)) in
    record {
      whole = sym inv.left ∙ none_left b k (length b - k) past;
      short = c.requires.short;
      count_is = inv.count ∙ ap length (members_whole b k past);
    }

pub returns-clause-fault : goal.returns-clause-fault
returns-clause-fault c =
    let b = c.args.bytes.now in
    let k = c.loop-spot.number in
    let inv = c.loop-spot.invariant in
    let place = ap (λ (t : Spot). t.at) inv.spot.is in
    let past : length b ≤ (spot b k).at = (let over = c.loop-spot-test.false in omega (arith, over, place)) in
    sym inv.left ∙ none_left b k (length b - k) past
