use Rattle.std.proofs.Common.{◌≡◌, ◌-◌, length}
use Rattle.ppc_archive.specs.inside.Spots.{members_left, IsPlace}
use Rattle.ppc_archive.proofs.member_list.MembersLeft.advance.Given as goal

-- as much is left as at first
abbrev pub invariant-loop-self : goal.invariant-loop-self
invariant-loop-self l =
    let m = l.self-inside in
    record {
      left : members_left m.bytes.now m.number (length m.bytes.now - m.number) ≡ l.fn.self;
      place : IsPlace m.bytes.now m.number m.spot;
    }

abbrev pub decreases-loop-self : goal.decreases-loop-self
decreases-loop-self l = length l.self-inside.bytes.now - l.self-inside.spot.at
