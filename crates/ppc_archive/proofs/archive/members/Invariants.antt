use Rattle.std.proofs.Common.{◌≡◌, ◌≤◌, ◌-◌, length}
use Rattle.elf64_records.specs.First.{first_from}
use Rattle.ppc_archive.specs.Archive.{header_fault, archive_fault, members_in}
use Rattle.ppc_archive.specs.inside.Spots.{IsSpot}
use Rattle.ppc_archive.proofs.archive.members.Given as goal

-- the first headers are headers, and what is left has the first fault of all
abbrev pub invariant-loop-spot : goal.invariant-loop-spot
invariant-loop-spot l = record {
  spot : IsSpot l.bytes l.number l.spot;
  left : first_from (header_fault l.bytes) l.number (length l.bytes - l.number) ≡ archive_fault l.bytes;
  count : l.count ≡ length (members_in l.bytes l.number);
  few : l.count ≤ l.number;
}

abbrev pub decreases-loop-spot : goal.decreases-loop-spot
decreases-loop-spot l = length l.bytes - l.spot.at
