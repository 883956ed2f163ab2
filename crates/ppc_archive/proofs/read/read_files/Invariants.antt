use Rattle.std.proofs.Common.{◌≡◌, take, drop}
use Rattle.ppc_archive.specs.Expand.{named_files, fetched_refusals}
use Rattle.ppc_archive.specs.inside.Reading.{candidate_bytes, object_bytes}
use Rattle.ppc_archive.proofs.read.read_files.Given as goal

-- the first files are read, and what is left is refused as all are
abbrev pub invariant-loop-number : goal.invariant-loop-number
invariant-loop-number l = record {
  left : fetched_refusals l.number (named_files (drop l.number l.files)) ≡ fetched_refusals 0 (named_files l.files);
  objects : l.read.objects.items ≡ object_bytes (named_files (take l.number l.files));
  candidates : l.read.candidates.items ≡ candidate_bytes (named_files (take l.number l.files));
}
