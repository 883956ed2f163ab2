use Rattle.std.proofs.Common.{◌≡◌, ◌+◌, ◌++◌, length}
use Rattle.std.specs.List.{flat_map}
use Rattle.std.specs.Vec.Iter.{into_iter_items}
use Rattle.ppc_archive.specs.Choice.{flagged}
use Rattle.ppc_archive.specs.Expand.{named_files, candidates_in, expanded_from}
use Rattle.ppc_archive.specs.inside.Reading.{AreWhole}
use Rattle.ppc_archive.proofs.expand.expanded.Given as goal

-- what the files that are left become follows the job so far
abbrev pub invariant-loop-file : goal.invariant-loop-file
invariant-loop-file l =
    let rest = named_files (into_iter_items l.file-iterator) in
    record {
      job : named_files l.job.items ++ expanded_from (flagged l.flags) l.number rest ≡ expanded_from (flagged l.flags) 0
          (named_files l.fn.files.items);
      whole : AreWhole rest;
      count : l.number + length (flat_map candidates_in rest) ≡ length l.flags;
    }
