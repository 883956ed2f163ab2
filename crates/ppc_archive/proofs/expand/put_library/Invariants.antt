use Rattle.std.proofs.Common.{◌≡◌, ◌+◌, ◌++◌, length}
use Rattle.std.specs.Prelude.{filter, map}
use Rattle.ppc_archive.specs.Choice.{flagged}
use Rattle.ppc_archive.specs.Expand.{named_file, named_files, named_member, is_candidate, candidates_in, kept_from}
use Rattle.ppc_archive.proofs.expand.put_library.Given as goal

-- those that are left follow the job so far
abbrev pub invariant-loop-member : goal.invariant-loop-member
invariant-loop-member l =
    let f = named_file l.library in
    record {
      job : named_files l.job.items ++ map (named_member f.name)
          (kept_from (flagged l.flags) l.number (filter is_candidate l.member-iterator))
          ≡ named_files l.fn.job.items ++ map (named_member f.name) (kept_from (flagged l.flags) l.first (candidates_in f));
      count : l.number + length (filter is_candidate l.member-iterator) ≡ l.first + length (candidates_in f);
    }
