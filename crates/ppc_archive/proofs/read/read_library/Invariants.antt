use Rattle.std.proofs.Common.{◌≡◌, ◌++◌}
use Rattle.std.specs.Prelude.{filter}
use Rattle.elf64_records.specs.First.{first_in}
use Rattle.ppc_archive.specs.Expand.{named_file, is_candidate, candidate_refusal, candidates_in}
use Rattle.ppc_archive.specs.inside.Reading.{bytes_of}
use Rattle.ppc_archive.proofs.read.read_library.Given as goal

-- the members that are left are refused as all are, and their candidates follow those that were taken in
abbrev pub invariant-loop-member : goal.invariant-loop-member
invariant-loop-member l =
    let f = named_file l.file in
    record {
      left : first_in (candidate_refusal l.number f) (filter is_candidate l.member-iterator) ≡ first_in
          (candidate_refusal l.number f) (candidates_in f);
      more : l.candidates.items ++ bytes_of (filter is_candidate l.member-iterator) ≡ l.fn.candidates.items ++ bytes_of (candidates_in f);
    }
