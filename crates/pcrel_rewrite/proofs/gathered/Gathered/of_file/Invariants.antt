use Rattle.pcrel_rewrite.specs.inside.Joins.{Before}
use Rattle.pcrel_rewrite.specs.inside.Gathered.{Gathers, AskedIn, LoadedIn}
use Rattle.pcrel_rewrite.proofs.gathered.Gathered.of_file.Given as goal

-- what the records of the first sections ask for is taken in
abbrev pub invariant-loop-table : goal.invariant-loop-table
invariant-loop-table l =
    let files = l.resolved.files in
    Gathers (Before (AskedIn files l.file) l.table) (Before (LoadedIn files l.file) l.table) l.initial.gathered l.gathered
