use Rattle.pcrel_rewrite.specs.inside.Joins.{Before}
use Rattle.pcrel_rewrite.specs.inside.Gathered.{Gathers, AskedAt, LoadedAt}
use Rattle.pcrel_rewrite.proofs.gathered.Gathered.add_records.Given as goal

-- what the first records ask for is taken in
abbrev pub invariant-loop-entry : goal.invariant-loop-entry
invariant-loop-entry l =
    let files = l.resolved.files in
    Gathers (Before (AskedAt files l.file l.table) l.entry) (Before (LoadedAt files l.file l.table) l.entry) l.initial.self l.self
