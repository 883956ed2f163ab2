use Rattle.std.proofs.Common.{[]}
use Rattle.pcrel_rewrite.specs.inside.Joins.{Joins, Before}
use Rattle.pcrel_rewrite.specs.inside.Recognised.{IsRecognisedIn}
use Rattle.pcrel_rewrite.proofs.recognised.pairs.Given as goal

-- the recognised pairs of the first files are found
abbrev pub invariant-loop-file : goal.invariant-loop-file
invariant-loop-file l = Joins (Before (IsRecognisedIn l.resolved.files) l.file) [] l.found.items
