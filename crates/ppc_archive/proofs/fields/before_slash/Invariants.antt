use Rattle.std.proofs.Common.{◌≡◌, ◌++◌, take, drop}
use Rattle.std.specs.Option.{option_map}
use Rattle.ppc_archive.specs.Archive.{before_slash}
use Rattle.ppc_archive.proofs.fields.before_slash.Given as goal

-- the name goes on with that in the rest
abbrev pub invariant-loop-i : goal.invariant-loop-i
invariant-loop-i l = option_map (λ name. take l.i l.table ++ name) (before_slash (drop l.i l.table)) ≡ before_slash l.table
