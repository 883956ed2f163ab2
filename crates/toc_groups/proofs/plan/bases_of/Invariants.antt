use Rattle.std.proofs.Common.{◌≡◌, map, take}
use Rattle.toc_groups.specs.inside.Laid.{base_at}
use Rattle.toc_groups.proofs.plan.bases_of.Given as goal

-- the bases of the first files
abbrev pub invariant-loop-number : goal.invariant-loop-number
invariant-loop-number l = l.bases.items ≡ map (base_at l.starts) (take l.number-index l.numbers)
