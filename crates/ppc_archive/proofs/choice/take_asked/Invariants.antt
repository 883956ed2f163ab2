use Rattle.std.proofs.Common.{◌≡◌}
use Rattle.ppc_archive.specs.Choice.{asks_at, names_where}
use Rattle.ppc_archive.specs.inside.Givers.{candidate_in, taken_all, chosen}
use Rattle.ppc_archive.proofs.choice.take_asked.Given as goal

-- what the first symbols ask for is chosen
abbrev pub invariant-loop-j : goal.invariant-loop-j
invariant-loop-j l = l.choice
    ≡ chosen l.fn.choice.total (taken_all (candidate_in l.providers) l.fn.choice.order (names_where (asks_at l.view) l.view l.j))
