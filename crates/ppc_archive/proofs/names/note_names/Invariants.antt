use Rattle.std.proofs.Common.{◌≡◌, ℕ, List}
use Rattle.std.specs.List.{list_any}
use Rattle.std.specs.Str.{bytes_eq}
use Rattle.elf64_records.specs.First.{◌orelse◌, when}
use Rattle.ppc_archive.specs.Choice.{provides_at, names_where}
use Rattle.ppc_archive.specs.inside.Givers.{provider_in}
use Rattle.ppc_archive.proofs.names.note_names.Given as goal

-- the names of the first symbols are noted
abbrev pub invariant-loop-j : goal.invariant-loop-j
invariant-loop-j l = (other : List ℕ) → provider_in l.providers other
    ≡ provider_in l.fn.providers other orelse when (list_any (bytes_eq other) (names_where (provides_at l.view) l.view l.j)) l.provider
