use Rattle.std.proofs.Common.{◌≡◌, ℕ, List}
use Rattle.elf64_records.specs.First.{◌orelse◌, first_from}
use Rattle.ppc_archive.specs.inside.Givers.{provider_in, provider_at}
use Rattle.ppc_archive.proofs.names.note_candidates.Given as goal

-- the names of the first candidates are noted
abbrev pub invariant-loop-c : goal.invariant-loop-c
invariant-loop-c l = (other : List ℕ) → provider_in l.providers other
    ≡ provider_in l.fn.providers other orelse first_from (provider_at l.candidates other) 0 l.c
