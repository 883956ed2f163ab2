use Rattle.std.proofs.Common.{◌≡◌, ℕ, List, take}
use Rattle.std.specs.List.{list_any}
use Rattle.elf64_records.specs.First.{◌orelse◌, when}
use Rattle.ppc_archive.specs.declared.names.Provider.TheVariants.{Object}
use Rattle.ppc_archive.specs.Choice.{provides}
use Rattle.ppc_archive.specs.inside.Givers.{provider_in}
use Rattle.ppc_archive.proofs.names.note_objects.Given as goal

-- the names of the first objects are noted
abbrev pub invariant-loop-object : goal.invariant-loop-object
invariant-loop-object l = (other : List ℕ) → provider_in l.providers other
    ≡ provider_in l.fn.providers other orelse when (list_any (λ b. provides b other) (take l.object-index l.objects)) Object
