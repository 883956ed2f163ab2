use Rattle.std.proofs.Common.{◌≡◌, ◌-◌}
use Rattle.elf64_records.specs.First.{first_from}
use Rattle.elf64_records.specs.Symbols.{symbol_count}
use Rattle.object_set.specs.Symbols.{symbol_refusal}
use Rattle.object_set.proofs.symbols.check_each.Given as goal

-- what is left refuses as all does
abbrev pub invariant-loop-j : goal.invariant-loop-j
invariant-loop-j l =
    first_from (symbol_refusal l.file l.view) l.j (symbol_count l.view - l.j)
    ≡ first_from (symbol_refusal l.file l.view) 1 (symbol_count l.view - 1)
