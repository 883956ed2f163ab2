-- Why files with an entry are refused.
use Rattle.std.specs.Prelude.{ℕ, List, Option}
use Rattle.elf64_records.specs.First.{◌orelse◌}
use Rattle.object_set.specs.declared.refusal.Refusal.{Refusal}
use Rattle.symbol_table.specs.Candidates.{duplicate_refusal}
use Rattle.symbol_table.specs.Targets.{entry_refusal}
use Rattle.symbol_table.specs.Records.{records_refusal}

-- a name that is defined twice, then the entry, and then the first record that is refused
abbrev pub resolve_refusal : List (List ℕ) → List ℕ → Option Refusal
resolve_refusal files entry = duplicate_refusal files orelse entry_refusal files entry orelse records_refusal files
