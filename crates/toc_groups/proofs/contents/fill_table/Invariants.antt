use Rattle.std.proofs.Common.{◌≡◌, ◌-◌}
use Rattle.elf64_records.specs.First.{first_from}
use Rattle.elf64_records.specs.Records.{record_count}
use Rattle.object_set.specs.Files.{file_at}
use Rattle.toc_groups.specs.inside.Filled.{AreFilled, entry_overflow, table_overflow}
use Rattle.toc_groups.specs.inside.Memory.{byte_of}
use Rattle.toc_groups.proofs.contents.fill_table.Given as goal

-- the fields of the first records are filled, and what is left has the first overflow
abbrev pub invariant-loop-entry : goal.invariant-loop-entry
invariant-loop-entry l = record {
  ends : l.memory.ends ≡ l.plan.ends;
  filled : AreFilled l.res.files l.plan.span l.text.sections l.file l.table l.entry (byte_of l.memory);
  left : first_from (entry_overflow l.res.files l.plan.span l.text.sections l.file l.table) l.entry
      (record_count (file_at l.res.files l.file) l.table - l.entry)
      ≡ table_overflow l.res.files l.plan.span l.text.sections l.file l.table;
}
