use Rattle.std.proofs.Common.{◌≡◌, ◌-◌}
use Rattle.elf64_records.specs.First.{first_from}
use Rattle.elf64_records.specs.FileHeader.{e_shnum}
use Rattle.object_set.specs.Files.{file_at}
use Rattle.toc_groups.specs.inside.Filled.{AreFilled, table_overflow, file_overflow}
use Rattle.toc_groups.specs.inside.Memory.{byte_of}
use Rattle.toc_groups.proofs.contents.fill_file.Given as goal

-- the fields of the first sections' records are filled, and what is left has the first overflow
abbrev pub invariant-loop-table : goal.invariant-loop-table
invariant-loop-table l = record {
  ends : l.memory.ends ≡ l.plan.ends;
  filled : AreFilled l.res.files l.plan.span l.text.sections l.file l.table 0 (byte_of l.memory);
  left : first_from (table_overflow l.res.files l.plan.span l.text.sections l.file) l.table
      (e_shnum (file_at l.res.files l.file) - l.table)
      ≡ file_overflow l.res.files l.plan.span l.text.sections l.file;
}
