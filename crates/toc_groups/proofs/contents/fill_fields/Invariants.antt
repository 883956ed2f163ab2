use Rattle.std.proofs.Common.{◌≡◌, ◌-◌, length}
use Rattle.elf64_records.specs.First.{first_from}
use Rattle.toc_groups.specs.Values.{data_overflow}
use Rattle.toc_groups.specs.inside.Filled.{AreFilled, file_overflow}
use Rattle.toc_groups.specs.inside.Memory.{byte_of}
use Rattle.toc_groups.proofs.contents.fill_fields.Given as goal

-- the fields of the first files' records are filled, and what is left has the first overflow
abbrev pub invariant-loop-file : goal.invariant-loop-file
invariant-loop-file l = record {
  ends : l.memory.ends ≡ l.plan.ends;
  filled : AreFilled l.res.files l.plan.span l.text.sections l.file 0 0 (byte_of l.memory);
  left : first_from (file_overflow l.res.files l.plan.span l.text.sections) l.file (length l.res.files - l.file)
      ≡ data_overflow l.res.files l.plan.span l.text.sections;
}
