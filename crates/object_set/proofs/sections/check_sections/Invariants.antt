use Rattle.std.proofs.Common.{◌≡◌, ◌-◌}
use Rattle.elf64_records.specs.First.{first_from}
use Rattle.elf64_records.specs.FileHeader.{e_shnum}
use Rattle.object_set.specs.Sections.{section_refusal}
use Rattle.object_set.specs.Refusals.{sections_refusal}
use Rattle.object_set.proofs.sections.check_sections.Given as goal

-- what is left refuses as all does
abbrev pub invariant-loop-i : goal.invariant-loop-i
invariant-loop-i l = first_from (section_refusal l.file l.view) l.i (e_shnum l.view - l.i) ≡ sections_refusal l.file l.view
