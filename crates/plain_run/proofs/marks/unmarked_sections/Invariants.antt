use Rattle.std.proofs.Common.{◌≡◌, map, take}
use Rattle.symbol_table.specs.Text.{text_sections}
use Rattle.plain_run.specs.inside.Marks.{unmarked_section}
use Rattle.plain_run.proofs.marks.unmarked_sections.Given as goal

-- the first text sections are here
abbrev pub invariant-loop-number : goal.invariant-loop-number
invariant-loop-number l = l.sections.items ≡ map (unmarked_section l.res.files) (take l.number (text_sections l.res.files))
