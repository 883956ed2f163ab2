use Rattle.std.proofs.Common.{◌≡◌, map, take}
use Rattle.symbol_table.specs.Text.{text_sections}
use Rattle.image_writer.specs.JobShape.{section_shape}
use Rattle.image_writer.proofs.shape.shape_sections.Given as goal

-- the sections so far
abbrev pub invariant-loop-s : goal.invariant-loop-s
invariant-loop-s l = l.sections.items ≡ map (section_shape l.res.files l.groups) (take l.s (text_sections l.res.files))
