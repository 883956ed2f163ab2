use Rattle.std.proofs.Common.{◌≡◌, length, map}
use Rattle.std.specs.List.{range_with_len}
use Rattle.placed_bytes.specs.Patches.{all_patched}
use Rattle.image_writer.specs.Text.{section_patch}
use Rattle.image_writer.proofs.sections.put_sections.Given as goal

-- the sections so far are put
abbrev pub invariant-loop-s : goal.invariant-loop-s
invariant-loop-s l = record {
  put : l.text ≡ all_patched l.initial.text (map (section_patch l.res.files l.places.sections l.start) (range_with_len 0 l.s));
  size : length l.text ≡ length l.initial.text;
}
