use Rattle.std.proofs.Common.{◌≡◌, length}
use Rattle.std.specs.List.{All, flat_map}
use Rattle.elf64_records.specs.First.{first_in}
use Rattle.object_set.specs.Walks.{IsRecord}
use Rattle.placed_bytes.specs.Patches.{all_patched}
use Rattle.image_writer.specs.Records.{record_patch, record_patches, text_overflow_at, text_overflow}
use Rattle.image_writer.specs.Rewriting.{rewriting_of}
use Rattle.image_writer.proofs.records.put_records.Given as goal

-- what is left puts the rest, and has the first overflow
abbrev pub invariant-loop-id : goal.invariant-loop-id
invariant-loop-id l = record {
  records : All (IsRecord l.res.files) l.id-iterator;
  put : all_patched l.text
      (flat_map (record_patch l.res.files l.plan.span l.places.sections (rewriting_of l.res.files l.plan.span l.pairs) l.plan.text_start)
      l.id-iterator)
      ≡ all_patched l.initial.text
      (record_patches l.res.files l.plan.span l.places.sections (rewriting_of l.res.files l.plan.span l.pairs) l.plan.text_start);
  size : length l.text ≡ length l.initial.text;
  left : first_in (text_overflow_at l.res.files l.plan.span l.places.sections (rewriting_of l.res.files l.plan.span l.pairs)) l.id-iterator
      ≡ text_overflow l.res.files l.plan.span l.places.sections (rewriting_of l.res.files l.plan.span l.pairs);
}
