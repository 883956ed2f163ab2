use Rattle.std.proofs.Common.{◌≡◌, length}
use Rattle.std.specs.List.{range_with_len, flat_map}
use Rattle.layout_rounds.specs.FarSets.{member}
use Rattle.placed_bytes.specs.Patches.{all_patched}
use Rattle.image_writer.specs.Text.{stub_patch}
use Rattle.image_writer.proofs.stubs.put_stubs.Given as goal

-- the stubs so far are put
abbrev pub invariant-loop-k : goal.invariant-loop-k
invariant-loop-k l = record {
  put : l.text ≡ all_patched l.initial.text
      (flat_map (stub_patch l.res.files l.plan.bases l.settled.keyed (member l.settled.far) l.settled.places l.plan.text_start)
      (range_with_len 0 l.k));
  size : length l.text ≡ length l.initial.text;
}
