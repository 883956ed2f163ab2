use Rattle.std.proofs.Common.{◌≡◌, ◌≤◌, length}
use Rattle.std.specs.List.{range_with_len, flat_map}
use Rattle.layout_rounds.specs.FarSets.{member}
use Rattle.placed_bytes.specs.Patches.{all_patched}
use Rattle.image_writer.specs.Calls.{call_patch, call_number}
use Rattle.image_writer.proofs.calls.put_calls.Given as goal

-- the calls so far are put, and those of them are counted that go somewhere
abbrev pub invariant-loop-site : goal.invariant-loop-site
invariant-loop-site l = record {
  put : l.text ≡ all_patched l.initial.text
      (flat_map
      (call_patch l.res.files l.plan.bases l.settled.keyed (member l.settled.far) l.settled.places l.plan.text_start l.sites)
      (range_with_len 0 l.site-index));
  size : length l.text ≡ length l.initial.text;
  number : l.n ≡ call_number l.sites l.site-index;
  few : l.n ≤ l.site-index;
}
