use Rattle.std.proofs.Common.{◌≡◌, length, map}
use Rattle.std.specs.List.{range_with_len}
use Rattle.placed_bytes.specs.Patches.{all_patched}
use Rattle.image_writer.specs.Text.{word_patch}
use Rattle.image_writer.proofs.stubs.put_words.Given as goal

-- the words so far are put
abbrev pub invariant-loop-i : goal.invariant-loop-i
invariant-loop-i l = record {
  put : l.text ≡ all_patched l.initial.text (map (word_patch l.at l.words) (range_with_len 0 l.i));
  size : length l.text ≡ length l.initial.text;
}
