use Rattle.std.proofs.Common.{◌+◌, ◌*◌, List, ℕ, length, get_or, ap, ◌∙◌, arith}
use Rattle.placed_bytes.specs.laws.Patched.{with_number-patched}
use Rattle.ppc_bytes.specs.laws.Places.{length-with_number}
use Rattle.image_writer.specs.Text.{word_patch}
use Rattle.image_writer.proofs.Patching.{next_patch}
use Rattle.image_writer.proofs.stubs.put_words.Goals as goal

-- one more word
pub loop-i-preserved : goal.loop-i-preserved
loop-i-preserved c =
    let at = c.args.at + 4 * c.loop-i.i in
    let word = get_or c.args.words.now c.loop-i.i 0 in
    record {
      put = c.put_word.ensures ∙ with_number-patched 4 c.loop-i.text at word
          ∙ next_patch (word_patch c.args.at c.args.words.now) c.args.text.now c.loop-i.text c.loop-i.i c.loop-i.invariant.put;
      size = ap (λ (l : List ℕ). length l) c.put_word.ensures ∙ length-with_number 4 c.loop-i.text at word (omega arith)
          ∙ c.loop-i.invariant.size;
    }
