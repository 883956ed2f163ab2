use Rattle.std.proofs.Common.{◌-◌, length, List, ℕ, ap, ◌∙◌, refl, arith}
use Rattle.placed_bytes.specs.Patches.{patched}
use Rattle.placed_bytes.specs.laws.Patched.{length-patched}
use Rattle.image_writer.specs.Text.{section_patch}
use Rattle.image_writer.proofs.Patching.{next_patch, same_patch}
use Rattle.image_writer.proofs.sections.put_sections.Goals as goal

-- one more section
pub loop-s-preserved : goal.loop-s-preserved
loop-s-preserved c =
    let f = section_patch c.args.res.now.files c.args.places.now.sections c.args.start in
    let at = ap (λ (a : ℕ). a - c.args.start) c.section_at.ensures in
    let is = same_patch (c.section_at.result - c.args.start) (f c.loop-s.s).at c.bytes_of.result.now (f c.loop-s.s).bytes at
    c.bytes_of.ensures (f c.loop-s.s) refl in
    let put = c.put_bytes.ensures ∙ ap (patched c.loop-s.text) is in
    let room = c.requires.to c.loop-s.s (omega arith) in
    record {
      put = put ∙ next_patch f c.args.text.now c.loop-s.text c.loop-s.s c.loop-s.invariant.put;
      size = ap (λ (l : List ℕ). length l) put ∙ length-patched c.loop-s.text (f c.loop-s.s) (omega (arith, room, c.loop-s.invariant.size))
          ∙ c.loop-s.invariant.size;
    }
