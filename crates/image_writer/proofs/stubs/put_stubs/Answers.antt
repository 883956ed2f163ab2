use Rattle.std.proofs.Common.{◌∙◌}
use Rattle.layout_rounds.specs.FarSets.{member}
use Rattle.image_writer.specs.Text.{stub_patch}
use Rattle.image_writer.proofs.Patching.{next_patches}
use Rattle.image_writer.proofs.stubs.put_stubs.Goals as goal

-- one more stub
pub loop-k-preserved : goal.loop-k-preserved
loop-k-preserved c =
    let settled = c.args.settled.now in
    let f = stub_patch c.args.res.now.files c.args.plan.now.bases settled.keyed (member settled.far) settled.places
    c.args.plan.now.text_start in
    record {
      put = c.put_stub.ensures.put ∙ next_patches f c.args.text.now c.loop-k.text c.loop-k.k c.loop-k.invariant.put;
      size = c.put_stub.ensures.size ∙ c.loop-k.invariant.size;
    }
