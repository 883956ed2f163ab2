use Rattle.std.proofs.Common.{◌≡◌, ◌+◌, ◌-◌, ℕ, ap, sym, ◌∙◌, refl, arith, rules, to_z, of_z, w64}
use Rattle.layout_rounds.specs.FarSets.{member}
use Rattle.image_writer.specs.Calls.{call_at, call_patch, call_number, displacement, call_address}
use Rattle.image_writer.proofs.Patching.{next_patches}
use Rattle.image_writer.proofs.Calling.{number_next, same_call}
use Rattle.image_writer.proofs.calls.put_calls.Goals as goal

-- one more call
pub loop-site-preserved : goal.loop-site-preserved
loop-site-preserved c =
    let files = c.args.res.now.files in
    let bases = c.args.plan.now.bases in
    let settled = c.args.settled.now in
    let far = member settled.far in
    let sites = c.args.sites.now in
    let i = c.loop-site.site-index in
    let f = call_patch files bases settled.keyed far settled.places c.args.plan.now.text_start sites in
    let n = c.loop-site.n in
    let site = call_at sites i in
    let d = c.displacement-displacement.result in
    let at = ap (λ (a : ℕ). a + site.offset - c.text_start.result) c.section_at.ensures
    ∙ ap (λ (a : ℕ). call_address files bases settled.keyed far settled.places site - a) c.text_start.ensures in
    let far_as = c.displacement-displacement.ensures
    ∙ ap (λ (m : ℕ). displacement files bases settled.keyed far settled.places site m) c.loop-site.invariant.number in
    let back : to_z w64 (of_z w64 d) ≡ d = search rules in
    let same = same_call c.loop-site.text (c.section_at.result + site.offset - c.text_start.result)
    (call_address files bases settled.keyed far settled.places site - c.args.plan.now.text_start) site site (to_z w64 (of_z w64 d))
    (displacement files bases settled.keyed far settled.places site (call_number sites i)) at refl (back ∙ far_as) in
    let next = number_next sites i c.loop-site-test.true in
    record {
      put = c.put_call.ensures.put ∙ same ∙ next_patches f c.args.text.now c.loop-site.text i c.loop-site.invariant.put;
      size = c.put_call.ensures.size ∙ c.loop-site.invariant.size;
      number = ap (λ (m : ℕ). m + c.classed_count-n.result) c.loop-site.invariant.number
          ∙ ap (λ (m : ℕ). call_number sites i + m) c.classed_count-n.ensures.count ∙ sym next;
      few = omega (arith, c.classed_count-n.ensures.few, c.loop-site.invariant.few);
    }
