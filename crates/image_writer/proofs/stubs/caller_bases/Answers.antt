use Rattle.std.proofs.Common.{slice_index, ap, sym, ◌∙◌, arith}
use Rattle.std.proofs.lemmas.List.{length-set}
use Rattle.std.proofs.lemmas.Option.{get_or_from_slice_get}
use Rattle.object_set.specs.declared.places.SectionId.{SectionId}
use Rattle.layout_rounds.specs.FarSets.{member}
use Rattle.image_writer.proofs.Callers.{caller_here}
use Rattle.image_writer.proofs.stubs.caller_bases.Goals as goal

-- one more section tells the base of its group
pub loop-s-preserved : goal.loop-s-preserved
loop-s-preserved c =
    let bases = c.args.plan.now.bases in
    let base = sym (get_or_from_slice_get bases c.section_at.result.file c.base_of.result 0 c.base_of.ensures)
    ∙ ap (λ (s : SectionId). slice_index bases s.file) c.section_at.ensures.id in
    record {
      count = length-set c.loop-s.callers.items c.group_of.result c.base_of.result ∙ c.loop-s.invariant.count;
      each = λ g within.
          caller_here c.args.res.now.files bases c.args.settled.now.keyed (member c.args.settled.now.far) c.args.settled.now.places
          c.loop-s.s c.group_of.result c.base_of.result g c.loop-s.callers.items (omega (arith, within, c.loop-s.invariant.count))
          (c.loop-s.invariant.each g within) c.group_of.ensures.group base;
    }
