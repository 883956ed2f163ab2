use Rattle.std.proofs.Common.{◌≤◌, List, length, map, ap, sym, ◌∙◌, subst, arith}
use Rattle.std.proofs.lemmas.List.{take_all}
use Rattle.object_set.specs.declared.places.SectionId.{SectionId}
use Rattle.object_set.specs.Refusals.{set_refusal}
use Rattle.symbol_table.specs.Text.{text_sections}
use Rattle.layout_rounds.specs.Shapes.{AreSound}
use Rattle.image_writer.specs.JobShape.{section_shape}
use Rattle.image_writer.proofs.Shaping.{sections_sound}
use Rattle.image_writer.proofs.shape.shape_sections.Goals as goal

-- none of the files is refused, so each section has its alignment and size
pub returns-clause-sound : goal.returns-clause-sound
returns-clause-sound c =
    let files = c.args.res.now.files in
    let groups = c.args.groups.now in
    let past : length (text_sections files) ≤ c.loop-s.s =
    omega (arith, c.text_count-s-end.ensures, c.loop-s-test.false) in
    let all = c.loop-s.invariant
    ∙ ap (λ (l : List SectionId). map (section_shape files groups) l) (take_all c.loop-s.s (text_sections files) past) in
    let whole = ap set_refusal (sym c.set.ensures) ∙ c.file_count-files.ensures.whole in
    let few = c.text_count.ensures in
    subst AreSound (sym all)
    (sections_sound files groups whole (omega (arith, few, c.if-text_count-ge-SECTION_LIMIT.false)))
