use Rattle.std.proofs.Common.{List, length, ap, sym, ◌∙◌, arith}
use Rattle.std.proofs.lemmas.List.{length-map}
use Rattle.std.proofs.lemmas.List.FromFn.{length-range_with_len}
use Rattle.std.specs.List.{range_with_len}
use Rattle.object_set.specs.Refusals.{set_refusal}
use Rattle.layout_rounds.specs.declared.shape.ShapeSite.{ShapeSite}
use Rattle.toc_groups.specs.Groups.{group_number}
use Rattle.image_writer.proofs.Sited.{sites_few}
use Rattle.image_writer.proofs.SoundShape.{shape_sound}
use Rattle.image_writer.proofs.layout.sound_shape.Goals as goal

-- the plan has a group for each file
pub shape_of-requires : goal.shape_of-requires
shape_of-requires c =
    let files = c.args.res.now.files in
    let plan = c.args.plan.now in
    ap (λ l. length l) c.requires.calls.plan_is.groups
    ∙ length-map (range_with_len 0 (length files)) (group_number files plan.span)
    ∙ length-range_with_len 0 (length files)

-- none of the files is refused, and their data are placed
pub returns-clause-sound : goal.returns-clause-sound
returns-clause-sound c =
    let files = c.args.res.now.files in
    let plan = c.args.plan.now in
    let whole = ap set_refusal (sym c.set.ensures) ∙ c.file_count-files.ensures.whole in
    shape_sound files plan c.args.sites.now c.in_ok-shape.shape whole c.requires.calls
    (c.data_is_placed.ensures files plan.span whole c.requires.calls.plan_is.fits)
    (record { start = c.in_ok-shape.ensures.start; sections = c.in_ok-shape.ensures.sections; sites_are = c.in_ok-shape.ensures.sites })
    c.in_ok-shape.ensures.sound

-- the shape has no more calls than the job
pub returns-clause-few : goal.returns-clause-few
returns-clause-few c =
    let few = sites_few c.args.sites.now in
    let count = ap (λ (l : List ShapeSite). length l) c.in_ok-shape.ensures.sites in
    omega (arith, few, count)
