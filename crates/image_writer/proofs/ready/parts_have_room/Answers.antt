use Rattle.std.proofs.Common.{ap, sym, ◌∙◌}
use Rattle.object_set.specs.Refusals.{set_refusal}
use Rattle.image_writer.proofs.Bases.{bases_count, bases_low}
use Rattle.image_writer.proofs.Giving.{rooms}
use Rattle.image_writer.proofs.ready.parts_have_room.Goals as goal

-- a plan has a base for each file
pub returns-clause-bases : goal.returns-clause-bases
returns-clause-bases c = bases_count c.args.res.now.files c.args.plan.now c.requires.job.plan_is

-- which is low
pub returns-clause-low : goal.returns-clause-low
returns-clause-low c =
    let whole = ap set_refusal (sym c.set.ensures) ∙ c.file_count-files.ensures.whole in
    bases_low c.args.res.now.files c.args.plan.now c.requires.job.plan_is
    (c.data_is_placed.ensures c.args.res.now.files c.args.plan.now.span whole c.requires.job.data_fits)

-- by what the laws say of layouts
pub returns-clause-rooms : goal.returns-clause-rooms
returns-clause-rooms c =
    let settled = c.args.settled.now in
    let job = c.requires.job in
    let gives = c.layouts_give.ensures c.args.res.now.files c.args.plan.now c.args.sites.now settled.keyed settled.far settled.places job in
    let whole = ap set_refusal (sym c.set.ensures) ∙ c.file_count-files.ensures.whole in
    let placed = c.data_is_placed.ensures c.args.res.now.files c.args.plan.now.span whole job.data_fits in
    rooms c.args.res.now.files c.args.plan.now c.args.sites.now settled.keyed settled.far settled.places whole job gives
    (bases_low c.args.res.now.files c.args.plan.now job.plan_is placed) placed
