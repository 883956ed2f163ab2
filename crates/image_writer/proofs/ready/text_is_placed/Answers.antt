use Rattle.std.proofs.Common.{ap, sym, ◌∙◌, arith}
use Rattle.object_set.specs.Refusals.{set_refusal}
use Rattle.image_writer.proofs.ready.text_is_placed.Goals as goal

-- by what the layout gives, and by where data ends
pub returns-clause-placed : goal.returns-clause-placed
returns-clause-placed c =
    let job = c.requires in
    let rooms = c.parts_have_room.ensures.rooms in
    let whole = ap set_refusal (sym c.set.ensures) ∙ c.file_count-files.ensures.whole in
    let placed = c.data_is_placed.ensures c.args.res.now.files c.args.plan.now.span whole job.data_fits in
    record {
      far_count = rooms.far_count;
      start_low = omega (arith, placed.text_limit, job.plan_is.text_start);
      start = rooms.start;
      limit = omega (arith, job.within, job.shape_is.start);
      count = rooms.count;
      from = rooms.from;
      to = λ s within.
          let end = rooms.to s within in
          let from = rooms.from s within in
          let start = rooms.start in
          omega arith;
    }

pub returns-clause-of_files : goal.returns-clause-of_files
returns-clause-of_files c = record {
  plan_is = c.requires.plan_is;
  records = c.requires.records;
  texts = c.parts_have_room.ensures.rooms.count;
}
