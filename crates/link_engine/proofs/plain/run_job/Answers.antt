use Rattle.std.proofs.Common.{ap}
use Rattle.object_set.specs.declared.places.SectionId.{SectionId}
use Rattle.link_engine.proofs.Entered.{no_record}
use Rattle.link_engine.proofs.FixedFields.{fixed_hold}
use Rattle.link_engine.proofs.PlainEnds.{low_sections, plain_end}
use Rattle.link_engine.proofs.plain.run_job.Goals as goal

-- the job that is run, of which fields that are filled wherever text lies hold their values
pub start-requires-clause-job : goal.start-requires-clause-job
start-requires-clause-job c =
    let files = c.args.res.now.files in
    let job = c.args.job in
    let is = c.requires.whole in
    let settled = job.settled in
    let whole = c.requires.resolved.whole in
    let records = no_record files c.args.options.now.entry c.requires.resolved.passes in
    record {
      whole = whole;
      records = records;
      plan_is = is.stands.plan_is;
      sites_are = is.stands.sites_are;
      folds_are = is.folds_are;
      pairs_are = is.laid.pairs_are;
      fixed = fixed_hold files job.plan is.stands.plan_is whole records settled.places.sections job.pairs is.fits
          (low_sections files job.plan settled.keyed settled.far settled.places c.text_is_placed.ensures.placed)
          c.tests_are_the_table.ensures;
    }

-- what its run came to
pub returns : goal.returns
returns c = record {
  refused = tt;
  end = plain_end c.args.res.now c.args.options.now c.args.job c.requires.resolved c.requires.whole c.in_ok-plain.plain
      c.in_ok-plain.ensures c.args.budget c.args.world.now c.run-outcome.new.world c.run-outcome.new.self _ c.run-outcome.ensures.answers
      c.in_default.not-Memory c.into_events.ensures (ap (λ (s : SectionId). s.file) c.section_left-file.ensures)
      (ap (λ (s : SectionId). s.section) c.section_left-file.ensures);
}
