-- What a plain run of a job came to, as the end of one of files.
use Rattle.std.proofs.Common.{Bool, ℕ, ◌≡◌, ◌≢◌, ◌<◌, ◌^◌, inl, inr, List, [], length, slice_index, Option, ap, sym, ◌∙◌, subst, refl, arith}
use Rattle.std.specs.Prelude.{drop}
use Rattle.std.proofs.lemmas.Bool.{cases_lt}
use Rattle.std.proofs.lemmas.List.{get_or_past}
use Rattle.elf64_exec.specs.declared.layout.Segment.{Segment}
use Rattle.symbol_table.specs.declared.target.CodePlace.{CodePlace}
use Rattle.symbol_table.specs.Resolved.{ResolvedFiles}
use Rattle.symbol_table.specs.Targets.{entry_place}
use Rattle.toc_groups.specs.Contents.{AreDataSegments}
use Rattle.toc_groups.specs.Plans.{LaidData}
use Rattle.layout_rounds.specs.Layout.{PlacedText}
use Rattle.layout_rounds.specs.Shapes.{KeyedText}
use Rattle.image_writer.specs.Job.{IsPlacedText}
use Rattle.image_writer.specs.LaidText.{layout_of}
use Rattle.image_writer.specs.Rewriting.{rewriting_of}
use Rattle.power_machine.specs.declared.world.Answer.{Answer}
use Rattle.power_machine.specs.declared.world.Event.{Event}
use Rattle.power_machine.specs.declared.world.World.{World}
use Rattle.power_machine.specs.Memory.{Permission}
use Rattle.power_machine.specs.Runs.{Going, Done, Gone, run_in}
use Rattle.power_machine.specs.Start.{start_ranges}
use Rattle.plain_machine.specs.Actions.{PlainRun, PlainProgress, guarded}
use Rattle.plain_machine.specs.Plain.{PlainState}
use Rattle.plain_machine.specs.inside.Machine.{machine_events, machine_ended}
use Rattle.plain_run.specs.declared.plain.Plain.{Plain}
use Rattle.plain_run.specs.declared.plain.PlainOutcome.{PlainOutcome}
use Rattle.plain_run.specs.declared.plain.PlainOutcome.TheVariants as ending
use Rattle.plain_run.specs.Data.{entry_place as place_of, plain_start}
use Rattle.plain_run.specs.Places.{toc_ranges}
use Rattle.plain_run.specs.Running.{job_of, run_of, may_of, IsPlainStart}
use Rattle.plain_run.specs.Runs.{ReachesIn, RunAnswers}
use Rattle.plain_run.specs.Jobs.{PlainJob}
use Rattle.link_engine.specs.declared.plain.PlainEnd.{PlainEnd}
use Rattle.link_engine.specs.declared.whole_job.WholeJob.{WholeJob}
use Rattle.link_engine.specs.Link.{overflow}
use Rattle.link_engine.specs.Options.{LinkOptions}
use Rattle.link_engine.specs.Plain.{plain_job, plain_may, plain_begun, outcome_of, section_left, IsPlainEnd}
use Rattle.link_engine.specs.inside.Writing.{IsResolved, IsWholeJob}
use Rattle.link_engine.proofs.LaidOut.{plan_is, laid_out}

-- text lies at low addresses
pub low_sections : (files : List (List ℕ)) (plan : LaidData) (t : KeyedText) (far : List Bool) (places : PlacedText) →
    IsPlacedText files plan t far places → (k : ℕ) → slice_index places.sections k < 2 ^ 32
low_sections files plan t far places placed k =
    elim (cases_lt k (length places.sections)) [
      | inl within ↦
          let to = placed.to k within in
          let limit = placed.limit in
          let start = placed.start_low in
          omega (arith, to, limit, start)
      | inr past ↦ let none = get_or_past places.sections k 0 past in omega (arith, none)
    ]

-- the progress of a run that answers
record HasReached (job : PlainJob) (may : Permission) (n : ℕ) (old new : PlainRun) (o : PlainOutcome) : Type 0 where
  progress : PlainProgress
  reaches : ReachesIn job may n old progress
  outcome_is : o ≡ outcome_of progress
  run_is : run_in progress ≡ new

reached : (job : PlainJob) (may : Permission) (n : ℕ) (old new : PlainRun) (o : PlainOutcome) → RunAnswers job may n old new o →
    o ≢ ending.Memory → HasReached job may n old new o
reached job may n old new ending.Budget answers stated =
    record { progress = Going new; reaches = answers; outcome_is = refl; run_is = refl }
reached job may n old new (ending.Exited status) answers stated =
    record { progress = Done status new; reaches = answers; outcome_is = refl; run_is = refl }
reached job may n old new (ending.Left reason section offset) answers stated = record {
  progress = Gone reason new;
  reaches = answers.0;
  outcome_is = ap (λ (s : ℕ). ending.Left reason s offset) answers.1 ∙ ap (ending.Left reason new.state.at.section) answers.2;
  run_is = refl;
}
reached job may n old new ending.Memory answers stated = absurd (stated refl)

abbrev run_with : PlainState → List ℕ → List Answer → List Event → Option ℕ → PlainRun
run_with s input answers events ended = record { state = s; input = input; answers = answers; events = events; ended = ended }

module _ (resolved : ResolvedFiles) (options : LinkOptions) (job : WholeJob) (is_resolved : IsResolved resolved options)
    (is : IsWholeJob resolved.files options job) (start : Plain)
    (begins : IsPlainStart (record { files = resolved.files; plan = job.plan; pairs = job.pairs }) resolved.entry job.loaded.data.items start)
  where
    abbrev files : List (List ℕ)
    files = resolved.files

    abbrev segments : List Segment
    segments = job.loaded.data.items

    -- the job that runs, what its memory permits, and where it begins, are those of the files
    job_is : job_of start ≡ plain_job files options job.pairs
    job_is =
        begins.job_is
        ∙ ap (λ (p : LaidData). record { files = files; plan = p; pairs = job.pairs })
        (plan_is files options job.plan job.calls (layout_of job.settled.keyed job.settled.far job.settled.places) job.pairs is.laid)

    may_is : may_of start ≡ plain_may files options segments
    may_is = begins.may ∙ ap (λ (n : ℕ). guarded (start_ranges segments) (toc_ranges files n)) is.laid.is_plan.span_is

    run_is : (w : World) →
        run_of start w ≡ plain_begun files options segments (drop w.taken w.input.items) (drop w.used w.answers.items)
    run_is w =
        let input = drop w.taken w.input.items in
        let answers = drop w.used w.answers.items in
        let at_start : PlainState = plain_start files options.toc_span (place_of (entry_place files options.entry)) segments in
        let state = begins.state ∙ ap (λ (n : ℕ). plain_start files n (place_of resolved.entry) segments) is.laid.is_plan.span_is
        ∙ ap (λ (e : CodePlace). plain_start files options.toc_span (place_of e) segments) is_resolved.entry in
        ap (λ (s : PlainState). run_with s input answers (machine_events start.machine) (machine_ended start.machine)) state
        ∙ ap (λ (l : List Event). run_with at_start input answers l (machine_ended start.machine)) begins.events
        ∙ ap (λ (o : Option ℕ). run_with at_start input answers [] o) begins.ended

    pub plain_end : (budget : ℕ) (old new : World) (next : Plain) (end : PlainEnd) →
        RunAnswers (job_of start) (may_of start) budget (run_of start old) (run_of next new) end.outcome → end.outcome ≢ ending.Memory →
        end.events.items ≡ machine_events next.machine → end.file ≡ (section_left files end.outcome).file →
        end.section ≡ (section_left files end.outcome).section → IsPlainEnd files options budget old new end
    plain_end budget old new next end answers stated events file section =
        let text = layout_of job.settled.keyed job.settled.far job.settled.places in
        let span = is.laid.is_plan.span_is in
        let got = reached (job_of start) (may_of start) budget (run_of start old) (run_of next new) end.outcome answers stated in
        let input = drop old.taken old.input.items in
        let given = drop old.used old.answers.items in
        record {
          progress = got.progress;
          runs = record {
            pairs = job.pairs;
            data_segments = segments;
            unrefused = record {
              text = text;
              laid = laid_out files options job.plan job.calls text job.pairs is.laid;
              pairs_are = is.laid.pairs_are;
              fits = ap (λ (n : ℕ). overflow files n text.places.sections (rewriting_of files n job.pairs)) (sym span) ∙ is.fits;
              data_is = subst (λ (n : ℕ). AreDataSegments files n text.places.sections segments) span is.data_is;
            };
            reaches =
                subst (λ (r : PlainRun). ReachesIn (plain_job files options job.pairs) (plain_may files options segments) budget r got.progress)
                (run_is old)
                (subst (λ (m : Permission). ReachesIn (plain_job files options job.pairs) m budget (run_of start old) got.progress) may_is
                (subst (λ (j : PlainJob). ReachesIn j (may_of start) budget (run_of start old) got.progress) job_is got.reaches));
          };
          outcome = got.outcome_is;
          events = events ∙ ap (λ (r : PlainRun). r.events) (sym got.run_is);
          file = file;
          section = section;
          input_left = ap (λ (r : PlainRun). r.input) (sym got.run_is);
          answers_left = ap (λ (r : PlainRun). r.answers) (sym got.run_is);
        }
