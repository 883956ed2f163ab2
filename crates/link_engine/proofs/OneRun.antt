-- Files come to one thing without an image.
use Rattle.std.proofs.Common.{ℕ, zero, suc, ◌≡◌, inl, inr, List, slice_index, Option, None, Some, ap, sym, ◌∙◌, subst}
use Rattle.std.specs.Prelude.{Ok, Err}
use Rattle.elf64_exec.specs.declared.layout.Segment.{Segment}
use Rattle.object_set.specs.declared.refusal.Refusal.{Refusal}
use Rattle.object_set.specs.Refusals.{set_refusal}
use Rattle.symbol_table.specs.Records.{records_refusal}
use Rattle.toc_groups.specs.Contents.{AreDataSegments}
use Rattle.toc_groups.specs.Plans.{IsPlan}
use Rattle.toc_groups.proofs.OneImage.{one_data}
use Rattle.pcrel_rewrite.specs.declared.text_pairs.TextPair.{TextPair}
use Rattle.pcrel_rewrite.specs.Pairs.{ArePairs}
use Rattle.image_writer.specs.LaidText.{TextLayout}
use Rattle.image_writer.specs.laws.OneText.{not_both}
use Rattle.power_machine.specs.declared.world.Answer.{Answer}
use Rattle.power_machine.specs.Calls.{Run}
use Rattle.power_machine.specs.Memory.{Permission}
use Rattle.power_machine.specs.Machines.{Next}
use Rattle.power_machine.specs.Runs.{Progress, Going, Done, Gone, progress_of, StepsFrom, OneMore, Reaches}
use Rattle.plain_machine.specs.declared.action.Action.{Action}
use Rattle.plain_machine.specs.Actions.{PlainRun, PlainProgress, performed}
use Rattle.plain_run.specs.Runs.{IsStep, ReachesIn}
use Rattle.plain_run.specs.Standing.{text_sizes}
use Rattle.link_engine.specs.Link.{LinksTo, plan_of, calls_of}
use Rattle.link_engine.specs.Options.{LinkOptions}
use Rattle.link_engine.specs.Plain.{IsUnrefused, plain_job, plain_may, plain_begun, PlainRunsTo, PlainRunsAreOne}
use Rattle.link_engine.specs.laws.Outcomes.{passed, same_layout, same_overflow, same_refusal}
use Rattle.link_engine.proofs.OneAction.{one_action}
use Rattle.link_engine.proofs.SamePairs.{same_tail, same_head}
use Rattle.link_engine.proofs.TextStands.{plan_is}

-- ---- two ways of taking a step that agree come to one progress

module _ {V B T P : Type 0} (Step Other : Run V B T P → Next (Run V B T P) → Type 0)
    (agree : (r : Run V B T P) (n m : Next (Run V B T P)) → Step r n → Other r m → n ≡ m) where
  one_from : (r : Run V B T P) (o : Option ℕ) (n m : Next (Run V B T P)) → StepsFrom Step r o n → StepsFrom Other r o m → n ≡ m
  one_from r (Some status) n m h k = h ∙ sym k
  one_from r None n m h k = agree r n m h k

  one_more : (q p p' : Progress V B T P) → OneMore Step q p → OneMore Other q p' → p ≡ p'
  one_more (Going r) p p' (n, step, is) (n', step', is') = is ∙ ap (progress_of r) (one_from r r.ended n n' step step') ∙ sym is'
  one_more (Done status r) p p' h k = h ∙ sym k
  one_more (Gone reason r) p p' h k = h ∙ sym k

  agree_on : (n : ℕ) (r : Run V B T P) (p p' : Progress V B T P) → Reaches Step n r p → Reaches Other n r p' → p ≡ p'
  agree_on zero r p p' h k = h ∙ sym k
  agree_on (suc n) r p p' (q, reaches, more) (q', reaches', more') =
      one_more q p p' more (subst (λ (u : Progress V B T P). OneMore Other u p') (sym (agree_on n r q q' reaches reaches')) more')

-- ---- files have one run

module _ (files : List (List ℕ)) (options : LinkOptions) where
  -- a job takes one step, whichever list tells its pairs
  one_step : (one other : List TextPair) (may : Permission) → set_refusal files ≡ None → records_refusal files ≡ None →
      IsPlan files options.toc_span (plan_of files options) → ArePairs files one → ArePairs files other →
      (r : PlainRun) (n m : Next PlainRun) →
      IsStep (plain_job files options one) may r n → IsStep (plain_job files options other) may r m → n ≡ m
  one_step one other may whole none is are too r n m step step' =
      let same : step.action ≡ step'.action =
      one_action files (plan_of files options) is whole none one other (same_tail files none one other are too)
      (same_head files none one other are too) r.state.at step.action step'.action step.stands step'.stands in
      step.is ∙ ap (λ (a : Action). performed (slice_index (text_sizes files)) may a r) same ∙ sym step'.is

  -- where nothing is refused, a run of so many steps comes to one thing
  one_run : (input : List ℕ) (answers : List Answer) (n : ℕ) (p q : PlainProgress) → PlainRunsTo files options input answers n p →
      PlainRunsTo files options input answers n q → p ≡ q
  one_run input answers n p q runs runs' =
      let a = runs.unrefused in
      let b = runs'.unrefused in
      let passes = passed files options a.laid.passes in
      let text = same_layout files options a.text b.text a.laid b.laid in
      let there : AreDataSegments files options.toc_span a.text.places.sections runs'.data_segments =
      subst (λ (t : TextLayout). AreDataSegments files options.toc_span t.places.sections runs'.data_segments) (sym text) b.data_is in
      let same : runs.data_segments ≡ runs'.data_segments = one_data files options.toc_span a.text.places.sections
      (record { whole = passes.whole; records = passes.records; fits = passes.fits }) runs.data_segments runs'.data_segments a.data_is
      there in
      let segments = runs.data_segments in
      let may = plain_may files options segments in
      let reaches : ReachesIn (plain_job files options runs'.pairs) may n (plain_begun files options segments input answers) q =
      subst (λ (d : List Segment). ReachesIn (plain_job files options runs'.pairs) (plain_may files options d) n
      (plain_begun files options d input answers) q) (sym same) runs'.reaches in
      agree_on (IsStep (plain_job files options runs.pairs) may) (IsStep (plain_job files options runs'.pairs) may)
      (one_step runs.pairs runs'.pairs may passes.whole passes.records (plan_is files options.toc_span passes.fits) a.pairs_are b.pairs_are)
      n (plain_begun files options segments input answers) p q runs.reaches reaches

  -- and none is refused
  not_refused : (pairs : List TextPair) (segments : List Segment) (refusal : Refusal) → IsUnrefused files options pairs segments →
      LinksTo files options (Err refusal) → ⊥
  not_refused pairs segments refusal a (inl b) = let none = a.laid.passes in cc
  not_refused pairs segments refusal a (inr (inl b)) =
      not_both files (plan_of files options) (calls_of files options) options.branch_span a.text refusal b.stated a.laid.is b.is
  not_refused pairs segments refusal a (inr (inr b)) =
      let none : None ≡ Some refusal = sym a.fits ∙ same_overflow files options a.text b.text pairs b.pairs a.laid b.laid ∙ b.first in
      cc

-- files come to one thing
pub runs_are_one : PlainRunsAreOne
runs_are_one files options input answers n (Err one) (Err other) is too = ap Err (same_refusal files options one other is too)
runs_are_one files options input answers n (Err one) (Ok other) is too =
    absurd (not_refused files options too.pairs too.data_segments one too.unrefused is)
runs_are_one files options input answers n (Ok one) (Err other) is too =
    absurd (not_refused files options is.pairs is.data_segments other is.unrefused too)
runs_are_one files options input answers n (Ok one) (Ok other) is too = ap Ok (one_run files options input answers n one other is too)
