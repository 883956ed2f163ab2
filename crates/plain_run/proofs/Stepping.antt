-- Steps and runs of a job, from what the calls ensure.
use Rattle.std.proofs.Common.{◌≡◌, ℕ, ◌+◌, ◌<◌, List, slice_index, Option, Some, None, refl, sym, ap, ◌∙◌, subst, arith, add-one}
use Rattle.power_machine.specs.declared.reason.Reason.{Reason}
use Rattle.power_machine.specs.Memory.{Permission}
use Rattle.power_machine.specs.Machines.{Next, Went, Left}
use Rattle.power_machine.specs.Runs.{Going, Done, Gone, progress_of, begun, StepsFrom, Steps, Reaches}
use Rattle.power_machine.specs.laws.Runs.{over_stays}
use Rattle.plain_machine.specs.declared.action.Action.{Action}
use Rattle.plain_machine.specs.declared.machine.Performed.{Performed}
use Rattle.plain_machine.specs.declared.machine.Performed.TheVariants as performed
use Rattle.plain_machine.specs.Actions.{PlainRun, PlainProgress, performed as performed_on}
use Rattle.plain_machine.specs.declared.place.TextPlace.{TextPlace}
use Rattle.plain_machine.specs.inside.Machine.{went_outcome as machine_went, outcome_of as machine_outcome, Performs as MachinePerforms}
use Rattle.plain_run.specs.declared.plain.PlainStep.{PlainStep}
use Rattle.plain_run.specs.declared.plain.PlainStep.TheVariants as step
use Rattle.plain_run.specs.Places.{IsActionAt}
use Rattle.plain_run.specs.Standing.{text_sizes}
use Rattle.plain_run.specs.Runs.{IsStep, went_outcome, outcome_of, Performs, Made}
use Rattle.plain_run.specs.inside.Starts.{outcome_by}
use Rattle.plain_run.specs.Jobs.{PlainJob}

-- what the machine has done the job has done
went_is : (o : Option ℕ) (p : TextPlace) → outcome_by (machine_went o) p ≡ went_outcome o
went_is None p = refl
went_is (Some status) p = refl

outcome_is : (next : Next PlainRun) (p : TextPlace) → outcome_by (machine_outcome next) p ≡ outcome_of p next
outcome_is (Went r) p = went_is r.ended p
outcome_is (Left reason) p = refl

performs_at : (next : Next PlainRun) (old new : PlainRun) (o : Performed) → MachinePerforms next old new o →
    Performs next old new (outcome_by o old.state.at)
performs_at next old new performed.Memory h = h
performs_at next old new performed.Went h = (ap (λ o. outcome_by o old.state.at) h.0 ∙ outcome_is next old.state.at, h.1)
performs_at next old new (performed.Ended status) h = (ap (λ o. outcome_by o old.state.at) h.0 ∙ outcome_is next old.state.at, h.1)
performs_at next old new (performed.Left reason) h = (ap (λ o. outcome_by o old.state.at) h.0 ∙ outcome_is next old.state.at, h.1)

module _ (job : PlainJob) (may : Permission) where
  -- a run that has ended
  pub made_over : (r : PlainRun) (status : ℕ) → r.ended ≡ Some status → Made job may r r (step.Ended status)
  made_over r status e = record {
    next = Went r;
    steps = subst (λ o. StepsFrom (IsStep job may) r o (Went r)) (sym e) refl;
    performs = (sym (ap went_outcome e), refl);
  }

  -- a run that goes on
  pub made_by : (old new : PlainRun) (action : Action) (sizes : List ℕ) (o : Performed) → old.ended ≡ None →
      IsActionAt job.files job.plan job.pairs old.state.at action → sizes ≡ text_sizes job.files →
      MachinePerforms (performed_on (slice_index sizes) may action old) old new o →
      Made job may old new (outcome_by o old.state.at)
  made_by old new action sizes o e stands same h =
      let next = performed_on (slice_index (text_sizes job.files)) may action old in
      record {
        next = next;
        steps =
            (let one : IsStep job may old next = record { action = action; stands = stands; is = refl }
            in subst (λ o. StepsFrom (IsStep job may) old o next) (sym e) one);
        performs = performs_at next old new o
            (subst (λ (l : List ℕ). MachinePerforms (performed_on (slice_index l) may action old) old new o) same h);
      }

-- the same job, with the same memory
pub made_as : {job job' : PlainJob} {may may' : Permission} {old new : PlainRun} {o : PlainStep} → job' ≡ job → may' ≡ may →
    Made job' may' old new o → Made job may old new o
made_as {job} {job'} {may} {may'} {old} {new} {o} same_job same_may made =
    subst (λ (m : Permission). Made job m old new o) same_may (subst (λ (j : PlainJob). Made j may' old new o) same_job made)

-- what an answer says of the progress
not_left : (o : Option ℕ) (reason : Reason) (section offset : ℕ) → step.Left reason section offset ≡ went_outcome o → ⊥
not_left None reason section offset h = cc
not_left (Some x) reason section offset h = cc

going_on : (r : PlainRun) (o : Option ℕ) → step.Went ≡ went_outcome o → Going r ≡ begun r o
going_on r None h = refl
going_on r (Some status) h = cc

ending : (r : PlainRun) (o : Option ℕ) (status : ℕ) → step.Ended status ≡ went_outcome o → Done status r ≡ begun r o
ending r None status h = cc
ending r (Some n) status h = let e : status ≡ n = cc in ap (λ k. Done k r) e

went : (next : Next PlainRun) (now new : PlainRun) → Performs next now new step.Went → Going new ≡ progress_of now next
went (Went r) now new h = ap Going h.1 ∙ going_on r r.ended h.0
went (Left reason) now new h = cc

ended : (next : Next PlainRun) (now new : PlainRun) (status : ℕ) → Performs next now new (step.Ended status) →
    Done status new ≡ progress_of now next
ended (Went r) now new status h = ap (Done status) h.1 ∙ ending r r.ended status h.0
ended (Left reason) now new status h = cc

-- a leave tells its place
record Leaves (now new : PlainRun) (next : Next PlainRun) (reason : Reason) (section offset : ℕ) : Type 0 where
  progress : Gone reason new ≡ progress_of now next
  section_is : section ≡ new.state.at.section
  offset_is : offset ≡ new.state.at.offset

left : (next : Next PlainRun) (now new : PlainRun) (reason : Reason) (section offset : ℕ) →
    Performs next now new (step.Left reason section offset) → Leaves now new next reason section offset
left (Went r) now new reason section offset h = absurd (not_left r.ended reason section offset h.0)
left (Left why) now new reason section offset h =
    let same : reason ≡ why = cc in
    let in_section : section ≡ now.state.at.section = cc in
    let at_offset : offset ≡ now.state.at.offset = cc in
    record {
      progress = ap (λ z. Gone z new) same ∙ ap (Gone why) h.1;
      section_is = in_section ∙ ap (λ (r : PlainRun). r.state.at.section) (sym h.1);
      offset_is = at_offset ∙ ap (λ (r : PlainRun). r.state.at.offset) (sym h.1);
    }

module _ (job : PlainJob) (may : Permission) (old : PlainRun) where
  next_is : (n : ℕ) (now : PlainRun) (s : Next PlainRun) (p : PlainProgress) → Reaches (IsStep job may) n old (Going now) →
      Steps (IsStep job may) now s → p ≡ progress_of now s → Reaches (IsStep job may) (n + 1) old p
  next_is n now s p so_far is e = rw add-one (Going now, so_far, (s, is, e))

  pub over_before : (n status : ℕ) → old.ended ≡ Some status → Reaches (IsStep job may) n old (Done status old)
  over_before n status h = over_stays (IsStep job may) old (Done status old) refl 0 n (omega arith) (sym (ap (begun old) h))

  pub begins : old.ended ≡ None → Reaches (IsStep job may) 0 old (Going old)
  begins h = sym (ap (begun old) h)

  pub goes_on : (n : ℕ) (now new : PlainRun) → Reaches (IsStep job may) n old (Going now) → Made job may now new step.Went →
      Reaches (IsStep job may) (n + 1) old (Going new)
  goes_on n now new so_far made = next_is n now made.next (Going new) so_far made.steps (went made.next now new made.performs)

  pub ends_now : (n m : ℕ) (now new : PlainRun) (status : ℕ) → n < m → Reaches (IsStep job may) n old (Going now) →
      Made job may now new (step.Ended status) → Reaches (IsStep job may) m old (Done status new)
  ends_now n m now new status lt so_far made =
      over_stays (IsStep job may) old (Done status new) refl (n + 1) m (omega arith)
      (next_is n now made.next (Done status new) so_far made.steps (ended made.next now new status made.performs))

  pub leaves_now : (n m : ℕ) (now new : PlainRun) (reason : Reason) (section offset : ℕ) → n < m →
      Reaches (IsStep job may) n old (Going now) → Made job may now new (step.Left reason section offset) →
      Reaches (IsStep job may) m old (Gone reason new) × (section ≡ new.state.at.section) × (offset ≡ new.state.at.offset)
  leaves_now n m now new reason section offset lt so_far made =
      let l = left made.next now new reason section offset made.performs in (
        over_stays (IsStep job may) old (Gone reason new) refl (n + 1) m (omega arith)
            (next_is n now made.next (Gone reason new) so_far made.steps l.progress),
        l.section_is,
        l.offset_is,
      )

  pub keeps_now : (n m : ℕ) (now new : PlainRun) → n < m → Reaches (IsStep job may) n old (Going now) → Made job may now new step.Memory →
      (k : ℕ) × (k < m) × Reaches (IsStep job may) k old (Going new)
  keeps_now n m now new lt so_far made = (n, lt, subst (λ r. Reaches (IsStep job may) n old (Going r)) (sym made.performs) so_far)
