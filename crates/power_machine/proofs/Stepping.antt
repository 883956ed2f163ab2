-- Steps and runs, from what the calls ensure.
use Rattle.std.proofs.Common.{◌≡◌, Bool, true, false, cond, ℕ, ◌+◌, ◌<◌, List, Option, Some, None, refl, sym, ap, ◌∙◌, subst, arith, add-one}
use Rattle.power_machine.specs.declared.code.Code.{Code}
use Rattle.power_machine.specs.declared.reason.Reason.{Reason}
use Rattle.power_machine.specs.declared.machine.StepOutcome.{StepOutcome}
use Rattle.power_machine.specs.declared.machine.StepOutcome.TheVariants as outcome
use Rattle.power_machine.specs.Memory.{Range}
use Rattle.power_machine.specs.Codes.{IsNext}
use Rattle.power_machine.specs.Machines.{Next, Went, Left, check}
use Rattle.power_machine.specs.Runs.{Going, Done, Gone, progress_of, begun, StepsFrom, Steps, Reaches}
use Rattle.power_machine.specs.Steps.{NumberRun, NumberProgress, IsStep, step_over, went_outcome, Performs, Made}
use Rattle.power_machine.specs.laws.Runs.{over_stays}

-- a run that has ended
pub made_over : (ranges : List Range) (r : NumberRun) (status : ℕ) → r.ended ≡ Some status → Made ranges r r (outcome.Ended status)
made_over ranges r status e = record {
  next = Went r;
  steps = subst (λ o. StepsFrom (IsStep ranges) r o (Went r)) (sym e) refl;
  performs = (sym (ap went_outcome e), refl);
}

-- a run that goes on
pub made_by :
    (ranges : List Range) (old new : NumberRun) (code : Code) (o : StepOutcome) →
    old.ended ≡ None →
    IsNext ranges old.state code →
    Performs (step_over ranges old code) old new o →
    Made ranges old new o
made_by ranges old new code o e stands h = record {
  next = step_over ranges old code;
  steps =
      (let one : IsStep ranges old (step_over ranges old code) = record { code = code; stands = stands; is = refl }
      in subst (λ o. StepsFrom (IsStep ranges) old o (step_over ranges old code)) (sym e) one);
  performs = h;
}

-- no status is none
pub not_ended : (o : Option ℕ) → ((x : ℕ) → ¬ (o ≡ Some x)) → o ≡ None
not_ended None h = refl
not_ended (Some x) h = absurd (h x refl)

not_left : (o : Option ℕ) (reason : Reason) (at : ℕ) → outcome.Left reason at ≡ went_outcome o → ⊥
not_left None reason at h = cc
not_left (Some x) reason at h = cc

-- a step that leaves changes nothing
pub left_is :
    (next : Next NumberRun) (old new : NumberRun) (reason : Reason) (at : ℕ) →
    Performs next old new (outcome.Left reason at) →
    new ≡ old
left_is (Went r) old new reason at h = absurd (not_left r.ended reason at h.0)
left_is (Left why) old new reason at h = h.1

-- what an answer says of the progress
going_on : (r : NumberRun) (o : Option ℕ) → outcome.Went ≡ went_outcome o → Going r ≡ begun r o
going_on r None h = refl
going_on r (Some status) h = cc

ending : (r : NumberRun) (o : Option ℕ) (status : ℕ) → outcome.Ended status ≡ went_outcome o → Done status r ≡ begun r o
ending r None status h = cc
ending r (Some n) status h = let e : status ≡ n = cc in ap (λ k. Done k r) e

went : (next : Next NumberRun) (now new : NumberRun) → Performs next now new outcome.Went → Going new ≡ progress_of now next
went (Went r) now new h = ap Going h.1 ∙ going_on r r.ended h.0
went (Left reason) now new h = cc

ended :
    (next : Next NumberRun) (now new : NumberRun) (status : ℕ) →
    Performs next now new (outcome.Ended status) →
    Done status new ≡ progress_of now next
ended (Went r) now new status h = ap (Done status) h.1 ∙ ending r r.ended status h.0
ended (Left reason) now new status h = cc

left :
    (next : Next NumberRun) (now new : NumberRun) (reason : Reason) (at : ℕ) →
    Performs next now new (outcome.Left reason at) →
    (Gone reason new ≡ progress_of now next) × (at ≡ new.state.at)
left (Went r) now new reason at h = absurd (not_left r.ended reason at h.0)
left (Left why) now new reason at h =
    let same : reason ≡ why = cc in
    let place : at ≡ now.state.at = cc in
    (ap (λ z. Gone z new) same ∙ ap (Gone why) h.1, place ∙ ap (λ (r : NumberRun). r.state.at) (sym h.1))

module _ (ranges : List Range) (old : NumberRun) where
  next_is :
      (n : ℕ) (now : NumberRun) (s : Next NumberRun) (p : NumberProgress) →
      Reaches (IsStep ranges) n old (Going now) →
      Steps (IsStep ranges) now s →
      p ≡ progress_of now s →
      Reaches (IsStep ranges) (n + 1) old p
  next_is n now s p so_far is e = rw add-one (Going now, so_far, (s, is, e))

  pub over_before : (n status : ℕ) → old.ended ≡ Some status → Reaches (IsStep ranges) n old (Done status old)
  over_before n status h = over_stays (IsStep ranges) old (Done status old) refl 0 n (omega arith) (sym (ap (begun old) h))

  pub begins : old.ended ≡ None → Reaches (IsStep ranges) 0 old (Going old)
  begins h = sym (ap (begun old) h)

  pub goes_on :
      (ranges' : List Range) (n : ℕ) (now new : NumberRun) →
      ranges' ≡ ranges →
      Reaches (IsStep ranges) n old (Going now) →
      Made ranges' now new outcome.Went →
      Reaches (IsStep ranges) (n + 1) old (Going new)
  goes_on ranges' n now new same so_far made =
      let m = subst (λ rs. Made rs now new outcome.Went) same made in
      next_is n now m.next (Going new) so_far m.steps (went m.next now new m.performs)

  pub ends_now :
      (ranges' : List Range) (n m : ℕ) (now new : NumberRun) (status : ℕ) →
      ranges' ≡ ranges →
      n < m →
      Reaches (IsStep ranges) n old (Going now) →
      Made ranges' now new (outcome.Ended status) →
      Reaches (IsStep ranges) m old (Done status new)
  ends_now ranges' n m now new status same lt so_far made =
      let d = subst (λ rs. Made rs now new (outcome.Ended status)) same made in
      over_stays (IsStep ranges) old (Done status new) refl (n + 1) m (omega arith)
      (next_is n now d.next (Done status new) so_far d.steps (ended d.next now new status d.performs))

  pub leaves_now :
      (ranges' : List Range) (n m : ℕ) (now new : NumberRun) (reason : Reason) (at : ℕ) →
      ranges' ≡ ranges →
      n < m →
      Reaches (IsStep ranges) n old (Going now) →
      Made ranges' now new (outcome.Left reason at) →
      Reaches (IsStep ranges) m old (Gone reason new) × (at ≡ new.state.at)
  leaves_now ranges' n m now new reason at same lt so_far made =
      let d = subst (λ rs. Made rs now new (outcome.Left reason at)) same made in
      let l = left d.next now new reason at d.performs in (
        over_stays (IsStep ranges) old (Gone reason new) refl (n + 1) m (omega arith)
            (next_is n now d.next (Gone reason new) so_far d.steps l.0),
        l.1,
      )

  pub keeps_now :
      (ranges' : List Range) (n m : ℕ) (now new : NumberRun) →
      n < m →
      Reaches (IsStep ranges) n old (Going now) →
      Made ranges' now new outcome.Memory →
      (k : ℕ) × (k < m) × Reaches (IsStep ranges) k old (Going new)
  keeps_now ranges' n m now new lt so_far made = (n, lt, subst (λ r. Reaches (IsStep ranges) n old (Going r)) (sym made.performs) so_far)

-- what was read is what a load gives
pub loaded :
    {S : Type 0} (b : Bool) (m n : ℕ) (f : ℕ → S) (reason : Reason) →
    Some n ≡ cond b (Some m) None →
    check b reason (Went (f m)) ≡ Went (f n)
loaded true m n f reason e = let same : n ≡ m = cc in ap (λ k. Went (f k)) (sym same)
loaded false m n f reason e = cc
