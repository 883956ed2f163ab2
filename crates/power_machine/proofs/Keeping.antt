-- The pages that steps and runs keep.
use Rattle.std.proofs.Common.{◌≡◌, ℕ, ◌+◌, ◌<◌, ◌≤◌, Bool, List, true, false, ◌||◌, Option, Some, None, inl, inr, refl, sym, ap, ◌∙◌, subst, arith, ⊎_elim}
use Rattle.std.specs.Prelude.{IsTrue, ◌⊎◌}
use Rattle.std.proofs.lemmas.Bool.{cases_lt}
use Rattle.power_insns.specs.declared.meaning.Operation.{Operation}
use Rattle.power_insns.specs.declared.meaning.Operation.TheVariants.{Copy, Calculate, Divide, Compare, Load, Store, Branch, System}
use Rattle.power_machine.specs.declared.code.Code.{Code}
use Rattle.power_machine.specs.declared.machine.StepOutcome.{StepOutcome}
use Rattle.power_machine.specs.declared.machine.StepOutcome.TheVariants as outcome
use Rattle.power_machine.specs.declared.reason.Reason.{Reason}
use Rattle.power_machine.specs.Memory.{Range}
use Rattle.power_machine.specs.Paging.{Span, meets, kept_with}
use Rattle.power_machine.specs.Codes.{IsNext}
use Rattle.power_machine.specs.Pages.{PagesAfter, PagesReach, StepKeeps, StoredIn, stored_by, stored_by_operation, stored_over}
use Rattle.power_machine.specs.Runs.{Going, Done, Gone, is_call}
use Rattle.power_machine.specs.Steps.{NumberRun, NumberProgress, ReachesIn}
use Rattle.power_machine.proofs.Paging.{or_true}
use Rattle.power_machine.specs.laws.Steps.{one_code, one_progress_in}

-- an operation that is no call stores by the state
pub stored_alike : (r : NumberRun) (op : Operation) → is_call op ≡ false → stored_by_operation r op ≡ stored_by r.state op
stored_alike r (Copy to from rc) h = refl
stored_alike r (Calculate function to x y rc) h = refl
stored_alike r (Divide sign to x y rc) h = refl
stored_alike r (Compare field width sign x y) h = refl
stored_alike r (Load width sign to base offset) h = refl
stored_alike r (Store width from base offset update) h = refl
stored_alike r (Branch counter condition target link) h = refl
stored_alike r System h = cc

-- the step over what stands at the next address
pub step_keeps :
    (ranges : List Range) (r : NumberRun) (before after : ℕ → Bool) (code : Code) (o : StepOutcome) →
    IsNext ranges r.state code →
    PagesAfter (stored_over r code) before after o →
    StepKeeps ranges r before after o
step_keeps ranges r before after code outcome.Went stands h = (code, stands, h)
step_keeps ranges r before after code (outcome.Ended status) stands h = h
step_keeps ranges r before after code (outcome.Left reason at) stands h = h
step_keeps ranges r before after code outcome.Memory stands h = h

-- a page that a step keeps
meets_some : (kept : ℕ → Bool) (o : Option Span) (page : ℕ) (s : Span) → o ≡ Some s → IsTrue (meets s page) → IsTrue (kept_with kept o page)
meets_some kept None page s e met = cc
meets_some kept (Some t) page s e met =
    let same : t ≡ s = cc in
    ap (λ u. kept page || meets u page) same ∙ ap (λ b. kept page || b) met ∙ or_true (kept page)

keeps_on : (kept : ℕ → Bool) (o : Option Span) (page : ℕ) → IsTrue (kept page) → IsTrue (kept_with kept o page)
keeps_on kept None page h = h
keeps_on kept (Some s) page h = ap (λ b. b || meets s page) h

record Met (o : Option Span) (page : ℕ) : Type 0 where
  span : Span
  is : o ≡ Some span
  met : IsTrue (meets span page)

either : (b c : Bool) → (b || c) ≡ true → (b ≡ true) ⊎ (c ≡ true)
either true c h = inl refl
either false c h = inr h

kept_or_met : (kept : ℕ → Bool) (o : Option Span) (page : ℕ) → IsTrue (kept_with kept o page) → IsTrue (kept page) ⊎ Met o page
kept_or_met kept None page h = inl h
kept_or_met kept (Some s) page h =
    ⊎_elim (λ k. inl k) (λ m. inr (record { span = s; is = refl; met = m })) (either (kept page) (meets s page) h)

going_one : (a b : NumberRun) → ◌≡◌ {A = NumberProgress} (Going a) (Going b) → a ≡ b
going_one a b h = cc

pub done_over : (status : ℕ) (r u : NumberRun) → ¬ (◌≡◌ {A = NumberProgress} (Done status r) (Going u))
done_over status r u h = cc

pub gone_over : (reason : Reason) (r u : NumberRun) → ¬ (◌≡◌ {A = NumberProgress} (Gone reason r) (Going u))
gone_over reason r u h = cc

module _ (ranges : List Range) (old : NumberRun) (before : ℕ → Bool) where
  pub pages_begin : PagesReach ranges 0 old before before
  pages_begin page = (λ h. inl h, λ e. ⊎_elim (λ h. h) (λ (s : StoredIn ranges 0 old page). absurd (omega (arith, s.within))) e)

  more : (n m : ℕ) (page : ℕ) → n ≤ m → StoredIn ranges n old page → StoredIn ranges m old page
  more n m page le s = record {
    step = s.step;
    before = s.before;
    after = s.after;
    code = s.code;
    span = s.span;
    within = omega (arith, s.within);
    begins = s.begins;
    goes_on = s.goes_on;
    stands = s.stands;
    stores = s.stores;
    met = s.met;
  }

  -- one more step
  pub pages_go_on :
      (ranges' : List Range) (n : ℕ) (now new : NumberRun) (mid after : ℕ → Bool) →
      ranges' ≡ ranges →
      ReachesIn ranges n old (Going now) →
      ReachesIn ranges (n + 1) old (Going new) →
      PagesReach ranges n old before mid →
      StepKeeps ranges' now mid after outcome.Went →
      PagesReach ranges (n + 1) old before after
  pages_go_on ranges' n now new mid after same so_far goes pages (code, stands, kept) page = (
    λ h. ⊎_elim
        (λ k. ⊎_elim (λ b. inl b) (λ s. inr (more n (n + 1) page (omega arith) s)) ((pages page).0 k))
        (λ (m : Met (stored_over now code) page). inr (record {
          step = n;
          before = now;
          after = new;
          code = code;
          span = m.span;
          within = omega arith;
          begins = so_far;
          goes_on = goes;
          stands = subst (λ rs. IsNext rs now.state code) same stands;
          stores = m.is;
          met = m.met;
        }))
        (kept_or_met mid (stored_over now code) page (sym (ap (λ (f : ℕ → Bool). f page) kept) ∙ h)),
    λ e. ap (λ (f : ℕ → Bool). f page) kept ∙ ⊎_elim
        (λ b. keeps_on mid (stored_over now code) page ((pages page).1 (inl b)))
        (λ (s : StoredIn ranges (n + 1) old page). ⊎_elim
        (λ less. keeps_on mid (stored_over now code) page ((pages page).1 (inr (record {
          step = s.step;
          before = s.before;
          after = s.after;
          code = s.code;
          span = s.span;
          within = less;
          begins = s.begins;
          goes_on = s.goes_on;
          stands = s.stands;
          stores = s.stores;
          met = s.met;
        }))))
        (λ most.
        let last : s.step ≡ n = omega (arith, s.within) in
        let there : s.before ≡ now = going_one s.before now (one_progress_in ranges n old (Going s.before) (Going now)
        (subst (λ k. ReachesIn ranges k old (Going s.before)) last s.begins) so_far) in
        let stands' : IsNext ranges now.state s.code = subst (λ (u : NumberRun). IsNext ranges u.state s.code) there s.stands in
        let one : s.code ≡ code = one_code ranges now.state.byte now.state.at s.code code stands'
        (subst (λ rs. IsNext rs now.state code) same stands) in
        meets_some mid (stored_over now code) page s.span
        (sym (ap (stored_over now) one) ∙ ap (λ u. stored_over u s.code) (sym there) ∙ s.stores) s.met)
        (cases_lt s.step n))
        e,
  )

  -- a run that is over stores no more
  pub pages_stop :
      (k m : ℕ) (over : NumberProgress) (mid after : ℕ → Bool) →
      k ≤ m →
      ((n : ℕ) → k < n → ReachesIn ranges n old over) →
      ((u : NumberRun) → ¬ (◌≡◌ {A = NumberProgress} over (Going u))) →
      PagesReach ranges k old before mid →
      after ≡ mid →
      PagesReach ranges m old before after
  pages_stop k m over mid after le stays is_over pages same page = (
    λ h. ⊎_elim (λ b. inl b) (λ s. inr (more k m page le s)) ((pages page).0 (sym (ap (λ (f : ℕ → Bool). f page) same) ∙ h)),
    λ e. ap (λ (f : ℕ → Bool). f page) same ∙ ⊎_elim
        (λ b. (pages page).1 (inl b))
        (λ (s : StoredIn ranges m old page). ⊎_elim
        (λ less. (pages page).1 (inr (record {
          step = s.step;
          before = s.before;
          after = s.after;
          code = s.code;
          span = s.span;
          within = less;
          begins = s.begins;
          goes_on = s.goes_on;
          stands = s.stands;
          stores = s.stores;
          met = s.met;
        })))
        (λ most. absurd (is_over s.after (one_progress_in ranges (s.step + 1) old over (Going s.after) (stays (s.step + 1)
        (omega arith)) s.goes_on)))
        (cases_lt s.step k))
        e,
  )
