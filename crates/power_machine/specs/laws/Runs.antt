-- Laws of runs, over every kind of value and every way of taking a step.
use Rattle.std.proofs.Common.{◌≡◌, ◌≤◌, ℕ, zero, suc, Bool, true, false, ◌==◌, ◌||◌, cond, List, [], ◌∷◌, Option, Some, None, refl, sym, ap, ◌∙◌, subst, arith, ⊎_elim}
use Rattle.std.proofs.lemmas.Bool.{cases_lt}
use Rattle.std.proofs.lemmas.List.{append-nil}
use Rattle.power_insns.specs.declared.meaning.Operation.{Operation}
use Rattle.power_machine.specs.declared.memory.Purpose.{Purpose}
use Rattle.power_machine.specs.declared.memory.Purpose.TheVariants.{Loading, Storing}
use Rattle.power_machine.specs.declared.reason.Reason.{Reason}
use Rattle.power_machine.specs.declared.reason.Reason.TheVariants as why
use Rattle.power_machine.specs.declared.world.Answer.{Answer}
use Rattle.power_machine.specs.declared.world.Event.{Event}
use Rattle.power_machine.specs.Memory.{Permission, allows_range, bytes_from}
use Rattle.power_machine.specs.Machines.{Domain, State, Next, Went, Left, need, check, state_after, exec}
use Rattle.power_machine.specs.Calls.{Run, Asked, event_of, first_answer, granted, number_in, numbers_in, after_write, asking, read_by, reads, write_by, writes, exits, call_by, calls}
use Rattle.power_machine.specs.Runs.{Progress, Going, Done, Gone, begun, progress_of, run_in, StepsFrom, Steps, OneMore, Reaches, Continues, Grows, is_call, next_of, operates}
use Rattle.power_machine.specs.laws.Induction.{Steps as ManySteps, step_after}

module _ {V B T P : Type 0} (Step : Run V B T P → Next (Run V B T P) → Type 0) where
  -- a run that goes on has at most one step
  abbrev pub StepsOnce : Type 0
  StepsOnce = (r : Run V B T P) (n m : Next (Run V B T P)) → Step r n → Step r m → n ≡ m

  one_from : StepsOnce → (r : Run V B T P) (o : Option ℕ) (n m : Next (Run V B T P)) → StepsFrom Step r o n → StepsFrom Step r o m → n ≡ m
  one_from once r (Some status) n m h k = h ∙ sym k
  one_from once r None n m h k = once r n m h k

  -- so each run has
  pub one_step : StepsOnce → (r : Run V B T P) (n m : Next (Run V B T P)) → Steps Step r n → Steps Step r m → n ≡ m
  one_step once r n m h k = one_from once r r.ended n m h k

  one_more : StepsOnce → (q p p' : Progress V B T P) → OneMore Step q p → OneMore Step q p' → p ≡ p'
  one_more once (Going r) p p' (n, step, is) (n', step', is') = is ∙ ap (progress_of r) (one_step once r n n' step step') ∙ sym is'
  one_more once (Done status r) p p' h k = h ∙ sym k
  one_more once (Gone reason r) p p' h k = h ∙ sym k

  -- and one progress after at most so many steps
  pub one_progress : StepsOnce → (n : ℕ) (r : Run V B T P) (p p' : Progress V B T P) → Reaches Step n r p → Reaches Step n r p' → p ≡ p'
  one_progress once zero r p p' h k = h ∙ sym k
  one_progress once (suc n) r p p' (q, reaches, more) (q', reaches', more') =
      one_more once q p p' more (subst (λ q. OneMore Step q p') (sym (one_progress once n r q q' reaches reaches')) more')

  -- a step of a run that has ended changes nothing
  pub ended_step : (r : Run V B T P) (n : Next (Run V B T P)) (status : ℕ) → r.ended ≡ Some status → Steps Step r n → n ≡ Went r
  ended_step r n status e h = subst (λ o. StepsFrom Step r o n) e h

  went_one : (r u : Run V B T P) → ◌≡◌ {A = Next (Run V B T P)} (Went r) (Went u) → r ≡ u
  went_one r u h = cc

  -- one more step of a run that has ended with this status, or of one that goes on
  more_from :
      (u v : Run V B T P) (o : Option ℕ) →
      u.ended ≡ o →
      StepsFrom Step u o (Went v) →
      Continues Step u v →
      OneMore Step (begun u o) (begun v v.ended)
  more_from u v None h step steps = (Went v, steps, refl)
  more_from u v (Some status) h step steps = let same = went_one v u step in ap (λ w. begun w w.ended) same ∙ ap (begun u) h

  last_step :
      (n : ℕ) (s v : Run V B T P) →
      ManySteps (Continues Step) (suc n) s v →
      (u : Run V B T P) × ManySteps (Continues Step) n s u × Continues Step u v
  last_step zero s v (w, first, same) = (s, refl, subst (λ z. Continues Step s z) same first)
  last_step (suc n) s v (w, first, rest) = let l = last_step n w v rest in (l.0, (w, first, l.1), l.2)

  -- So many steps that don't leave are a run of so many steps.
  pub steps_reach : (n : ℕ) (r u : Run V B T P) → ManySteps (Continues Step) n r u → Reaches Step n r (begun u u.ended)
  steps_reach zero r u h = ap (λ (w : Run V B T P). begun w w.ended) (sym h)
  steps_reach (suc n) r v h =
      let l = last_step n r v h in
      let u = l.0 in
      (begun u u.ended, steps_reach n r u l.1, more_from u v u.ended refl l.2 l.2)

  -- a run that goes on hasn't ended, and one that is done has ended with its status
  abbrev Told : Progress V B T P → Type 0
  Told (Going r) = r.ended ≡ None
  Told (Done status r) = r.ended ≡ Some status
  Told (Gone reason r) = Unit {0}

  begun_told : (r : Run V B T P) (o : Option ℕ) → r.ended ≡ o → Told (begun r o)
  begun_told r None h = h
  begun_told r (Some status) h = h

  next_told : (r : Run V B T P) (next : Next (Run V B T P)) → Told (progress_of r next)
  next_told r (Went u) = begun_told u u.ended refl
  next_told r (Left reason) = tt

  more_told : (q p : Progress V B T P) → Told q → OneMore Step q p → Told p
  more_told (Going r) p told (next, step, is) = subst Told (sym is) (next_told r next)
  more_told (Done status r) p told is = subst Told (sym is) told
  more_told (Gone reason r) p told is = subst Told (sym is) told

  reached_told : (n : ℕ) (r : Run V B T P) (p : Progress V B T P) → Reaches Step n r p → Told p
  reached_told zero r p is = subst Told (sym is) (begun_told r r.ended refl)
  reached_told (suc n) r p (q, reaches, more) = more_told q p (reached_told n r q reaches) more

  -- none of the steps has left
  abbrev IsKept : Progress V B T P → Type 0
  IsKept (Going r) = Unit {0}
  IsKept (Done status r) = Unit {0}
  IsKept (Gone reason r) = ⊥

  run_in-begun : (r : Run V B T P) (o : Option ℕ) → run_in (begun r o) ≡ r
  run_in-begun r None = refl
  run_in-begun r (Some status) = refl

  begun_kept : (r : Run V B T P) (o : Option ℕ) → IsKept (begun r o)
  begun_kept r None = tt
  begun_kept r (Some status) = tt

  one_kept :
      (n : ℕ) (r : Run V B T P) (q p : Progress V B T P) →
      Told q →
      OneMore Step q p →
      IsKept p →
      (IsKept q → ManySteps (Continues Step) n r (run_in q)) →
      ManySteps (Continues Step) (suc n) r (run_in p)
  one_kept n r (Going u) p told (Went v, step, is) kept so_far =
      subst (ManySteps (Continues Step) (suc n) r) (sym (ap run_in is ∙ run_in-begun v v.ended))
      (step_after (Continues Step) n r u v (so_far tt) step)
  one_kept n r (Going u) p told (Left reason, step, is) kept so_far = absurd (subst IsKept is kept)
  one_kept n r (Done status u) p told is kept so_far =
      let step : Continues Step u u = subst (λ o. StepsFrom Step u o (Went u)) (sym told) refl in
      subst (ManySteps (Continues Step) (suc n) r) (sym (ap run_in is)) (step_after (Continues Step) n r u u (so_far tt) step)
  one_kept n r (Gone reason u) p told is kept so_far = absurd (subst IsKept is kept)

  kept_steps : (n : ℕ) (r : Run V B T P) (p : Progress V B T P) → Reaches Step n r p → IsKept p → ManySteps (Continues Step) n r (run_in p)
  kept_steps zero r p is kept = sym (ap run_in is ∙ run_in-begun r r.ended)
  kept_steps (suc n) r p (q, reaches, more) kept = one_kept n r q p (reached_told n r q reaches) more kept (kept_steps n r q reaches)

  -- A run of so many steps that hasn't left is so many steps that don't leave.
  pub reached_steps : (n : ℕ) (r u : Run V B T P) → Reaches Step n r (begun u u.ended) → ManySteps (Continues Step) n r u
  reached_steps n r u h =
      subst (ManySteps (Continues Step) n r) (run_in-begun u u.ended) (kept_steps n r (begun u u.ended) h (begun_kept u u.ended))

  -- a run that is over stays over
  pub over_stays :
      (old : Run V B T P) (p : Progress V B T P) →
      OneMore Step p p →
      (n m : ℕ) →
      n ≤ m →
      Reaches Step n old p →
      Reaches Step m old p
  over_stays old p over n zero le h = let e : n ≡ 0 = omega arith in subst (λ k. Reaches Step k old p) e h
  over_stays old p over n (suc m) le h =
      ⊎_elim
      (λ lt. let e : n ≡ suc m = omega arith in subst (λ k. Reaches Step k old p) e h)
      (λ less. (p, over_stays old p over n m less h, over))
      (cases_lt m n)

-- what a step does to the calls so far
abbrev pub GrowsBy : {V B T P : Type 0} → Run V B T P → Next (Run V B T P) → Type 0
GrowsBy r next = Grows r.events (state_after next r).events

pub no_more : (events : List Event) → Grows events events
no_more events = ([], sym (append-nil events))

module _ {V B T P : Type 0} (d : Domain V B T P) (r : Run V B T P) where
  by_need :
      {A : Type 0} (o : Option A) (reason : Reason) (go : A → Next (Run V B T P)) →
      ((a : A) → GrowsBy r (go a)) →
      GrowsBy r (need o reason go)
  by_need None reason go h = no_more r.events
  by_need (Some a) reason go h = h a

  by_check : (b : Bool) (reason : Reason) (go : Next (Run V B T P)) → GrowsBy r go → GrowsBy r (check b reason go)
  by_check true reason go h = h
  by_check false reason go h = no_more r.events

  by_either : (b : Bool) (n m : Next (Run V B T P)) → GrowsBy r n → GrowsBy r m → GrowsBy r (cond b n m)
  by_either true n m h k = h
  by_either false n m h k = k

  by_next : (n : Next (State V B T P)) → GrowsBy r (next_of r n)
  by_next (Went s) = no_more r.events
  by_next (Left reason) = no_more r.events

  by_asking :
      (may : Permission) (purpose : Purpose) (reason : Reason) (number : ℕ) (go : Asked → Next (Run V B T P)) →
      ((k : Asked) → GrowsBy r (go k)) →
      GrowsBy r (asking d may purpose reason number r go)
  by_asking may purpose reason number go h =
      by_need (number_in d r 4) why.Value _
      (λ address. by_need (number_in d r 5) why.Value _ (λ count. by_check (allows_range may purpose address count) reason _
      (by_need (number_in d r 3) why.Value _
      (λ descriptor. h (record { number = number; descriptor = descriptor; address = address; length = count })))))

  by_write : (a : Answer) (k : Asked) → GrowsBy r (write_by d r a k)
  by_write a k =
      by_need (numbers_in d (bytes_from r.state.byte k.address (granted a k.length))) why.Value
      (λ bytes. Went (after_write d r k a bytes)) (λ bytes. (event_of k a bytes ∷ [], refl))

  by_call : (may : Permission) (number : ℕ) → GrowsBy r (call_by d may r number)
  by_call may number =
      by_either (number == 1 || number == 234) (exits d r) _ (by_need (number_in d r 3) why.Value _ (λ n. no_more r.events))
      (by_either (number == 3) (reads d may r) _
      (by_asking may Storing why.Store 3 (read_by d r (first_answer r.answers))
      (λ k. (event_of k (first_answer r.answers) _ ∷ [], refl)))
      (by_either (number == 4) (writes d may r) (Left why.Call)
      (by_asking may Loading why.Load 4 (write_by d r (first_answer r.answers)) (by_write (first_answer r.answers)))
      (no_more r.events)))

  -- Calls that were made stay made.
  pub operates_grows : (may : Permission) (size : ℕ) (op : Operation) → GrowsBy r (operates d may r size op)
  operates_grows may size op =
      by_either (is_call op) (calls d may r) (next_of r (exec d size may op r.state))
      (by_need (number_in d r 0) why.Value _ (by_call may)) (by_next (exec d size may op r.state))
