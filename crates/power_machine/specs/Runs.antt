-- Runs in general: over every kind of value, and for every way in which a run that goes on takes a step.
use Rattle.std.specs.Prelude.{◌≡◌, ℕ, zero, suc, Bool, true, false, List, ◌++◌, Option, Some, None, if◌then◌else◌}
use Rattle.power_insns.specs.declared.meaning.Operation.{Operation}
use Rattle.power_insns.specs.declared.meaning.Operation.TheVariants.{System}
use Rattle.power_machine.specs.declared.reason.Reason.{Reason}
use Rattle.power_machine.specs.declared.world.Event.{Event}
use Rattle.power_machine.specs.Memory.{Permission}
use Rattle.power_machine.specs.Machines.{Domain, State, Next, Went, Left, exec}
use Rattle.power_machine.specs.Calls.{Run, calls}

abbrev pub is_call : Operation → Bool
is_call System = true
is_call other = false

-- what an operation on the state does to a run
abbrev pub next_of : {V B T P : Type 0} → Run V B T P → Next (State V B T P) → Next (Run V B T P)
next_of r (Went s) = Went (record { state = s; input = r.input; answers = r.answers; events = r.events; ended = r.ended })
next_of r (Left reason) = Left reason

-- an operation, of an instruction of so many bytes
abbrev pub operates : {V B T P : Type 0} → Domain V B T P → Permission → Run V B T P → ℕ → Operation → Next (Run V B T P)
operates d may r size operation = if is_call operation then calls d may r else next_of r (exec d size may operation r.state)

-- How far a run is: it goes on, has ended with a status, or has left for a reason, at the place where it stands.
pub data Progress (V B T P : Type 0) : Type 0 where
  Going : Run V B T P → Progress V B T P
  Done : ℕ → Run V B T P → Progress V B T P
  Gone : Reason → Run V B T P → Progress V B T P

module _ {V B T P : Type 0} where
  abbrev pub begun : Run V B T P → Option ℕ → Progress V B T P
  begun r None = Going r
  begun r (Some status) = Done status r

  abbrev pub progress_of : Run V B T P → Next (Run V B T P) → Progress V B T P
  progress_of old (Went r) = begun r r.ended
  progress_of old (Left reason) = Gone reason old

  -- the run as it stands
  abbrev pub run_in : Progress V B T P → Run V B T P
  run_in (Going r) = r
  run_in (Done status r) = r
  run_in (Gone reason r) = r

-- `Step r next` says that a run r that goes on comes to this in one step.
module _ {V B T P : Type 0} (Step : Run V B T P → Next (Run V B T P) → Type 0) where
  -- a step of a run that has ended changes nothing
  abbrev pub StepsFrom : Run V B T P → Option ℕ → Next (Run V B T P) → Type 0
  StepsFrom r None next = Step r next
  StepsFrom r (Some status) next = next ≡ Went r

  abbrev pub Steps : Run V B T P → Next (Run V B T P) → Type 0
  Steps r next = StepsFrom r r.ended next

  -- one more step: a run that is over stays over
  abbrev pub OneMore : Progress V B T P → Progress V B T P → Type 0
  OneMore (Going r) p = (next : Next (Run V B T P)) × Steps r next × (p ≡ progress_of r next)
  OneMore over p = p ≡ over

  -- the progress after at most so many steps
  abbrev pub Reaches : ℕ → Run V B T P → Progress V B T P → Type 0
  Reaches zero r p = p ≡ begun r r.ended
  Reaches (suc n) r p = (q : Progress V B T P) × Reaches n r q × OneMore q p

  -- one step that doesn't leave
  abbrev pub Continues : Run V B T P → Run V B T P → Type 0
  Continues r u = Steps r (Went u)

-- the calls so far, and perhaps more
abbrev pub Grows : List Event → List Event → Type 0
Grows before now = (more : List Event) × (now ≡ before ++ more)
