-- The machine of numbers has one step, and its calls only grow.
use Rattle.std.proofs.Common.{List, [], drop, ◌≡◌, ℕ, Bool, true, false, Option, Some, None, refl, sym, ap, ◌∙◌, subst}
use Rattle.power_insns.specs.Operations.{operation_of}
use Rattle.power_insns.specs.laws.Words.{one_word}
use Rattle.prefixed_insns.specs.Meaning.{operation_of_pair}
use Rattle.prefixed_insns.specs.laws.Pairs.{one_pair}
use Rattle.elf64_exec.specs.declared.layout.Segment.{Segment}
use Rattle.power_machine.specs.declared.code.Code.{Code}
use Rattle.power_machine.specs.declared.code.Code.TheVariants.{Unfetched, Unknown, OneWord, TwoWords}
use Rattle.power_machine.specs.declared.machine.Machine.{Machine}
use Rattle.power_machine.specs.declared.world.Answer.{Answer}
use Rattle.power_machine.specs.declared.world.World.{World}
use Rattle.power_machine.specs.Memory.{Range, within}
use Rattle.power_machine.specs.Codes.{Stands}
use Rattle.power_machine.specs.Machines.{Next, state_after}
use Rattle.power_machine.specs.Numbers.{numbers}
use Rattle.power_machine.specs.Runs.{StepsFrom, Steps, Grows}
use Rattle.power_machine.specs.Steps.{NumberRun, NumberProgress, IsStep, ReachesIn, step_over, run_of}
use Rattle.power_machine.specs.Start.{IsStart, start_ranges, start_run, start_state, RunsTo}
use Rattle.power_machine.specs.laws.Runs.{StepsOnce, one_progress, GrowsBy, no_more, operates_grows}

both : (b : Bool) → b ≡ true → b ≡ false → ⊥
both true e f = cc
both false e f = cc

-- exactly one thing stands at an address
pub one_code : (ranges : List Range) (byte : ℕ → ℕ) (at : ℕ) (c d : Code) → Stands ranges byte at c → Stands ranges byte at d → c ≡ d
one_code ranges byte at Unfetched Unfetched h k = refl
one_code ranges byte at Unfetched Unknown h k = absurd (both _ k.0 h)
one_code ranges byte at Unfetched (OneWord j) h k = absurd (both _ k.0 h)
one_code ranges byte at Unfetched (TwoWords j) h k = absurd (both _ k.0 h)
one_code ranges byte at Unknown Unfetched h k = absurd (both _ h.0 k)
one_code ranges byte at Unknown Unknown h k = refl
one_code ranges byte at Unknown (OneWord j) h k = absurd (h.1 j k.1)
one_code ranges byte at Unknown (TwoWords j) h k = absurd (h.2 j k.2 k.3)
one_code ranges byte at (OneWord i) Unfetched h k = absurd (both _ h.0 k)
one_code ranges byte at (OneWord i) Unknown h k = absurd (k.1 i h.1)
one_code ranges byte at (OneWord i) (OneWord j) h k = ap OneWord (one_word i j h.1.0 k.1.0 (h.1.1 ∙ sym k.1.1))
one_code ranges byte at (OneWord i) (TwoWords j) h k = absurd (k.1 i h.1)
one_code ranges byte at (TwoWords i) Unfetched h k = absurd (both _ h.0 k)
one_code ranges byte at (TwoWords i) Unknown h k = absurd (k.2 i h.2 h.3)
one_code ranges byte at (TwoWords i) (OneWord j) h k = absurd (h.1 j k.1)
one_code ranges byte at (TwoWords i) (TwoWords j) h k = ap TwoWords (one_pair i j h.3.0 k.3.0 (h.3.1 ∙ sym k.3.1) (h.3.2 ∙ sym k.3.2))

pub steps_once : (ranges : List Range) → StepsOnce (IsStep ranges)
steps_once ranges r n m h k =
    h.is ∙ ap (step_over ranges r) (one_code ranges r.state.byte r.state.at h.code k.code h.stands k.stands) ∙ sym k.is

code_grows : (ranges : List Range) (r : NumberRun) (code : Code) → GrowsBy r (step_over ranges r code)
code_grows ranges r Unfetched = no_more r.events
code_grows ranges r Unknown = no_more r.events
code_grows ranges r (OneWord insn) = operates_grows numbers r (within ranges) 4 (operation_of insn)
code_grows ranges r (TwoWords insn) = operates_grows numbers r (within ranges) 8 (operation_of_pair insn)

from_grows : (ranges : List Range) (r : NumberRun) (o : Option ℕ) (n : Next NumberRun) → StepsFrom (IsStep ranges) r o n → GrowsBy r n
from_grows ranges r (Some status) n h = subst (GrowsBy r) (sym h) (no_more r.events)
from_grows ranges r None n h = subst (GrowsBy r) (sym h.is) (code_grows ranges r h.code)

pub steps_grow :
    (ranges : List Range) (r : NumberRun) (n : Next NumberRun) →
    Steps (IsStep ranges) r n →
    Grows r.events (state_after n r).events
steps_grow ranges r n h = from_grows ranges r r.ended n h

-- one progress after at most so many steps
pub one_progress_in :
    (ranges : List Range) (n : ℕ) (r : NumberRun) (p p' : NumberProgress) →
    ReachesIn ranges n r p →
    ReachesIn ranges n r p' →
    p ≡ p'
one_progress_in ranges n r p p' h k = one_progress (IsStep ranges) (steps_once ranges) n r p p' h k

-- An executable comes to one progress in at most so many steps.
pub one_run :
    (file input : List ℕ) (answers : List Answer) (n : ℕ) (p p' : NumberProgress) →
    RunsTo file input answers n p →
    RunsTo file input answers n p' →
    p ≡ p'
one_run file input answers n p p' a b =
    let entries : a.entry ≡ b.entry = a.loads.entry_is ∙ sym b.loads.entry_is in
    let lists : a.segments ≡ b.segments = a.loads.segments_are ∙ sym b.loads.segments_are in
    let Here = λ (entry : ℕ) (segments : List Segment). ReachesIn (start_ranges segments) n (start_run entry segments input answers) p in
    let here : Here b.entry b.segments = subst (λ l. Here b.entry l) lists (subst (λ e. Here e a.segments) entries a.reaches) in
    one_progress_in (start_ranges b.segments) n (start_run b.entry b.segments input answers) p p' here b.reaches

-- A machine that was loaded, in a world with this input and these answers, is a program at its start.
pub starts :
    (m : Machine) (w : World) (entry : ℕ) (segments : List Segment) (input : List ℕ) (answers : List Answer) →
    IsStart entry segments m →
    drop w.taken w.input.items ≡ input →
    drop w.used w.answers.items ≡ answers →
    run_of m w ≡ start_run entry segments input answers
starts m w entry segments input answers start given replies =
    let at = start_state entry segments in
    ap (λ s. record {
      state = s;
      input = drop w.taken w.input.items;
      answers = drop w.used w.answers.items;
      events = m.events.items;
      ended = m.ended;
    }) start.state
    ∙ ap (λ i. record { state = at; input = i; answers = drop w.used w.answers.items; events = m.events.items; ended = m.ended }) given
    ∙ ap (λ a. record { state = at; input = input; answers = a; events = m.events.items; ended = m.ended }) replies
    ∙ ap (λ e. record { state = at; input = input; answers = answers; events = e; ended = m.ended }) start.events
    ∙ ap (λ o. record { state = at; input = input; answers = answers; events = []; ended = o }) start.ended
