-- The text of a run from its parts.
use Rattle.std.proofs.Common.{◌≡◌, ℕ, zero, suc, ◌+◌, ◌<◌, List, [], ◌∷◌, ◌++◌, length, take, get_or, sym, ap, ◌∙◌, subst, arith, add-one}
use Rattle.std.specs.Prelude.{drop, Result, Ok, Err, IfOk}
use Rattle.std.proofs.lemmas.List.{append_assoc, append-nil}
use Rattle.elf64_exec.specs.declared.layout.Segment.{Segment}
use Rattle.ppc_bytes.specs.declared.memory.Memory.{Memory as NoRoom}
use Rattle.power_machine.specs.declared.machine.Machine.{Machine}
use Rattle.power_machine.specs.declared.machine.Outcome.{Outcome}
use Rattle.power_machine.specs.declared.machine.Outcome.TheVariants as outcome
use Rattle.power_machine.specs.declared.world.World.{World}
use Rattle.power_machine.specs.declared.world.Event.{Event}
use Rattle.power_machine.specs.Start.{IsStart, start_ranges, start_run}
use Rattle.power_machine.specs.Runs.{Going, Done, Gone}
use Rattle.power_machine.specs.laws.Steps.{starts}
use Rattle.power_machine.specs.Steps.{NumberRun, RunAnswers, run_of, machine_ranges}
use Rattle.ppclink.specs.declared.run_text.RunText.{RunText}
use Rattle.ppclink.specs.Runs.{printed, event_line, event_lines, left_line, address_text}
use Rattle.ppclink.specs.inside.Reports.{SaysEnd, RunSays}

-- the line of one more call
lines-suc : (events : List Event) (i : ℕ) (e : Event) →
    i < length events →
    event_lines (take (suc i) events) ≡ event_lines (take i events) ++ event_line (get_or events i e)
lines-suc [] i e lt = absurd (omega arith)
lines-suc (d ∷ events) zero e lt = append-nil (event_line d)
lines-suc (d ∷ events) (suc i) e lt =
    ap (λ l. event_line d ++ l) (lines-suc events i e (omega arith))
    ∙ sym (append_assoc (event_line d) (event_lines (take i events)) (event_line (get_or events i e)))

pub event_more : (events : List Event) (i : ℕ) (e : Event) (old new : List ℕ) →
    i < length events →
    e ≡ get_or events i e →
    old ≡ event_lines (take i events) →
    new ≡ old ++ event_line e →
    new ≡ event_lines (take (i + 1) events)
event_more events i e old new lt is before pushed =
    pushed
    ∙ ap (λ l. l ++ event_line e) before
    ∙ ap (λ d. event_lines (take i events) ++ event_line d) is
    ∙ sym (lines-suc events i e lt)
    ∙ sym (ap (λ k. event_lines (take k events)) (add-one i))

-- what is said of a run is what it came to
says : (entry budget status : ℕ) (segments : List Segment) (input : List ℕ) (new : NumberRun) (o : Outcome) (text : List ℕ) →
    RunAnswers (start_ranges segments) budget (start_run entry segments input []) new o →
    SaysEnd new.events o status text →
    RunSays entry segments input budget status text
says entry budget status segments input new (outcome.Exited code) text run (s, t) =
    record { progress = Done code new; reaches = run; is = ap (printed 0) (sym t) ∙ ap (λ n. printed n text) (sym s) }
says entry budget status segments input new (outcome.Left reason at) text run (s, t) = record {
  progress = Gone reason new;
  reaches = run.0;
  is =
      ap (λ (z : ℕ). printed 6 (event_lines new.events ++ left_line reason (address_text z))) (sym run.1)
      ∙ ap (printed 6) (sym t)
      ∙ ap (λ n. printed n text) (sym s);
}
says entry budget status segments input new outcome.Budget text run (s, t) =
    record { progress = Going new; reaches = run; is = ap (printed 7) (sym t) ∙ ap (λ n. printed n text) (sym s) }
says entry budget status segments input new outcome.Memory text run said = absurd said

-- a machine that was loaded, in a new world, runs as its program does
pub ran : (m : Machine) (w : World) (new : NumberRun) (entry budget n : ℕ) (segments : List Segment) (input : List ℕ)
    (events : List Event) (o : Outcome) (r : Result RunText NoRoom) →
    IsStart entry segments m →
    drop w.taken w.input.items ≡ input →
    drop w.used w.answers.items ≡ [] →
    n ≡ budget →
    new.events ≡ events →
    RunAnswers (machine_ranges m) n (run_of m w) new o →
    IfOk r (λ t. SaysEnd events o t.status t.text.items) →
    IfOk r (λ t. RunSays entry segments input budget t.status t.text.items)
ran m w new entry budget n segments input events o (Err e) start given answers count same run said = tt
ran m w new entry budget n segments input events o (Ok t) start given answers count same run said =
    let from = subst (λ old. RunAnswers (machine_ranges m) n old new o) (starts m w entry segments input [] start given answers) run in
    let over = subst (λ l. RunAnswers l n (start_run entry segments input []) new o) start.ranges from in
    let here = subst (λ k. RunAnswers (start_ranges segments) k (start_run entry segments input []) new o) count over in
    says entry budget t.status segments input new o t.text.items here (subst (λ e. SaysEnd e o t.status t.text.items) (sym same) said)
