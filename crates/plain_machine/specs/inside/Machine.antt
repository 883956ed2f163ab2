-- What the struct of the machine of places stands for, and what its calls come to.
use Rattle.std.specs.Prelude.{◌≡◌, ℕ, true, false, List, drop, slice_index_or, Option, Some, None}
use Rattle.power_machine.specs.declared.reason.Reason.{Reason}
use Rattle.power_machine.specs.declared.world.Event.{Event}
use Rattle.power_machine.specs.declared.world.World.{World}
use Rattle.power_machine.specs.Calls.{Asked}
use Rattle.plain_machine.specs.declared.calls.Request.{Request}
use Rattle.power_machine.specs.Machines.{Next, Went, Left, state_after, exec, sum_address}
use Rattle.power_machine.specs.Memory.{Permission}
use Rattle.plain_machine.specs.declared.machine.PlainMachine.{PlainMachine}
use Rattle.plain_machine.specs.declared.machine.Performed.{Performed}
use Rattle.plain_machine.specs.declared.machine.Performed.TheVariants as performed
use Rattle.plain_machine.specs.Actions.{PlainRun, toc_save, stack_pointer, saved, call_saving, restored}
use Rattle.plain_machine.specs.declared.action.Effect.{Effect}
use Rattle.plain_machine.specs.declared.action.Effect.TheVariants.{Leave, Operate, Give, Access, Enter, Call, Restore}
use Rattle.plain_machine.specs.declared.state.Acted.{Acted}
use Rattle.plain_machine.specs.declared.state.Acted.TheVariants as acted
use Rattle.plain_machine.specs.declared.state.PlainCore.{PlainCore}
use Rattle.power_machine.specs.declared.memory.Stored.{Stored}
use Rattle.power_machine.specs.declared.memory.Stored.TheVariants.{Whole, Outside, Refused}
use Rattle.plain_machine.specs.inside.Memory.{cell_at}
use Rattle.power_machine.specs.declared.memory.Purpose.TheVariants.{Storing}
use Rattle.plain_machine.specs.declared.value.PlainValue.TheVariants.{Number}
use Rattle.plain_machine.specs.Plain.{PlainState, places, number_of}
use Rattle.plain_machine.specs.inside.Core.{plain_state, core_may, IsRefused}

-- the machine in its world
abbrev pub run_of : PlainMachine → World → PlainRun
run_of m w =
    record {
      state = plain_state m.core;
      input = drop w.taken w.input.items;
      answers = drop w.used w.answers.items;
      events = m.events.items;
      ended = m.ended;
    }

abbrev pub machine_may : PlainMachine → Permission
machine_may m = core_may m.core

-- what it holds, the sizes of its text sections, its calls, and its status where it has ended
abbrev pub machine_state : PlainMachine → PlainState
machine_state m = plain_state m.core

abbrev pub machine_sizes : PlainMachine → List ℕ
machine_sizes m = m.core.sizes.items

abbrev pub machine_events : PlainMachine → List Event
machine_events m = m.events.items

abbrev pub machine_ended : PlainMachine → Option ℕ
machine_ended m = m.ended

abbrev pub went_outcome : Option ℕ → Performed
went_outcome None = performed.Went
went_outcome (Some status) = performed.Ended status

-- what a step answers
abbrev pub outcome_of : Next PlainRun → Performed
outcome_of (Went r) = went_outcome r.ended
outcome_of (Left reason) = performed.Left reason

-- what stays as it was
pub record Stays (old new : PlainMachine) : Type 0 where
  pub same_may : machine_may new ≡ machine_may old
  pub same_sizes : new.core.sizes ≡ old.core.sizes

-- a call that has done what this step says; want of memory changes nothing
abbrev pub Performs : Next PlainRun → PlainRun → PlainRun → Performed → Type 0
Performs next old new performed.Memory = new ≡ old
Performs next old new o = (o ≡ outcome_of next) × (new ≡ state_after next old)

-- what a call with this number asks for
abbrev pub asked_with : ℕ → Request → Asked
asked_with number q = record { number = number; descriptor = q.descriptor; address = q.address; length = q.length }

-- where the TOC base is saved in a frame, where the stack pointer is a number
abbrev pub frame_save : Option ℕ → Option ℕ
frame_save None = None
frame_save (Some frame) = Some (sum_address frame toc_save)

abbrev pub save_address : PlainState → Option ℕ
save_address s = frame_save (number_of (slice_index_or s.registers stack_pointer (Number 0)))

-- what became of a TOC base that was to be saved at an address
pub record HasSaved (old new : PlainCore) (base at : ℕ) : Type 0 where
  pub allowed : core_may old Storing at 8 ≡ true
  pub byte_is : cell_at new.memory ≡ saved (plain_state old) base at
  pub same_may : core_may new ≡ core_may old
  pub at_is : new.at ≡ old.at
  pub registers_are : new.registers ≡ old.registers
  pub condition_is : new.condition ≡ old.condition
  pub same_sizes : new.sizes ≡ old.sizes

abbrev pub SavesAt : PlainCore → PlainCore → ℕ → ℕ → Stored → Type 0
SavesAt old new base at Whole = HasSaved old new base at
SavesAt old new base at Outside = (core_may old Storing at 8 ≡ false) × (new ≡ old)
SavesAt old new base at Refused = IsRefused old new

-- what an operation on the state comes to for the machine
abbrev pub performed_by : Acted → Performed
performed_by acted.Went = performed.Went
performed_by (acted.Left reason) = performed.Left reason
performed_by acted.Refused = performed.Memory

-- why a step isn't made, if it isn't
abbrev pub fault_of : {S : Type 0} → Next S → Option Reason
fault_of (Went s) = None
fault_of (Left reason) = Some reason

-- why an effect that may need something isn't made, if it isn't
abbrev pub state_fault : (ℕ → ℕ) → Permission → Effect → PlainState → Option Reason
state_fault size_of may (Leave reason) s = Some reason
state_fault size_of may (Operate size op) s = fault_of (exec (places size_of) size may op s)
state_fault size_of may (Give size to value) s = None
state_fault size_of may (Access op through) s = fault_of (exec (places size_of) 4 may op s)
state_fault size_of may (Enter base) s = None
state_fault size_of may (Call c) s = fault_of (call_saving may s c c.saves)
state_fault size_of may (Restore site base) s = fault_of (restored size_of may s site base)
