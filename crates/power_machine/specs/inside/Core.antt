-- What the calls of the core come to.
use Rattle.std.specs.Prelude.{◌≡◌, ℕ, Bool, Option}
use Rattle.power_machine.specs.declared.state.Core.{Core}
use Rattle.power_machine.specs.declared.state.CoreOutcome.{CoreOutcome}
use Rattle.power_machine.specs.declared.state.CoreOutcome.TheVariants.{Went as Went', Left as Left', Memory as Memory'}
use Rattle.power_machine.specs.Memory.{keeps_page}
use Rattle.power_machine.specs.Paging.{Span, kept_with}
use Rattle.power_machine.specs.Machines.{Next, Went, Left, state_after, register}
use Rattle.power_machine.specs.Numbers.{NumberState, numbers, state_of, core_ranges}
use Rattle.power_machine.specs.Calls.{Asked}

abbrev pub core_outcome : {S : Type 0} → Next S → CoreOutcome
core_outcome (Went s) = Went'
core_outcome (Left why) = Left' why

abbrev pub core_pages : Core → ℕ → Bool
core_pages c page = keeps_page c.memory.regions.items page

-- the pages after an operation that stores there if it goes
abbrev pub PagesBy : Option Span → (ℕ → Bool) → (ℕ → Bool) → CoreOutcome → Type 0
PagesBy span before after Went' = after ≡ kept_with before span
PagesBy span before after o = after ≡ before

-- a call that has done what this says
pub record Acted (next : Next NumberState) (span : Option Span) (old new : Core) (outcome : CoreOutcome) : Type 0 where
  pub outcome_is : outcome ≡ core_outcome next
  pub state_is : state_of new ≡ state_after next (state_of old)
  pub same_ranges : core_ranges new ≡ core_ranges old
  pub pages : PagesBy span (core_pages old) (core_pages new) outcome

-- want of memory changes nothing
abbrev pub Did : Next NumberState → Option Span → Core → Core → CoreOutcome → Type 0
Did next span old new Memory' = new ≡ old
Did next span old new outcome = Acted next span old new outcome

-- what a call with this number asks for
abbrev pub asked_in : ℕ → NumberState → Asked
asked_in number s =
    record {
      number = number;
      descriptor = register numbers s.registers 3;
      address = register numbers s.registers 4;
      length = register numbers s.registers 5;
    }
