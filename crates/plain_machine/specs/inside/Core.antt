-- What the calls of the machine of places come to.
use Rattle.std.specs.Prelude.{◌≡◌, ℕ, Bool, List, Option, Some, None, slice_index, slice_set}
use Rattle.power_insns.specs.Operations.{count_register}
use Rattle.plain_machine.specs.declared.value.PlainValue.{PlainValue}
use Rattle.plain_machine.specs.declared.value.PlainValue.TheVariants.{Number}
use Rattle.power_insns.specs.declared.meaning.Operand.{Operand}
use Rattle.power_insns.specs.declared.meaning.Condition.{Condition}
use Rattle.power_machine.specs.Memory.{Permission}
use Rattle.power_machine.specs.Machines.{Domain, Next, Went, Left, state_after, value_of, met, sum_address}
use Rattle.plain_machine.specs.declared.place.TextPlace.{TextPlace}
use Rattle.plain_machine.specs.declared.value.Cell.{Cell}
use Rattle.plain_machine.specs.declared.state.PlainCore.{PlainCore}
use Rattle.plain_machine.specs.declared.state.Acted.{Acted}
use Rattle.plain_machine.specs.declared.state.Acted.TheVariants as acted
use Rattle.plain_machine.specs.Plain.{PlainState, places, number_of}
use Rattle.plain_machine.specs.inside.Memory.{cell_at, memory_may}

-- what its values compute
abbrev pub domain_of : PlainCore → Domain PlainValue Cell (Option Bool) TextPlace
domain_of c = places (slice_index c.sizes.items)

-- what the struct stands for
abbrev pub plain_state : PlainCore → PlainState
plain_state c = record { at = c.at; registers = c.registers; condition = c.condition; byte = cell_at c.memory }

abbrev pub core_may : PlainCore → Permission
core_may c = memory_may c.memory

abbrev pub acted_outcome : {S : Type 0} → Next S → Acted
acted_outcome (Went s) = acted.Went
acted_outcome (Left why) = acted.Left why

-- a call that has done what this says, and left what memory permits as it was; want of memory changes nothing
pub record HasActed (next : Next PlainState) (old new : PlainCore) (outcome : Acted) : Type 0 where
  pub outcome_is : outcome ≡ acted_outcome next
  pub state_is : plain_state new ≡ state_after next (plain_state old)
  pub same_may : core_may new ≡ core_may old
  pub same_sizes : new.sizes ≡ old.sizes

pub record IsRefused (old new : PlainCore) : Type 0 where
  pub state_is : plain_state new ≡ plain_state old
  pub same_may : core_may new ≡ core_may old
  pub same_sizes : new.sizes ≡ old.sizes

abbrev pub Did : Next PlainState → PlainCore → PlainCore → Acted → Type 0
Did next old new acted.Refused = IsRefused old new
Did next old new acted.Went = HasActed next old new acted.Went
Did next old new (acted.Left reason) = HasActed next old new (acted.Left reason)

-- the address that a base and an offset make, where both are numbers
abbrev pub sum_in : Option ℕ → Option ℕ → Option ℕ
sum_in None o = None
sum_in (Some b) None = None
sum_in (Some b) (Some o) = Some (sum_address b o)

abbrev pub address_by : PlainState → Operand → Operand → Option ℕ
address_by s base offset = sum_in (number_of (value_of (places (λ section. 0)) s base))
    (number_of (value_of (places (λ section. 0)) s offset))

-- whether a bit that is known is as a condition wants it
abbrev pub met_by : Condition → Option Bool → Option Bool
met_by condition None = None
met_by condition (Some b) = Some (met condition b)

-- the registers with CTR as it is lowered, if it is
abbrev pub counted : PlainState → Option ℕ → List PlainValue
counted s None = s.registers
counted s (Some n) = slice_set s.registers count_register (Number n)
