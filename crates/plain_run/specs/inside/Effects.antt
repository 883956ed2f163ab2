-- What is known of effects while actions are made of them.
use Rattle.std.specs.Prelude.{◌≡◌}
use Rattle.power_machine.specs.declared.code.Code.{Code}
use Rattle.plain_machine.specs.declared.action.Action.{Action}
use Rattle.plain_machine.specs.declared.action.Effect.{Effect}
use Rattle.plain_machine.specs.declared.value.PlainValue.{PlainValue}
use Rattle.plain_machine.specs.Actions.{IsNamedEffect, MayNeed, IsAction}
use Rattle.plain_run.specs.Effects.{IsDone, code_acting}

-- an effect that may stand beside needs
pub record IsReadyEffect (e : Effect) : Type 0 where
  pub named : IsNamedEffect e
  pub needs : MayNeed e

-- what something that stands there as an instruction does with a value
pub record IsActing (Is : Code → Type 0) (v : PlainValue) (e : Effect) : Type 0 where
  pub code : Code
  pub stands : Is code
  pub is : e ≡ code_acting v code

-- an action of what stands there as an instruction, which the machine can make
pub record IsMade (Is : Code → Type 0) (with : Code → Action) (a : Action) : Type 0 where
  pub done : IsDone Is with a
  pub action : IsAction a
