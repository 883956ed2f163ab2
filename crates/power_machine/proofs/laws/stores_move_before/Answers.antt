-- The law of operations that read and write other registers, and of stores.
use Rattle.power_machine.specs.laws.Window.{store_moves_before}
use Rattle.power_machine.proofs.laws.stores_move_before.Goals as goal

pub returns : goal.returns
returns c = store_moves_before
