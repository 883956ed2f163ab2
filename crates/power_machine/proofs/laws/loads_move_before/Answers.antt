-- The law of operations that read and write other registers, and of loads.
use Rattle.power_machine.specs.laws.Window.{load_moves_before}
use Rattle.power_machine.proofs.laws.loads_move_before.Goals as goal

pub returns : goal.returns
returns c = load_moves_before
