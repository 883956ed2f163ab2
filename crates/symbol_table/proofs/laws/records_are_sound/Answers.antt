use Rattle.symbol_table.specs.laws.Records.{records_sound}
use Rattle.symbol_table.proofs.laws.records_are_sound.Goals as goal

-- none of what a record is refused for is so
pub returns : goal.returns
returns c = records_sound
