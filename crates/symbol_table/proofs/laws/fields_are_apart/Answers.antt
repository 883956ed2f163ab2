use Rattle.symbol_table.specs.laws.Records.{fields_apart}
use Rattle.symbol_table.proofs.laws.fields_are_apart.Goals as goal

-- the field of the earlier record is among those that were looked at
pub returns : goal.returns
returns c = fields_apart
