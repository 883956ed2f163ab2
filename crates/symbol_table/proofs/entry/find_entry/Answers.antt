use Rattle.std.proofs.Common.{sym, ◌∙◌}
use Rattle.symbol_table.specs.laws.Definitions.{definition_placed}
use Rattle.symbol_table.proofs.entry.find_entry.Goals as goal

-- what the entry's name stands for is a symbol of one of the files
pub instruction-requires-clause-file : goal.instruction-requires-clause-file
instruction-requires-clause-file c =
    (definition_placed c.args.texts.now c.args.entry.now c.in-Definition.symbol (sym c.requires.resolution ∙ c.in-Definition.is)).file_in

-- and its number is one of that file
pub instruction-requires-clause-within : goal.instruction-requires-clause-within
instruction-requires-clause-within c =
    (definition_placed c.args.texts.now c.args.entry.now c.in-Definition.symbol (sym c.requires.resolution ∙ c.in-Definition.is)).within
