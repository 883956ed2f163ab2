use Rattle.pcrel_rewrite.specs.laws.Pairs.{no_field_between, tail_word}
use Rattle.pcrel_rewrite.proofs.laws.accesses_are_alone.Goals as goal

-- a smaller range is met by fewer fields
pub returns-clause-field : goal.returns-clause-field
returns-clause-field c = no_field_between

-- its opcode is 32 or more
pub returns-clause-word : goal.returns-clause-word
returns-clause-word c = tail_word
