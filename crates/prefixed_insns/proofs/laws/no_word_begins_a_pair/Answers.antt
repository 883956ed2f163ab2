-- The primary opcode of a prefix is 1, and no word of the subset has it.
use Rattle.prefixed_insns.proofs.Opcodes.{apart}
use Rattle.prefixed_insns.proofs.laws.no_word_begins_a_pair.Goals as goal

pub returns : goal.returns
returns c = apart
