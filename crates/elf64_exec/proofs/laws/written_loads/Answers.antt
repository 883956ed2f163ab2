-- The law, by its lemma.
use Rattle.elf64_exec.proofs.Written.{Loads-executable}
use Rattle.elf64_exec.proofs.laws.written_loads.Goals as goal

pub returns : goal.returns
returns c entry segments entry_fits flags_fit image = Loads-executable entry segments entry_fits flags_fit image
