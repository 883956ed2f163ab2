-- The law, by its lemma.
use Rattle.elf64_exec.specs.laws.Faults.{no_fault}
use Rattle.elf64_exec.proofs.laws.loaded_has_no_fault.Goals as goal

pub returns : goal.returns
returns c file entry segments fault loads has = no_fault file entry segments fault loads has
