-- The law, by its lemma.
use Rattle.elf64_exec.specs.laws.Faults.{one_fault}
use Rattle.elf64_exec.proofs.laws.faults_are_one.Goals as goal

pub returns : goal.returns
returns c file a b has has' real real' = one_fault file a b has has' real real'
