use Rattle.power_machine.specs.Calls.{AreAnswers}
use Rattle.power_machine.proofs.test_programs.answers_of.Given as goal

abbrev pub invariant-loop-name : goal.invariant-loop-name
invariant-loop-name l = AreAnswers l.answers.items
