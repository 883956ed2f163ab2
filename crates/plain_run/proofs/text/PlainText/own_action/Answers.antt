-- An instruction of one word stands there.
use Rattle.std.proofs.Common.{◌∙◌}
use Rattle.power_machine.specs.declared.code.Code.TheVariants.{OneWord}
use Rattle.plain_run.proofs.text.PlainText.own_action.Goals as goal

pub returns-in-Some : goal.returns-in-Some
returns-in-Some c = record {
  done = record {
    code = OneWord c.in-Some.insn;
    stands = (c.in-Some.ensures.fits, c.in-Some.ensures.found ∙ c.word_at.ensures);
    is = c.insn_action.ensures.action;
  };
  action = c.insn_action.ensures.made;
}
