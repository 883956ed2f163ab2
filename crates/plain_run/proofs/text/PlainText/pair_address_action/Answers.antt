-- A prefixed instruction that may cross a boundary isn't run, and another one acts with the record's value.
use Rattle.std.proofs.Common.{ap, ◌∙◌}
use Rattle.power_insns.specs.declared.meaning.Operation.{Operation}
use Rattle.power_machine.specs.declared.code.Code.TheVariants.{TwoWords, Unknown}
use Rattle.plain_machine.specs.declared.value.PlainValue.{PlainValue}
use Rattle.prefixed_insns.specs.Meaning.{operation_of_pair}
use Rattle.plain_run.specs.Effects.{acting_with, does}
use Rattle.plain_run.proofs.PairActions.{crossed, no_words, not_crossed, two_words}
use Rattle.plain_run.proofs.text.PlainText.pair_address_action.Goals as goal

pub returns-then-may_cross-clause-done : goal.returns-then-may_cross-clause-done
returns-then-may_cross-clause-done c = record {
  code = Unknown;
  stands = crossed c.args.self.now.files c.args.self.now.plan c.args.p c.may_cross.result c.may_cross.ensures c.if-may_cross.true;
  is = c.leaves.ensures.action;
}

pub returns-in-Some-clause-done : goal.returns-in-Some-clause-done
returns-in-Some-clause-done c =
    let files = c.args.self.now.files in
    let plan = c.args.self.now.plan in
    let p = c.args.p in
    let found = c.in-Some.ensures.found in
    record {
      code = TwoWords c.in-Some.insn;
      stands = (
        not_crossed files plan p c.may_cross.result c.may_cross.ensures c.if-may_cross.false,
        two_words files plan p c.ahead.result c.word_at.result c.word_at-2.result c.in-Some.insn c.ahead.ensures c.word_at.ensures
            c.word_at-2.ensures (c.in-Some.ensures.fits, found.0, found.1),
      );
      is = c.does.ensures.action
          ∙ ap does (c.acting_with.ensures.effect ∙ ap (λ (op : Operation). acting_with 8 c.args.goal op) c.plan_for_pair.ensures.plan
          ∙ ap (λ (v : PlainValue). acting_with 8 v (operation_of_pair c.in-Some.insn)) c.requires.goal);
    }

pub returns-in-None-clause-done : goal.returns-in-None-clause-done
returns-in-None-clause-done c =
    let files = c.args.self.now.files in
    let plan = c.args.self.now.plan in
    let p = c.args.p in
    record {
      code = Unknown;
      stands = no_words files plan p _ c.ahead.result c.word_at.result c.word_at-2.result c.ahead.ensures c.word_at.ensures
          c.word_at-2.ensures
          (λ insn is. let none = c.in-None.ensures.only insn is.0 is.1 is.2 in cc);
      is = c.leaves-in-None.ensures.action;
    }
