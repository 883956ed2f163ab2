-- A prefixed instruction stands there.
use Rattle.power_machine.specs.declared.code.Code.TheVariants.{TwoWords}
use Rattle.plain_run.proofs.PairActions.{whole_pair, two_words}
use Rattle.plain_run.proofs.text.PlainText.pair_action_at.Goals as goal

pub returns-in-Some : goal.returns-in-Some
returns-in-Some c =
    let files = c.args.self.now.files in
    let plan = c.args.self.now.plan in
    let p = c.args.p in
    let next = c.ahead-next.result in
    let found = c.in-Some.ensures.found in
    record {
      done = record {
        code = TwoWords c.in-Some.insn;
        stands = (
          c.requires.none,
          (
            whole_pair files plan p next c.is_free.result c.may_cross.result c.ahead-next.ensures c.is_free.ensures c.if-not-is_free.false
                c.may_cross.ensures c.if-may_cross.false,
            two_words files plan p next c.word_at.result c.word_at-2.result c.in-Some.insn c.ahead-next.ensures c.word_at.ensures
                c.word_at-2.ensures (c.in-Some.ensures.fits, found.0, found.1),
          ),
        );
        is = c.pair_action.ensures.action;
      };
      action = c.pair_action.ensures.made;
    }
