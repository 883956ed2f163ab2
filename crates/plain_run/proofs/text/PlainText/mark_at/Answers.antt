-- The mark tells.
use Rattle.plain_run.proofs.Standings.{some_told}
use Rattle.plain_run.proofs.text.PlainText.mark_at.Goals as goal

pub returns-clause-some : goal.returns-clause-some
returns-clause-some c =
    some_told c.args.self.now.files c.args.self.now.pairs c.args.p c.section_of.result.now c.section_of.ensures.text c.if-p-ne0.false
    c.section_of.ensures.marks c.mark.result c.mark.ensures
