use Rattle.image_writer.specs.Rewriting.{rewriting_of}
use Rattle.link_engine.proofs.Overflows.{no_overflow, in_text, in_data, in_both}
use Rattle.link_engine.proofs.whole_job.contents.Goals as goal

-- no field overflows
pub returns-in-Ok-Ok-clause-refusal : goal.returns-in-Ok-Ok-clause-refusal
returns-in-Ok-Ok-clause-refusal c =
    no_overflow c.args.res.now.files c.args.plan.now.span c.args.settled.now.places.sections
    (rewriting_of c.args.res.now.files c.args.plan.now.span c.args.pairs.now) c.in-Ok-Ok.ensures.refusal
    c.in-Ok-Ok.ensures'.refusal

-- one of text alone
pub returns-in-Ok-Err-clause-refusal : goal.returns-in-Ok-Err-clause-refusal
returns-in-Ok-Err-clause-refusal c =
    in_text c.args.res.now.files c.args.plan.now.span c.args.settled.now.places.sections
    (rewriting_of c.args.res.now.files c.args.plan.now.span c.args.pairs.now) c.in-Ok-Err.refusal
    c.in-Ok-Err.ensures.refusal c.in-Ok-Err.ensures'.refusal

-- one of data alone
pub returns-in-Err-Ok-clause-refusal : goal.returns-in-Err-Ok-clause-refusal
returns-in-Err-Ok-clause-refusal c =
    in_data c.args.res.now.files c.args.plan.now.span c.args.settled.now.places.sections
    (rewriting_of c.args.res.now.files c.args.plan.now.span c.args.pairs.now) c.in-Err-Ok.refusal
    c.in-Err-Ok.ensures.refusal c.in-Err-Ok.ensures'.refusal

-- the earlier of two
pub returns-clause-refusal : goal.returns-clause-refusal
returns-clause-refusal c =
    in_both c.args.res.now.files c.args.plan.now.span c.args.settled.now.places.sections
    (rewriting_of c.args.res.now.files c.args.plan.now.span c.args.pairs.now) c.in-Err-Err.in_data c.in-Err-Err.in_text
    c.earlier.result c.in-Err-Err.ensures.refusal c.in-Err-Err.ensures'.refusal c.earlier.ensures
