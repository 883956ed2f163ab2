use Rattle.std.proofs.Common.{ℕ, Option, ap, ◌∙◌}
use Rattle.ppclink.specs.Requests.{link_by_branch, link_with_branch, link_with_toc, texts}
use Rattle.ppclink.proofs.words.parse_branch.Goals as goal

-- a span that is named
pub returns-in-Some-clause-value : goal.returns-in-Some-clause-value
unfolding link_with_branch
returns-in-Some-clause-value c =
    c.parse_toc.ensures.value
    ∙ ap (λ (b : Option ℕ). link_with_toc c.args.entry.now b (texts c.in-Some.option.rest.now))
    c.branch_span_of.ensures.span
    ∙ ap (link_by_branch c.args.entry.now (texts c.args.words.now)) c.in-Some.ensures

-- the usual one
pub returns-in-None-clause-value : goal.returns-in-None-clause-value
unfolding link_with_branch
returns-in-None-clause-value c =
    c.parse_toc-in-None.ensures.value
    ∙ ap (link_by_branch c.args.entry.now (texts c.args.words.now)) c.in-None.ensures
