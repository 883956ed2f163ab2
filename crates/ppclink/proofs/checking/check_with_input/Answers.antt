-- The files are run with their input, or there is none.
use Rattle.std.proofs.Common.{refl}
use Rattle.std.specs.Option.{option_map}
use Rattle.ppclink.specs.inside.Commands.{link_options}
use Rattle.ppclink.proofs.CheckedFiles.{check_causes, check_no_input}
use Rattle.ppclink.proofs.Choosing.{counts_none, read_counts}
use Rattle.ppclink.proofs.checking.check_with_input.Goals as goal

pub returns-in-Ok-clause-causes : goal.returns-in-Ok-clause-causes
returns-in-Ok-clause-causes g c =
    check_causes _ _ (link_options c.args.options) _ _ (option_map (λ i. i.now) c.args.run.input) c.in-Ok.input.items
    c.args.run.budget c.check_fetched.result c.in-Ok.ensures.kept c.requires.read c.in-Ok.ensures.ok c.check_fetched.ensures.report

pub returns-in-Ok-clause-steps : goal.returns-in-Ok-clause-steps
returns-in-Ok-clause-steps g c =
    read_counts _ (link_options c.args.options) _ _ _ _ c.requires.read c.check_fetched.ensures.steps

pub returns-in-Err-clause-causes : goal.returns-in-Err-clause-causes
returns-in-Err-clause-causes g c =
    check_no_input _ _ (link_options c.args.options) _ _ (option_map (λ i. i.now) c.args.run.input) c.args.run.budget
    c.in-Err.report c.requires.read c.in-Err.ensures.report

pub returns-in-Err-clause-steps : goal.returns-in-Err-clause-steps
returns-in-Err-clause-steps g c = counts_none _ _ _ _ _ refl
