-- A file of the check that can't be read is named.
use Rattle.std.proofs.Common.{refl}
use Rattle.std.specs.Option.{option_map}
use Rattle.ppclink.specs.Requests.{texts}
use Rattle.ppclink.specs.inside.Commands.{link_options}
use Rattle.ppclink.proofs.CheckedFiles.{check_unread}
use Rattle.ppclink.proofs.Choosing.{counts_none}
use Rattle.ppclink.proofs.checking.perform_check.Goals as goal

pub returns-in-Err-clause-causes : goal.returns-in-Err-clause-causes
returns-in-Err-clause-causes g c =
    check_unread _ _ (link_options c.args.options) (texts c.args.names.now) (option_map (λ i. i.now) c.args.run.input)
    c.args.run.budget c.in-Err.cause c.unfetched_report.result c.in-Err.ensures.cause c.unfetched_report.ensures

pub returns-in-Err-clause-steps : goal.returns-in-Err-clause-steps
returns-in-Err-clause-steps g c = counts_none _ (link_options c.args.options) (texts c.args.names.now) _ _ refl
