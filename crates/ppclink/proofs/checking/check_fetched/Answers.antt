-- The job that files come to is run, and their refusal is told by its line.
use Rattle.std.proofs.Common.{refl}
use Rattle.object_set.specs.Files.{contents_of}
use Rattle.ppclink.specs.Jobs.{names_of_files}
use Rattle.ppclink.specs.inside.Commands.{link_options}
use Rattle.ppclink.proofs.CheckedFiles.{job_says, fault_says}
use Rattle.ppclink.proofs.Choosing.{none_for}
use Rattle.ppclink.proofs.Linking.{job_counts}
use Rattle.ppclink.proofs.checking.check_fetched.Goals as goal

-- nothing is counted where the options find no memory
pub returns-in_default-clause-steps : goal.returns-in_default-clause-steps
returns-in_default-clause-steps g c =
    none_for (link_options c.args.options) (names_of_files c.args.files.items) (contents_of c.args.files.items) _ _ refl

pub returns-in-Ok-job_of-clause-report : goal.returns-in-Ok-job_of-clause-report
returns-in-Ok-job_of-clause-report g c =
    job_says (link_options c.args.options) c.in-Ok.options c.args.budget c.args.input.items c.args.files.items c.in-Ok-job_of.job.items
    c.as_slice.result.now c.check_job.result c.in-Ok.ensures c.as_slice.ensures.value c.in-Ok-job_of.ensures.job
    c.check_job.ensures.report

pub returns-in-Ok-job_of-clause-steps : goal.returns-in-Ok-job_of-clause-steps
returns-in-Ok-job_of-clause-steps g c =
    job_counts (link_options c.args.options) c.in-Ok.options c.args.files.items c.in-Ok-job_of.job.items c.as_slice.result.now _ _
    c.in-Ok.ensures c.as_slice.ensures.value c.in-Ok-job_of.ensures.job c.check_job.ensures.steps

pub returns-in-Err-clause-report : goal.returns-in-Err-clause-report
returns-in-Err-clause-report g c =
    fault_says (link_options c.args.options) c.in-Ok.options c.args.budget c.args.input.items c.args.files.items c.in-Err.report
    c.in-Ok.ensures c.in-Err.ensures.report

pub returns-in-Err-clause-steps : goal.returns-in-Err-clause-steps
returns-in-Err-clause-steps g c =
    none_for (link_options c.args.options) (names_of_files c.args.files.items) (contents_of c.args.files.items) _ _ refl
