-- The job that files come to is linked, and their refusal is told by its line.
use Rattle.std.proofs.Common.{refl}
use Rattle.ppclink.specs.inside.Commands.{link_options}
use Rattle.ppclink.proofs.Choosing.{counts_none, read_counts}
use Rattle.ppclink.proofs.Linking.{job_goes, job_counts, fault_goes}
use Rattle.ppclink.proofs.jobs.link_fetched.Goals as goal

-- nothing is counted where the options find no memory
pub returns-in_default-clause-steps : goal.returns-in_default-clause-steps
returns-in_default-clause-steps g c = counts_none _ _ _ _ _ refl

pub returns-in-Ok-job_of-clause-causes : goal.returns-in-Ok-job_of-clause-causes
returns-in-Ok-job_of-clause-causes g c =
    job_goes _ _ c.args.out.now (link_options c.args.options) c.in-Ok.options c.args.files.items c.in-Ok-job_of.job.items
    c.as_slice.result.now c.link_job.result c.in-Ok.ensures c.as_slice.ensures.value c.requires.read c.in-Ok-job_of.ensures.job
    c.link_job.ensures.report

pub returns-in-Ok-job_of-clause-steps : goal.returns-in-Ok-job_of-clause-steps
returns-in-Ok-job_of-clause-steps g c =
    read_counts _ (link_options c.args.options) _ _ _ _ c.requires.read
    (job_counts (link_options c.args.options) c.in-Ok.options c.args.files.items c.in-Ok-job_of.job.items c.as_slice.result.now _ _
    c.in-Ok.ensures c.as_slice.ensures.value c.in-Ok-job_of.ensures.job c.link_job.ensures.steps)

pub returns-clause-causes : goal.returns-clause-causes
returns-clause-causes g c =
    fault_goes _ c.args.out.now (link_options c.args.options) c.in-Ok.options c.args.files.items c.in-Err.report c.in-Ok.ensures
    c.requires.read c.in-Err.ensures.report

pub returns-clause-steps : goal.returns-clause-steps
returns-clause-steps g c = counts_none _ _ _ _ _ refl
