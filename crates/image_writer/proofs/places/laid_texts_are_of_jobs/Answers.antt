use Rattle.image_writer.proofs.SoundJobs.{laid_job}
use Rattle.image_writer.proofs.places.laid_texts_are_of_jobs.Goals as goal

-- its shape is sound
pub returns : goal.returns
returns c = λ files plan sites span t far p whole has few is_span is.
    laid_job files plan sites whole has (c.data_is_placed.ensures files plan.span whole has.plan_is.fits) few span t far p is_span is
