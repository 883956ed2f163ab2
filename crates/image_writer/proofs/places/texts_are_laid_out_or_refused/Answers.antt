use Rattle.image_writer.proofs.SomeText.{some_text}
use Rattle.image_writer.proofs.SoundJobs.{sound_shape}
use Rattle.image_writer.proofs.places.texts_are_laid_out_or_refused.Goals as goal

-- by the far set that each shape has
pub returns : goal.returns
returns c = λ files plan sites shape span whole has few is is_span.
    let sound = sound_shape files plan sites whole has (c.data_is_placed.ensures files plan.span whole has.plan_is.fits) few shape is in
    some_text files plan sites span shape is sound is_span (c.some_far_set.ensures shape span sound is_span)
    (λ F G less k within near. c.reach_shrinks.ensures shape span F G sound is_span less k within near)
