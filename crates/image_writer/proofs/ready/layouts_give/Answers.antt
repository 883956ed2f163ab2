use Rattle.image_writer.proofs.Giving.{layout_gives}
use Rattle.image_writer.proofs.ready.layouts_give.Goals as goal

-- law by law
pub returns : goal.returns
returns c = λ files plan sites t far p job.
    layout_gives files plan sites t far p job c.calls_have_keys.ensures.keyed c.calls_have_keys.ensures.count
    c.calls_have_keys.ensures.numbered c.sections_and_stubs_lie_in_text.ensures.sections
    c.sections_and_stubs_lie_in_text.ensures.instructions c.sections_and_stubs_lie_in_text.ensures.stubs
    c.branches_stay_in_reach.ensures.calls c.branches_stay_in_reach.ensures.stubs
    c.sections_and_stubs_are_apart.ensures.sections c.sections_and_stubs_are_apart.ensures.beside
    c.sections_and_stubs_are_apart.ensures.stubs
