use Rattle.image_writer.proofs.PlainTexts.{one_text}
use Rattle.image_writer.proofs.rewriting.texts_are_one.Goals as goal

-- a load has one access
pub returns : goal.returns
returns c = one_text
