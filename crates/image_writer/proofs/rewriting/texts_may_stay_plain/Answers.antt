use Rattle.image_writer.proofs.PlainTexts.{plain, plain_overflow}
use Rattle.image_writer.proofs.rewriting.texts_may_stay_plain.Goals as goal

-- record by record
pub returns-clause-text : goal.returns-clause-text
returns-clause-text c = plain

-- the checks too
pub returns-clause-overflow : goal.returns-clause-overflow
returns-clause-overflow c = plain_overflow
