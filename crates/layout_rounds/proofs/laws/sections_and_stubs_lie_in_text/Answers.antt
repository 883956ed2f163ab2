use Rattle.layout_rounds.proofs.Lying.{section_lies, stub_lies}
use Rattle.layout_rounds.proofs.Multiples.{section_fourth}
use Rattle.layout_rounds.proofs.laws.sections_and_stubs_lie_in_text.Goals as goal

-- the greatest end is no less than each section's
pub returns-clause-sections : goal.returns-clause-sections
returns-clause-sections c t F s keyed lt = section_lies t keyed F s lt

-- its alignment is at least an instruction's
pub returns-clause-instructions : goal.returns-clause-instructions
returns-clause-instructions c t F s keyed lt = section_fourth t keyed F s lt

-- and than each stub's
pub returns-clause-stubs : goal.returns-clause-stubs
returns-clause-stubs c t F k keyed lt some = stub_lies t keyed F k lt some
