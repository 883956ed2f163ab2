use Rattle.layout_rounds.proofs.Lying.{section_before, stub_apart, stubs_apart}
use Rattle.layout_rounds.proofs.laws.sections_and_stubs_are_apart.Goals as goal

-- sections stand one behind the other, by groups and in each group
pub returns-clause-sections : goal.returns-clause-sections
returns-clause-sections c t F s r keyed lt within = section_before t keyed F s r lt within

-- a stub stands in its area, behind the sections of its group
pub returns-clause-beside : goal.returns-clause-beside
returns-clause-beside c t F s k keyed lt in_keys = stub_apart t keyed F s k lt in_keys

-- stubs stand one behind the other in their area
pub returns-clause-stubs : goal.returns-clause-stubs
returns-clause-stubs c t F j k keyed lt in_keys = stubs_apart t keyed F j k lt in_keys
