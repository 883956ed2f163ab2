use Rattle.prefixed_insns.specs.laws.ShortForms.{reads_base, short_words_are_high, short_form_fits}
use Rattle.prefixed_insns.proofs.laws.short_forms_are_told.Goals as goal

-- the opcode of each is 32 or more
pub returns-clause-word : goal.returns-clause-word
returns-clause-word c = short_words_are_high

-- each reads its base
pub returns-clause-base : goal.returns-clause-base
returns-clause-base c = reads_base

-- the parts of each fit
pub returns-clause-fits : goal.returns-clause-fits
returns-clause-fits c = short_form_fits
