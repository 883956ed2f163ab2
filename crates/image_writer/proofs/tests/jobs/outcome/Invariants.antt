use Rattle.image_writer.proofs.tests.jobs.outcome.Given as goal

-- the ledger is that of the blank
abbrev pub ghosts-text_of : goal.ghosts-text_of
ghosts-text_of a = record { name = a.blank.name; parts = a.blank.parts }
