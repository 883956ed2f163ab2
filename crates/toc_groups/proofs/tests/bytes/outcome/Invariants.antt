use Rattle.toc_groups.proofs.tests.bytes.outcome.Given as goal

-- the ledger is that of the blank
abbrev pub ghosts-texts : goal.ghosts-texts
ghosts-texts a = record { name = a.blank.name; parts = a.blank.parts }
