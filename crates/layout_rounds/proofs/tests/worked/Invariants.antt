use Rattle.layout_rounds.proofs.tests.worked.Given as goal

-- the ledger is that of the blank
abbrev pub ghosts-layouts : goal.ghosts-layouts
ghosts-layouts a = record { name = a.blank.name; parts = a.blank.parts }
