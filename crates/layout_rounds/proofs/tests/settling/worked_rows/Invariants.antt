use Rattle.layout_rounds.proofs.tests.settling.worked_rows.Given as goal

-- the ledger is that of the blank
abbrev pub ghosts-rows : goal.ghosts-rows
ghosts-rows a = record { name = a.blank.name; parts = a.blank.parts }
