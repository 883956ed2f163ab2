use Rattle.layout_rounds.proofs.tests.settling.random_rows.Given as goal

-- the ledger is that of the blank
abbrev pub ghosts-random_shapes : goal.ghosts-random_shapes
ghosts-random_shapes a = record { name = a.blank.name; parts = a.blank.parts }
