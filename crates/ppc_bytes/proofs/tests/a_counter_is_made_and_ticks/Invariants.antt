use Rattle.ppc_bytes.proofs.tests.a_counter_is_made_and_ticks.Given as goal

abbrev pub ghosts-two_steps : goal.ghosts-two_steps
ghosts-two_steps a = record { name = a.blank.name; parts = a.blank.parts }
