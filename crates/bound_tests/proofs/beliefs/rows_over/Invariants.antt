use Rattle.bound_tests.proofs.beliefs.rows_over.Given as goal

abbrev pub ghosts-rows_are_right : goal.ghosts-rows_are_right
ghosts-rows_are_right a = record { name = a.blank.name; parts = a.blank.parts }
