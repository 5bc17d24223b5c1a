use Rattle.belief_update.proofs.trail.Trail.go_to.Given as goal

abbrev pub ghosts-go_counting : goal.ghosts-go_counting
ghosts-go_counting a = record { name = a.blank.name; parts = a.blank.parts }
