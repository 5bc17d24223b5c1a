use Rattle.incumbent_board.proofs.cell.try_place.Given as goal

abbrev pub ghosts-try_place_as : goal.ghosts-try_place_as
ghosts-try_place_as g a = record { offer = a.offer.now; expected = a.expected }
