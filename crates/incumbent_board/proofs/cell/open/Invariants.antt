use Rattle.std.proofs.Common.{[]}
use Rattle.incumbent_board.proofs.cell.open.Given as goal

abbrev pub ghosts-open_as : goal.ghosts-open_as
ghosts-open_as a = record { offer = a.first.now; expected = [] }
