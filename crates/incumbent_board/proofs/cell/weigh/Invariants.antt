use Rattle.std.proofs.Common.{[]}
use Rattle.incumbent_board.proofs.cell.weigh.Given as goal

abbrev pub ghosts-weigh_as : goal.ghosts-weigh_as
ghosts-weigh_as g a = record { offer = a.offer.now; expected = [] }
