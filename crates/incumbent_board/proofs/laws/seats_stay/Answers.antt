use Rattle.incumbent_board.proofs.SameSeats.{seats_stay}
use Rattle.incumbent_board.proofs.laws.seats_stay.Goals as goal

pub returns : goal.returns
returns c = seats_stay
