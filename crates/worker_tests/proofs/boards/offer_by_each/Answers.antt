use Rattle.std.proofs.Common.{rules}
use Rattle.incumbent_board.proofs.SameSeats.{seats_stay}
use Rattle.worker_tests.proofs.boards.offer_by_each.Goals as goal

pub returns-clause-all : goal.returns-clause-all
returns-clause-all g c = seats_stay c.args.board.now c.args.seats.now _ (search rules) (search rules) c.requires.all
