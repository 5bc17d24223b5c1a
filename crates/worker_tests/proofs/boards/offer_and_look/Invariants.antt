use Rattle.incumbent_board.specs.Boards.{IsSameSeat}
use Rattle.worker_tests.proofs.boards.offer_and_look.Given as goal

abbrev pub invariant-loop-turn : goal.invariant-loop-turn
invariant-loop-turn g l = IsSameSeat l.fn.seat l.seat
