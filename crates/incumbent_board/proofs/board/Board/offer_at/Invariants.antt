use Rattle.crossbeam_utils.specs.Seq.{cell_view, IsSamePass}
use Rattle.incumbent_board.proofs.Offering.{Weighed}
use Rattle.incumbent_board.proofs.board.Board.offer_at.Given as goal

abbrev pub invariant-tries : goal.invariant-tries
invariant-tries g l = IsSamePass l.initial.place l.place × Weighed l.self.first l.s (cell_view l.fn.place) l.held (cell_view l.place)
