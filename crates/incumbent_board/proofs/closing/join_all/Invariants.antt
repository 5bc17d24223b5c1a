use Rattle.std.proofs.Common.{◌≡◌, ◌++◌}
use Rattle.crossbeam_utils.specs.Seq.{cell_view, IsSamePass}
use Rattle.incumbent_board.specs.Joins.{Gathers}
use Rattle.incumbent_board.proofs.closing.join_all.Given as goal

-- the seats so far are joined
abbrev pub invariant-loop-seat : goal.invariant-loop-seat
invariant-loop-seat l = record {
  split : l.fn.seats.items ≡ l.yielded ++ l.seat-iterator.rest.items;
  same : IsSamePass l.fn.place l.place;
  joins : Gathers (cell_view l.fn.place) l.yielded (cell_view l.place);
}
