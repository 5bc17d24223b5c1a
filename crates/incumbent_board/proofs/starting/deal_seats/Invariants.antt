use Rattle.std.proofs.Common.{◌≡◌, ◌-◌, [], ◌∷◌, replicate}
use Rattle.crossbeam_utils.specs.Seq.{cell_view}
use Rattle.incumbent_board.specs.Rule.{ALL, sight}
use Rattle.incumbent_board.specs.Boards.{new_seat_of}
use Rattle.incumbent_board.proofs.starting.deal_seats.Given as goal

abbrev pub invariant-loop-given : goal.invariant-loop-given
invariant-loop-given l = record {
  cell : l.pass.table_id ≡ l.fn.pass.table_id;
  view : cell_view l.pass ≡ sight (ALL - l._given) (l.first ∷ []) [] [] [];
  dealt : l.dealt.items ≡ replicate l._given (new_seat_of (record { cell = l.fn.pass.table_id; first = l.first }) 1);
}
