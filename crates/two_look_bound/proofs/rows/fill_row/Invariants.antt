use Rattle.std.proofs.Common.{◌≡◌, ◌+◌, ◌*◌, ◌<◌, ℕ, length, slice_index, Contains}
use Rattle.search_grid.specs.Moves.{moves_from}
use Rattle.two_look_bound.specs.Pairs.{edge_and_rest}
use Rattle.two_look_bound.proofs.rows.fill_row.Given as goal

-- the rows of the positions so far
abbrev pub invariant-loop-a : goal.invariant-loop-a
invariant-loop-a l = record {
  each : (j b : ℕ) → j < l.a-index → let a = slice_index l.some j in Contains (moves_from l.given.sc.now.moves a) b →
      slice_index l.earlier (a * l.given.sc.now.positions + b) ≡ edge_and_rest l.given.sc.now l.given.prefix.now l.s a b;
  size : length l.earlier ≡ length l.initial.earlier;
  room : length l.room ≡ length l.initial.room;
}
