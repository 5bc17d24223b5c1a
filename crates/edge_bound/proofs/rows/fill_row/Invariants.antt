use Rattle.std.proofs.Common.{◌≡◌, ◌<◌, ◌+◌, ◌-◌, ℕ, length, slice_index}
use Rattle.search_model.specs.Bounds.{reward_of}
use Rattle.search_model.specs.Edge.{edge_reward_of}
use Rattle.edge_bound.specs.Moves.{greatest_moves}
use Rattle.edge_bound.proofs.rows.fill_row.Given as goal

-- the positions so far
abbrev pub invariant-loop-a : goal.invariant-loop-a
invariant-loop-a l = record {
  row : (j : ℕ) → j < l.a-index → let a = slice_index l.some j in
      slice_index l.row a ≡ reward_of l.sc l.prefix (l.t - 1) a + greatest_moves l.sc.moves (edge_reward_of l.sc l.prefix) (l.sc.horizon + 1 - l.t) l.t a;
  size : length l.row ≡ length l.initial.row;
}
